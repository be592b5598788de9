use Rattle.std.proofs.Common.{◌≡◌, ◌<◌, ◌++◌, ◌-◌, ◌/◌, ◌∙◌, ap, sym, arith, true, false, [], ◌∷◌}
use Rattle.w4_defs.specs.EncodeNumber.{is_last, signed_bytes}
use Rattle.wasm_write.proofs.NumberLaws.{signed-last, signed_byte, more_than_seven, rest_fits}
use Rattle.wasm_write.proofs.number.signed.Goals as goal

pub loop-out-preserved : goal.loop-out-preserved
loop-out-preserved c =
    let more : is_last c.loop-out.bits c.loop-out.left ≡ false = cc in
    let wide : 7 < c.loop-out.bits =
    more_than_seven c.loop-out.bits c.loop-out.left c.loop-out.invariant.fits more in
    record {
      positive = omega arith;
      width = omega arith;
      fits = rest_fits c.loop-out.bits c.loop-out.left wide c.loop-out.invariant.fits;
      written =
          ap (λ s. s ++ signed_bytes (c.loop-out.bits - 7) (c.loop-out.left / 128)) c.in_ok-push.ensures.items
          ∙ signed_byte c.loop-out.out.items c.loop-out.bits c.loop-out.left c.loop-out.invariant.fits more
          ∙ c.loop-out.invariant.written;
    }

pub returns : goal.returns
returns c =
    let last : is_last c.loop-out.bits c.loop-out.left ≡ true = cc in
    c.in_ok-push-2.ensures.items
    ∙ ap (λ s. c.loop-out.out.items ++ s)
    (ap (λ b. b ∷ []) c.last_byte.ensures ∙ sym (signed-last c.loop-out.bits c.loop-out.left last))
    ∙ c.loop-out.invariant.written
