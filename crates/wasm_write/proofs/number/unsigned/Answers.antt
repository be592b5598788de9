use Rattle.std.proofs.Common.{◌++◌, ◌/◌, ◌∙◌, ap, sym, arith}
use Rattle.w4_defs.specs.EncodeNumber.{unsigned_bytes}
use Rattle.wasm_write.proofs.NumberLaws.{unsigned-last, unsigned_byte}
use Rattle.wasm_write.proofs.number.unsigned.Goals as goal

pub loop-left-preserved : goal.loop-left-preserved
loop-left-preserved c =
    ap (λ s. s ++ unsigned_bytes (c.loop-left.left / 128)) c.in_ok-push.ensures.items
    ∙ unsigned_byte c.loop-left.out.items c.loop-left.left (omega arith)
    ∙ c.loop-left.invariant

pub returns : goal.returns
returns c =
    c.in_ok-push-2.ensures.items
    ∙ ap (λ s. c.loop-left.out.items ++ s) (sym (unsigned-last c.loop-left.left (omega arith)))
    ∙ c.loop-left.invariant
