use Rattle.std.proofs.Common.{ℕ, ◌*◌, ◌<◌, ◌∙◌, sym, ap, inr, arith}
use Rattle.w4_blit.specs.Strips.{masked_index}
use Rattle.w4_blit.proofs.StripLaws.{is_mask_digit, ones_digit, plain_some}
use Rattle.w4_blit.proofs.inks.plain.Goals as goal

pub invariant_of-result-2 : goal.invariant_of-result-2
invariant_of-result-2 c = record { given = λ k hk. is_mask_digit _ (inr (ones_digit k hk)) }

pub returns : goal.returns
returns c = λ k hk.
    let small : c.in-Some.index < 4 = omega (arith, c.number.ensures.value, c.number.ensures.bound) in
    ap (λ (n : ℕ). masked_index (1431655765 * n) 4294967295 k) (c.from.ensures ∙ c.number.ensures.value)
    ∙ plain_some c.in-Some.index k small hk ∙ sym c.in-Some.is
