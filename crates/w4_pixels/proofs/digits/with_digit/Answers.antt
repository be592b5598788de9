use Rattle.std.proofs.Common.{ℕ, ◌/◌, ◌%◌, ◌^◌, ◌∙◌, ap}
use Rattle.std.specs.Prelude.{◌==◌, if◌then◌else◌}
use Rattle.w4_pixels.proofs.DigitLaws.{chosen_digit, three_or_none}
use Rattle.w4_pixels.proofs.digits.with_digit.Goals as goal

pub masked-requires : goal.masked-requires
masked-requires c = λ j hj. three_or_none (j == c.args.k) _ (c.digit_mask.ensures j hj)

pub returns : goal.returns
returns c = λ j hj.
    let digit = c.args.byte / 4 ^ j % 4 in
    c.masked.ensures j hj
    ∙ ap (λ (m : ℕ). if m == 3 then c.args.index else digit) (c.digit_mask.ensures j hj)
    ∙ chosen_digit (j == c.args.k) c.args.index digit
