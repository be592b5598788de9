use Rattle.std.proofs.Common.{ℕ, ◌/◌, ◌%◌, ◌^◌, ◌∙◌, ap}
use Rattle.w4_blit.specs.Strips.{partner}
use Rattle.w4_blit.proofs.DigitLaws.{other_end, swaps_eight, swaps_four, swaps_one, swaps_two}
use Rattle.w4_blit.proofs.digits.reversed.Goals as goal

pub swapped-ones-requires-clause-mask : goal.swapped-ones-requires-clause-mask
swapped-ones-requires-clause-mask c = swaps_one

pub swapped-twos-requires-clause-mask : goal.swapped-twos-requires-clause-mask
swapped-twos-requires-clause-mask c = swaps_two

pub swapped-fours-requires-clause-mask : goal.swapped-fours-requires-clause-mask
swapped-fours-requires-clause-mask c = swaps_four

pub swapped-requires-clause-mask : goal.swapped-requires-clause-mask
swapped-requires-clause-mask c = swaps_eight

pub returns : goal.returns
returns c = λ k hk.
    let eighth = partner 8 k in
    let fourth = partner 4 eighth in
    let second = partner 2 fourth in
    let h8 = (swaps_eight k hk).0 in
    let h4 = (swaps_four eighth h8).0 in
    let h2 = (swaps_two fourth h4).0 in
    c.swapped.ensures k hk ∙ c.swapped-fours.ensures eighth h8 ∙ c.swapped-twos.ensures fourth h4
    ∙ c.swapped-ones.ensures second h2 ∙ ap (λ (j : ℕ). c.args.word / 4 ^ j % 4) (other_end k hk)
