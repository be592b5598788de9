use Rattle.std.proofs.Common.{◌≡◌, ℕ, ◌+◌, ◌-◌, ◌/◌, ◌%◌, ◌^◌, ◌≤◌, Bool, true, false, sym, ◌∙◌, ap, inl, inr}
use Rattle.std.proofs.Common.{arith}
use Rattle.std.specs.Prelude.{◌==◌, if◌then◌else◌}
use Rattle.std.proofs.lemmas.Bool.{cases_eq}
use Rattle.std.proofs.lemmas.Bool.Decides.{nat_tests}
use Rattle.w4_blit.specs.Strips.{partner}
use Rattle.w4_blit.proofs.digits.swapped.Goals as goal

pub returns : goal.returns
returns c = λ k hk.
    let by = c.args.by in
    let word = c.args.word in
    let swaps = c.requires.mask k hk in
    elim (cases_eq (k / by % 2) 0) [
      | inl even ↦ (
          let test : (k / by % 2 == 0) ≡ true = grind (arith, nat_tests) in
          let off : c.args.mask / 4 ^ k % 4 ≡ 0 = swaps.1 ∙ ap (λ (t : Bool). if t then 0 else 3) test in
          let to : by + k ≡ partner by k =
          sym (ap (λ (t : Bool). if t then k + by else k - by) test ∙ omega arith) in
          let here : k ≡ 0 + k = omega arith in
          c.chosen.ensures.word k hk off ∙ ap (λ (j : ℕ). c.moved.result / 4 ^ j % 4) here
          ∙ c.moved.ensures.digits k (omega arith) ∙ ap (λ (j : ℕ). word / 4 ^ j % 4) to)
      | inr odd ↦ (
          let test : (k / by % 2 == 0) ≡ false = grind (arith, nat_tests) in
          let on : c.args.mask / 4 ^ k % 4 ≡ 3 = swaps.1 ∙ ap (λ (t : Bool). if t then 0 else 3) test in
          let below : by ≤ k = grind (arith, nat_tests, swaps.2) in
          let d = k - by in
          let here : k ≡ by + d = omega arith in
          let to : 0 + d ≡ partner by k = sym (ap (λ (t : Bool). if t then k + by else k - by) test ∙ omega
          arith) in
          c.chosen.ensures.other k hk on ∙ ap (λ (j : ℕ). c.moved-2.result / 4 ^ j % 4) here
          ∙ c.moved-2.ensures.digits d (omega arith) ∙ ap (λ (j : ℕ). word / 4 ^ j % 4) to)
    ]
