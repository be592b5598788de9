use Rattle.std.proofs.Common.{◌≡◌, true, false, arith, sym, ◌∙◌, inl, inr}
use Rattle.std.specs.Prelude.{nat_le}
use Rattle.std.proofs.lemmas.Bool.{cases_lt}
use Rattle.std.proofs.lemmas.Bool.Decides.{nat_tests}
use Rattle.w4_shapes.proofs.OvalLaws.{left_outside, left_within}
use Rattle.w4_shapes.proofs.ovals.first_inward.Goals as goal

pub returns-then-within-clause-same : goal.returns-then-within-clause-same
returns-then-within-clause-same c = λ s low high. elim (cases_lt s c.loop-s.s) [
  | inl before ↦ (
      let bare : nat_le c.loop-s.s s ≡ false = grind (arith, nat_tests) in
      c.loop-s.invariant s low before ∙ sym bare)
  | inr after ↦ (
      let here : nat_le c.loop-s.s s ≡ true = grind (arith, nat_tests) in
      left_within c.args.columns c.loop-s.s s c.args.limit
      (omega arith) after high
      (sym c.within.ensures ∙ c.if-within.true)
      ∙ sym here)
]

pub loop-s-preserved : goal.loop-s-preserved
loop-s-preserved c = λ s low high.
    left_outside c.args.columns s c.loop-s.s c.args.limit low (omega arith)
    c.loop-s-test.true (sym c.within.ensures ∙ c.if-within.false)

pub returns-clause-same : goal.returns-clause-same
returns-clause-same c = λ s low high.
    let bare : nat_le c.args.columns.middle s ≡ false = grind (arith, nat_tests) in
    c.loop-s.invariant s low (omega arith) ∙ sym bare
