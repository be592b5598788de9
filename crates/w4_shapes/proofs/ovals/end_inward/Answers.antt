use Rattle.std.proofs.Common.{◌≡◌, ◌-◌, true, false, arith, sym, ◌∙◌, inl, inr}
use Rattle.std.specs.Prelude.{nat_lt}
use Rattle.std.proofs.lemmas.Bool.{cases_lt}
use Rattle.std.proofs.lemmas.Bool.Decides.{nat_tests}
use Rattle.w4_shapes.proofs.OvalLaws.{right_outside, right_within}
use Rattle.w4_shapes.proofs.ovals.end_inward.Goals as goal

pub returns-then-within-clause-same : goal.returns-then-within-clause-same
returns-then-within-clause-same c = λ s low high. elim (cases_lt s (c.args.from - c.loop-step.step)) [
  | inl before ↦ (
      let here : nat_lt s (c.args.from - c.loop-step.step) ≡ true = grind (arith, nat_tests) in
      right_within c.args.columns s
      (c.args.from - c.loop-step.step - 1) c.args.limit
      low (omega arith) (omega arith) (sym c.within.ensures ∙ c.if-within.true)
      ∙ sym here)
  | inr after ↦ (
      let bare : nat_lt s (c.args.from - c.loop-step.step) ≡ false = grind (arith, nat_tests) in
      c.loop-step.invariant s after high ∙ sym bare)
]

pub loop-step-preserved : goal.loop-step-preserved
loop-step-preserved c = λ s low high.
    right_outside c.args.columns
    (c.args.from - c.loop-step.step - 1) s c.args.limit
    (omega arith) (omega arith) high (sym c.within.ensures ∙ c.if-within.false)

pub returns-clause-same : goal.returns-clause-same
returns-clause-same c = λ s low high.
    let bare : nat_lt s c.args.columns.middle ≡ false = grind (arith, nat_tests) in
    c.loop-step.invariant s (omega arith) high ∙ sym bare
