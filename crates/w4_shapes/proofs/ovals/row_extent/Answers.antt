use Rattle.std.proofs.Common.{inl, inr, ◌∙◌, arith}
use Rattle.std.specs.Prelude.{nat_le, nat_lt}
use Rattle.std.proofs.lemmas.Bool.{cases_lt}
use Rattle.w4_shapes.proofs.OvalLaws.{has_left, has_right}
use Rattle.w4_shapes.proofs.ovals.row_extent.Goals as goal

pub returns-clause-spans : goal.returns-clause-spans
returns-clause-spans c = λ s low high. c.row_limit-limit.ensures s ∙ elim (cases_lt s c.args.columns.middle) [
  | inl left ↦ c.first_inward.ensures.same s low left
      ∙ has_left (nat_le c.first_inward.result s) s c.end_inward.result (omega arith)
  | inr right ↦ c.end_inward.ensures.same s right high
      ∙ has_right (nat_lt s c.end_inward.result) c.first_inward.result s (omega arith)
]
