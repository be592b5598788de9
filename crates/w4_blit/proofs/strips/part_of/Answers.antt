use Rattle.std.proofs.Common.{◌∙◌, inl, inr, arith}
use Rattle.std.proofs.lemmas.Bool.{cases_lt}
use Rattle.w4_blit.proofs.StripLaws.{below_digit, high_digit, is_mask_digit, low_digit, mask_digit}
use Rattle.w4_blit.proofs.StripLaws.{masked_same, past_digit, zero_digit}
use Rattle.w4_blit.proofs.strips.part_of.Goals as goal

pub returns-clause-inside : goal.returns-clause-inside
returns-clause-inside c = λ k hl hh.
    masked_same c.args.strip.indices c.chosen-2.result c.args.strip.mask k
    (c.chosen-2.ensures.other k (omega arith) (low_digit c.args.low k c.requires.low (omega arith) hl)
    ∙ c.chosen.ensures.other k (omega arith) (high_digit c.args.high k c.requires.high hh))

pub returns-clause-outside : goal.returns-clause-outside
returns-clause-outside c = λ k hk out. elim (cases_lt k c.args.low) [
  | inl low ↦ c.chosen-2.ensures.word k hk (below_digit c.args.low k c.requires.low hk low) ∙ zero_digit k
  | inr from ↦ elim out [
    | inl low ↦ absurd (omega arith)
    | inr high ↦ c.chosen-2.ensures.other k hk (low_digit c.args.low k c.requires.low hk from)
        ∙ c.chosen.ensures.word k hk (past_digit c.args.high k c.requires.some c.requires.high hk high)
        ∙ zero_digit k
  ]
]

pub invariant_of-result : goal.invariant_of-result
invariant_of-result c = record {
  given = λ k hk. is_mask_digit _ (elim (cases_lt k c.args.low) [
    | inl low ↦ inl (c.chosen-2.ensures.word k hk (below_digit c.args.low k c.requires.low hk low) ∙
        zero_digit
        k)
    | inr from ↦ (
        let outer = c.chosen-2.ensures.other k hk (low_digit c.args.low k c.requires.low hk from) in
        elim (cases_lt k c.args.high) [
          | inr high ↦ inl (outer
              ∙ c.chosen.ensures.word k hk (past_digit c.args.high k c.requires.some c.requires.high hk high)
              ∙ zero_digit k)
          | inl to ↦ (
              let inner = c.chosen.ensures.other k hk (high_digit c.args.high k c.requires.high to) in
              elim (mask_digit c.args.strip.mask k c.args.strip.given hk) [
                | inl none ↦ inl (outer ∙ inner ∙ none)
                | inr some ↦ inr (outer ∙ inner ∙ some)
              ])
        ])
  ]);
}
