use Rattle.std.proofs.Common.{◌≡◌, ℕ, ◌+◌, ◌-◌, ◌*◌, ◌/◌, ◌%◌, ◌^◌, ◌∙◌, sym, ap, inl, inr, arith}
use Rattle.std.proofs.lemmas.Bool.{cases_lt}
use Rattle.w4_blit.proofs.StripLaws.{is_mask_digit, left_digit, mask_digit, left_none, past_sixteen}
use Rattle.w4_blit.proofs.StripLaws.{right_digit}
use Rattle.w4_blit.proofs.strips.moved.Goals as goal

pub returns-clause-digits : goal.returns-clause-digits
returns-clause-digits c = λ d hd.
    left_digit (c.args.word / 2 ^ (2 * c.args.from)) c.args.to d hd ∙ right_digit c.args.word c.args.from d

pub returns-clause-mask : goal.returns-clause-mask
returns-clause-mask c = λ h k hk. is_mask_digit _ (
    let from = c.args.from in
    let to = c.args.to in
    let word = c.args.word in
    elim (cases_lt k to) [
      | inl low ↦ inl (left_none (word / 2 ^ (2 * from)) to k c.requires.to low)
      | inr high ↦ (
          let d = k - to in
          let same : to + d ≡ k = omega arith in
          let digit = ap (λ (j : ℕ). word / 2 ^ (2 * from) * 2 ^ (2 * to) % 4294967296 / 4 ^ j % 4) (sym same)
          ∙ left_digit (word / 2 ^ (2 * from)) to d (omega arith) ∙ right_digit word from d in
          elim (cases_lt (from + d) 16) [
            | inl here ↦ elim (mask_digit word (from + d) h here) [
              | inl none ↦ inl (digit ∙ none)
              | inr all ↦ inr (digit ∙ all)
            ]
            | inr past ↦ inl (digit ∙ past_sixteen word (from + d) c.ranges.word.fits past)
          ])
    ])
