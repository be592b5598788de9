use Rattle.std.proofs.Common.{ℕ, ◌+◌, ◌-◌, ◌/◌, ◌%◌, ◌^◌, ◌∙◌, ap, inl, inr, arith}
use Rattle.std.proofs.lemmas.Bool.{cases_lt}
use Rattle.w4_blit.proofs.StripLaws.{bit_mask, is_mask_digit, past_eight}
use Rattle.w4_blit.proofs.spread.placed.Goals as goal

pub returns-clause-bits : goal.returns-clause-bits
returns-clause-bits c = λ d ht hd.
    c.moved.ensures.digits d ht
    ∙ ap (λ (n : ℕ). n / 4 ^ (c.args.from + d) % 4) c.from.ensures ∙ c.spread.ensures (c.args.from + d) hd

pub returns-clause-mask : goal.returns-clause-mask
returns-clause-mask c = c.moved.ensures.mask (λ k hk. is_mask_digit _ (
    elim (cases_lt k 8) [
      | inl here ↦ bit_mask (c.args.byte / 2 ^ (7 - k)) _
          (ap (λ (n : ℕ). n / 4 ^ k % 4) c.from.ensures ∙ c.spread.ensures k here)
      | inr past ↦ inl (ap (λ (n : ℕ). n / 4 ^ k % 4) c.from.ensures ∙ past_eight c.spread.result k (omega
          arith) past)
    ]))
