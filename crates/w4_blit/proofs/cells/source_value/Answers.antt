use Rattle.std.proofs.Common.{◌≡◌, ℕ, ◌-◌, ◌*◌, ◌/◌, ◌%◌, ◌^◌, true, sym, ◌∙◌, refl, arith}
use Rattle.w4_defs.specs.Blit.{has_flag}
use Rattle.w4_defs.proofs.PaintLaws.{below_four}
use Rattle.w4_blit.proofs.cells.source_value.Goals as goal

-- two bits from bit 6 - 2k are the digit 3 - k in base 4
two_bits : (byte pixel : ℕ) → byte / 2 ^ (6 - 2 * (pixel % 4)) % 4 ≡ byte / 4 ^ (3 - pixel % 4) % 4
two_bits byte pixel =
    let P : ℕ → Type 0 = λ k. byte / 2 ^ (6 - 2 * k) % 4 ≡ byte / 4 ^ (3 - k) % 4 in
    below_four P refl refl refl refl (pixel % 4) (omega arith)

pub returns-then-has_flag-clause-value : goal.returns-then-has_flag-clause-value
returns-then-has_flag-clause-value c =
    let flag : has_flag c.args.sprite.now 1 ≡ true = sym c.has_flag.ensures ∙ c.if-has_flag.true in
    rw (c.byte_at.ensures, c.from-ptr.ensures, flag) (two_bits _ c.args.pixel)
