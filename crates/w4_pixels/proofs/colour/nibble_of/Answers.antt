use Rattle.std.proofs.Common.{◌≡◌, ℕ, ◌-◌, ◌*◌, ◌/◌, ◌%◌, ◌^◌, ◌<◌, refl, arith}
use Rattle.w4_defs.proofs.PaintLaws.{below_four}
use Rattle.w4_pixels.proofs.colour.nibble_of.Goals as goal

-- a shift by 4k is a division by 16^k
shifted : (colors k : ℕ) → k < 4 → colors / 2 ^ (4 * k) % 16 ≡ colors / 16 ^ k % 16
shifted colors k h =
    let P : ℕ → Type 0 = λ j. colors / 2 ^ (4 * j) % 16 ≡ colors / 16 ^ j % 16 in
    below_four P refl refl refl refl k h

pub returns : goal.returns
returns c = rw c.from.ensures (shifted c.args.colors (c.args.number - 1) (omega arith))
