use Rattle.std.proofs.Common.{◌≡◌, ℕ, ◌*◌, ◌/◌, ◌%◌, ◌^◌, refl}
use Rattle.w4_defs.proofs.PaintLaws.{below_four}
use Rattle.w4_pixels.proofs.digits.digit.Goals as goal

pub returns : goal.returns
returns c =
    let P : ℕ → Type 0 = λ j. c.args.byte / 2 ^ (2 * j) % 4 ≡ c.args.byte / 4 ^ j % 4 in
    below_four P refl refl refl refl c.args.k c.requires
