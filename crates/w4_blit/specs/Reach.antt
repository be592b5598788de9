-- The bytes that a sprite's pixels are read from.
use Rattle.std.specs.Prelude.{◌≡◌, ℕ, ◌+◌, ◌/◌, true, false}
use Rattle.w4_defs.specs.declared.sprite.Sprite.{Sprite}
use Rattle.w4_defs.specs.Blit.{has_flag}
use Rattle.w4_blit.specs.FramebufferCopy.{IsAtHand}

-- the byte of the sprite's pixel q stands outside the framebuffer, or is one of the `len` that are kept
abbrev pub InReach : Sprite → ℕ → ℕ → ℕ → Type 0
InReach sprite q first len =
    (has_flag sprite 1 ≡ true → IsAtHand first len (sprite.ptr + q / 4))
    × (has_flag sprite 1 ≡ false → IsAtHand first len (sprite.ptr + q / 8))
