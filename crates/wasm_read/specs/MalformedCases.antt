-- Worked cases of bytes that encode no module: the smallest cart with a section's size in too many bytes, the
-- same with a size whose last byte has an unused bit, and a section that is said to be longer than all bytes
-- are.
use Rattle.std.specs.Prelude.{ℕ, List, [], ◌∷◌, ◌++◌}
use Rattle.w4_defs.specs.declared.refusal.CartKind.TheVariants.{Malformed}
use Rattle.w4_defs.specs.BinaryModule.{preamble}
use Rattle.w4_defs.specs.EmptyCart.{empty_cart_head}
use Rattle.w4_defs.specs.Cart.{IsRefused}

-- six bytes for a u32, which has at most five
abbrev pub size_too_long : List ℕ
size_too_long =
    empty_cart_head ++ 0x0a ∷ 0x84 ∷ 0x80 ∷ 0x80 ∷ 0x80 ∷ 0x80 ∷ 0x00 ∷ 0x01 ∷ 0x02 ∷ 0x00 ∷ 0x0b ∷ []

-- a bit past the 32nd in the fifth byte
abbrev pub last_byte_wrong : List ℕ
last_byte_wrong = empty_cart_head ++ 0x0a ∷ 0x84 ∷ 0x80 ∷ 0x80 ∷ 0x80 ∷ 0x10 ∷ 0x01 ∷ 0x02 ∷ 0x00 ∷ 0x0b ∷ []

abbrev pub section_past_the_end : List ℕ
section_past_the_end = preamble ++ 0x01 ∷ 0x05 ∷ 0xff ∷ 0xff ∷ 0xff ∷ 0xff ∷ 0x0f ∷ []

abbrev pub MalformedCases : Type 0
MalformedCases =
    IsRefused size_too_long Malformed × IsRefused last_byte_wrong Malformed
    × IsRefused section_past_the_end Malformed
