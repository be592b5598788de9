-- A u32 of five bytes whose last byte is 16 has no text.
use Rattle.std.specs.Prelude.{◌≡◌, ℕ, ◌-◌, List, [], ◌∷◌}
use Rattle.std.proofs.Common.{inl, inr, arith}
use Rattle.w4_defs.specs.BinaryNumber.{LastUnsigned, leb, TooLongNumber}

-- a list that goes on isn't empty
cons_is_not_nil : (b : ℕ) (bs : List ℕ) → b ∷ bs ≡ [] → ⊥
cons_is_not_nil b bs e = absurd cc

-- what follows a byte has a text, where the byte isn't the last
pub later : (w n b c : ℕ) (bs : List ℕ) → leb LastUnsigned w n (b ∷ c ∷ bs) → (m : ℕ)
    × leb LastUnsigned (w - 7) m (c ∷ bs)
later w n b c bs (inl (e, _)) = absurd (cons_is_not_nil c bs e)
later w n b c bs (inr (_, _, m, _, h)) = (m, h)

last : (n : ℕ) → leb LastUnsigned 4 n (0x10 ∷ []) → ⊥
last n (inl (_, (_, fits, _))) = absurd (omega (arith, fits))
last n (inr (long, _, _, _, _)) = absurd (omega (arith, long))

pub too_long_number : TooLongNumber
too_long_number n h =
    let second = later 32 n 0x84 0x80 (0x80 ∷ 0x80 ∷ 0x10 ∷ []) h in
    let third = later 25 second.0 0x80 0x80 (0x80 ∷ 0x10 ∷ []) second.1 in
    let fourth = later 18 third.0 0x80 0x80 (0x10 ∷ []) third.1 in
    let fifth = later 11 fourth.0 0x80 0x10 [] fourth.1 in
    last fifth.0 fifth.1
