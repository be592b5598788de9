-- The sums of what four channels give are the samples, and fit 16 bits.
use Rattle.std.proofs.Common.{◌≡◌, ℕ, ◌<◌, ◌++◌, List, ℤ, pos, negsuc, ◌+ℤ◌, ◌≤ℤ◌, FitsSigned, to_z, of_z}
use Rattle.std.proofs.Common.{w16, w32, get_or, refl, Bool, ap, ◌∙◌, arith}
use Rattle.std.specs.Int.{cast_unsigned, to_le_bytes}
use Rattle.std.proofs.lemmas.Int.{ints, to_z-of_z}
use Rattle.w4_defs.specs.Sound.{Wave, IsWave, after_ticks, sample, sample_bytes, on_left, on_right}
use Rattle.w4_defs.proofs.SampleLaws.{samples_are_bounded}
use Rattle.w4_wave.specs.Outputs.{AreGiven}
use Rattle.w4_wave.proofs.PartLaws.{ranges_stay}

plain : (a b c d : ℤ) → FitsSigned w16 a → FitsSigned w16 b → FitsSigned w16 c → FitsSigned w16 d →
    to_z w16 (of_z w16 a) +ℤ to_z w16 (of_z w16 b) +ℤ to_z w16 (of_z w16 c) +ℤ to_z w16 (of_z w16 d)
    ≡ a +ℤ b +ℤ c +ℤ d
plain a b c d fa fb fc fd =
    rw (to_z-of_z w16 a fa, to_z-of_z w16 b fb, to_z-of_z w16 c fc, to_z-of_z w16 d fd) refl

sum_passed : (sum z : ℤ) → sum ≡ z → negsuc 31999 ≤ℤ z → z ≤ℤ pos 32000
    → (FitsSigned w16 (to_z w32 (of_z w32 sum))) × (to_z w32 (of_z w32 sum) ≡ z)
sum_passed sum z e low high = (omega (arith, ints), omega (arith, ints))

-- what four channels give at a tick fits 16 bits each
abbrev pub FourFit : ℕ → List ℤ → List ℤ → List ℤ → List ℤ → Type 0
FourFit tick first second third fourth =
    let fits : List ℤ → Type 0 = λ values. FitsSigned w16 (get_or values tick (pos 0)) in
    fits first × fits second × fits third × fits fourth

-- the sum of four parts, as the code hands it on, fits 16 bits and is the sample
pub mixed : (side : ℕ → Bool) (wave : Wave) (tick : ℕ) (first second third fourth : List ℤ) (sum : ℤ)
    → IsWave wave → tick < 735
    → AreGiven side wave 0 735 first → AreGiven side wave 1 735 second
    → AreGiven side wave 2 735 third → AreGiven side wave 3 735 fourth
    → FourFit tick first second third fourth
    → (let of : List ℤ → ℤ = λ values. to_z w16 (of_z w16 (get_or values tick (pos 0))) in
    sum ≡ of first +ℤ of second +ℤ of third +ℤ of fourth)
    → (FitsSigned w16 (to_z w32 (of_z w32 sum)))
    × (to_z w32 (of_z w32 sum) ≡ sample side tick (after_ticks wave tick))
mixed side wave tick first second third fourth sum is within a b c d fits e =
    let bounds = samples_are_bounded side tick (after_ticks wave tick) (ranges_stay wave tick is) within in
    sum_passed sum (sample side tick (after_ticks wave tick))
    (e ∙ plain (get_or first tick (pos 0)) (get_or second tick (pos 0)) (get_or third tick (pos 0))
    (get_or fourth tick (pos 0)) fits.0 fits.1 fits.2 fits.3
    ∙ rw (a tick within, b tick within, c tick within, d tick within) refl) bounds.0 bounds.1

pub bytes_are : (tick : ℕ) (wave : Wave) (left right : ℤ) → left ≡ sample on_left tick wave
    → right ≡ sample on_right tick wave
    → to_le_bytes w16 (cast_unsigned w16 left) ++ to_le_bytes w16 (cast_unsigned w16 right)
    ≡ sample_bytes tick wave
bytes_are tick wave left right el er =
    ap (λ l. to_le_bytes w16 (cast_unsigned w16 l) ++ to_le_bytes w16 (cast_unsigned w16 right)) el
    ∙ ap (λ r. to_le_bytes w16 (cast_unsigned w16 (sample on_left tick wave))
    ++ to_le_bytes w16 (cast_unsigned w16 r)) er
