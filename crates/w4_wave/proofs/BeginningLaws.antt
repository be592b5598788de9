-- Four channels, each silenced or left, are the channels of the frame.
use Rattle.std.proofs.Common.{◌≡◌, List, [], ◌∷◌, length, Option, None, refl, arith}
use Rattle.std.specs.Prelude.{map, zip, slice_set, slice_index_or, ℕ}
use Rattle.w4_defs.specs.declared.console.Sound.{Sound}
use Rattle.w4_defs.specs.Tones.{Channels}
use Rattle.w4_defs.specs.Sound.{silenced}

abbrev pub with_one_silenced : ℕ → Option Sound → Channels → Channels
with_one_silenced channel sound channels =
    slice_set channels channel (silenced (slice_index_or channels channel None) sound)

pub four_silenced : (channels : Channels) (sounds : List (Option Sound))
    → length channels ≡ 4 → length sounds ≡ 4 →
    let sound : ℕ → Option Sound = λ k. slice_index_or sounds k None in
    with_one_silenced 3 (sound 3) (with_one_silenced 2 (sound 2) (with_one_silenced 1 (sound 1)
    (with_one_silenced 0 (sound 0) channels))) ≡ map (λ pair. silenced pair.0 pair.1) (zip channels sounds)
four_silenced (a ∷ b ∷ c ∷ d ∷ []) (e ∷ f ∷ g ∷ h ∷ []) four other = refl
four_silenced channels sounds four other = absurd (omega arith)
