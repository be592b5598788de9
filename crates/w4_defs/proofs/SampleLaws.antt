-- Each channel gives from -8,000 to 8,000, so that a sample lies from -32,000 to 32,000.
use Rattle.std.proofs.Common.{◌≡◌, ◌⊎◌, refl, ℕ, zero, suc, ◌+◌, ◌-◌, ◌*◌, ◌/◌, ◌<◌, ◌≤◌, inl, inr, Bool, true, false, cond, nat_lt, pos, negsuc, neg_ℤ, ◌*ℤ◌, ◌-ℤ◌, int_div, Option, Some, None, sym, ◌∙◌, ap, subst, arith, mul-zero}
use Rattle.std.specs.Prelude.{ℤ, ◌≤ℤ◌, ◌==◌, slice_index, slice_index_or, option_and_then}
use Rattle.std.proofs.lemmas.Bool.{cases_lt, ltb-true, ltb-false, cond_both}
use Rattle.std.proofs.lemmas.Int.{ints}
use Rattle.std.proofs.lemmas.Nat.{mul-le}
use Rattle.std.proofs.Math.Nat.{div-le_of_le-mul}
use Rattle.w4_defs.specs.declared.console.Voice.{Voice}
use Rattle.w4_defs.specs.Tones.{IsPlaying, ticks, tone_frames, level_at, sound_of}
use Rattle.w4_defs.proofs.ToneLaws.{neg_part, level_small}
use Rattle.w4_defs.specs.Sound.{Wave, IsWave, heard_voice, high_or_low, pulse, triangle_height, triangle, noise, oscillator, channel_output, ticks_a_second, ticks_a_frame, SamplesAreBounded}

-- from -8,000 to 8,000
IsSmall : ℤ → Type 0
IsSmall z = (negsuc 7999 ≤ℤ z) × (z ≤ℤ pos 8000)

small_up : (n : ℕ) → n ≤ 8000 → IsSmall (pos n)
unfolding IsSmall
small_up n most = (omega (arith, ints), omega (arith, ints))

small_down : (n : ℕ) → n ≤ 8000 → IsSmall (neg_ℤ (pos n))
unfolding IsSmall
small_down n most = (omega (arith, ints), omega (arith, ints))

small-high_or_low : (high : Bool) (amplitude : ℕ) → amplitude ≤ 8000 → IsSmall (high_or_low high amplitude)
small-high_or_low true amplitude most = small_up amplitude most
small-high_or_low false amplitude most = small_down amplitude most

-- a height of the triangle, up or down
IsHeight : ℤ → Type 0
IsHeight z = (n : ℕ) × (n ≤ 11025) × ((z ≡ pos n) ⊎ (z ≡ neg_ℤ (pos n)))

falling : (phase : ℕ) → 11025 ≤ phase → phase < 33075 → IsHeight (pos 22050 -ℤ pos phase)
unfolding IsHeight
falling phase low high = elim (cases_lt phase 22050) [
  | inl above ↦ (22050 - phase, omega (arith, low), inl (omega (arith, ints, above)))
  | inr below ↦ (phase - 22050, omega (arith, high), inr (omega (arith, ints, below)))
]

triangle_height-height : (phase : ℕ) → phase < ticks_a_second → IsHeight (triangle_height phase)
unfolding IsHeight
triangle_height-height phase within =
    cond_both (nat_lt phase 11025) (pos phase) _ IsHeight
    (λ rises. (phase, omega (arith, ltb-true phase 11025 rises), inl refl))
    (λ later. cond_both (nat_lt phase 33075) (pos 22050 -ℤ pos phase) (pos phase -ℤ pos 44100) IsHeight
    (λ falls. falling phase (ltb-false phase 11025 later) (ltb-true phase 33075 falls))
    (λ last.
    let low = ltb-false phase 33075 last in
    (44100 - phase, omega (arith, low), inr (omega (arith, ints, within)))))

part_small : (amplitude n : ℕ) → amplitude ≤ 8000 → n ≤ 11025 → amplitude * n / 11025 ≤ 8000
part_small amplitude n most high =
    div-le_of_le-mul 11025 {m = amplitude * n} {n = 8000} (mul-le amplitude n 8000 11025 most high)

times_neg : (a n : ℕ) → pos a *ℤ neg_ℤ (pos n) ≡ neg_ℤ (pos (a * n))
times_neg a zero = ap pos (mul-zero a) ∙ ap (λ m. neg_ℤ (pos m)) (sym (mul-zero a))
times_neg a (suc n) = refl

small-triangle : (amplitude phase : ℕ) → amplitude ≤ 8000 → phase < ticks_a_second →
    IsSmall (triangle amplitude phase)
unfolding IsHeight
small-triangle amplitude phase most within =
    let height = triangle_height-height phase within in
    let n = height.0 in
    let part : amplitude * n / 11025 ≤ 8000 = part_small amplitude n most height.1 in
    elim height.2 [
      | inl up ↦ subst (λ z. IsSmall (int_div (pos amplitude *ℤ z) (pos 11025))) (sym up)
          (small_up (amplitude * n / 11025) part)
      | inr down ↦ subst (λ z. IsSmall (int_div (pos amplitude *ℤ z) (pos 11025))) (sym down)
          (subst IsSmall
          (sym (ap (λ z. int_div z (pos 11025)) (times_neg amplitude n) ∙ neg_part (amplitude * n) 11025))
          (small_down (amplitude * n / 11025) part))
    ]

-- what a channel gives
small-output : (side : ℕ → Bool) (tick : ℕ) (wave : Wave) (channel : ℕ) (voice : Option Voice) →
    tick < ticks_a_frame →
    slice_index wave.phases channel < ticks_a_second → IsPlaying voice →
    IsSmall (channel_output side tick wave channel voice)
small-output side tick wave channel None in_frame in_period plays = small_up 0 (omega arith)
small-output side tick wave channel (Some voice) in_frame in_period plays =
    let tone = voice.tone in
    let t = ticks voice.age + tick in
    let in_tone : t < ticks (tone_frames tone) = omega (arith, in_frame, plays.lasts) in
    let level : level_at tone t ≤ 100 = level_small tone t plays.tone.peak plays.tone.level in_tone in
    let amplitude = 80 * level_at tone t in
    let most : amplitude ≤ 8000 = omega (arith, level) in
    let phase = slice_index wave.phases channel in
    cond_both (side tone.pan) (oscillator wave channel tone (sound_of tick voice)) (pos 0) IsSmall
    (λ heard. cond_both (nat_lt channel 2) (pulse amplitude tone.duty phase) _ IsSmall
    (λ is_pulse. small-high_or_low _ amplitude most)
    (λ others. cond_both (channel == 2) (triangle amplitude phase) (noise amplitude wave.noise) IsSmall
    (λ is_triangle. small-triangle amplitude phase most in_period)
    (λ is_noise. small-high_or_low _ amplitude most)))
    (λ unheard. small_up 0 (omega arith))

heard-plays : (voice : Option Voice) → IsPlaying voice →
    IsPlaying (option_and_then (λ (v : Voice). cond v.tone.note None (Some v)) voice)
heard-plays None plays = tt
heard-plays (Some voice) plays =
    cond_both voice.tone.note None (Some voice) IsPlaying (λ note. tt) (λ sounds. plays)

small-channel : (side : ℕ → Bool) (tick : ℕ) (wave : Wave) (channel : ℕ) → tick < ticks_a_frame →
    IsWave wave → channel < 4 →
    IsSmall (channel_output side tick wave channel (heard_voice wave channel))
small-channel side tick wave channel in_frame is below =
    small-output side tick wave channel (heard_voice wave channel) in_frame
    (is.phases channel 0 (omega (arith, below, is.four_phases)))
    (heard-plays (slice_index_or wave.channels channel None)
    (is.channels channel None (omega (arith, below, is.four_channels))))

pub samples_are_bounded : SamplesAreBounded
unfolding IsSmall
samples_are_bounded side tick wave is in_frame =
    let a = small-channel side tick wave 0 in_frame is (omega arith) in
    let b = small-channel side tick wave 1 in_frame is (omega arith) in
    let c = small-channel side tick wave 2 in_frame is (omega arith) in
    let d = small-channel side tick wave 3 in_frame is (omega arith) in
    (omega (arith, ints, a.0, b.0, c.0, d.0), omega (arith, ints, a.1, b.1, c.1, d.1))
