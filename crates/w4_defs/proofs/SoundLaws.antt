-- How many bytes samples have, and a frame of silence.
use Rattle.std.proofs.Common.{◌≡◌, refl, ℕ, zero, suc, ◌+◌, ◌*◌, List, [], ◌∷◌, ◌++◌, replicate, ◌∙◌, ap, arith, length, length-append}
use Rattle.std.specs.Prelude.{flat_map}
use Rattle.std.specs.List.{range_with_len}
use Rattle.w4_defs.specs.Tones.{silent}
use Rattle.w4_defs.specs.State.{FrameRecord}
use Rattle.w4_defs.specs.Sound.{FramesAreCounted, SamplesAreCounted, HeaderIsCounted, first_wave, with_record, after_frame, rendered, samples_from, samples, samples_length, wav_header, Wave, after_ticks, sample_bytes, frame_samples, ticks_a_frame, SilenceIsZeros}

-- no tick changes the channels
channels-after_ticks : (wave : Wave) (tick : ℕ) → (after_ticks wave tick).channels ≡ wave.channels
unfolding after_ticks
channels-after_ticks wave zero = refl
channels-after_ticks wave (suc tick) = channels-after_ticks wave tick

-- silent channels give zeros
sample_bytes-silent : (tick : ℕ) (phases : List ℕ) (noise : ℕ) →
    let wave : Wave = record { channels = silent; phases = phases; noise = noise } in
    sample_bytes tick wave ≡ replicate 4 0
sample_bytes-silent tick phases noise = refl

zeros-at : (wave : Wave) → wave.channels ≡ silent → (tick : ℕ) →
    sample_bytes tick (after_ticks wave tick) ≡ replicate 4 0
zeros-at wave silence tick =
    let now = after_ticks wave tick in
    ap
    (λ channels. let w : Wave = record { channels = channels; phases = now.phases; noise = now.noise } in
    sample_bytes tick w)
    (channels-after_ticks wave tick ∙ silence)
    ∙ sample_bytes-silent tick now.phases now.noise

-- so many ticks of zeros
zeros-from : (f : ℕ → List ℕ) → ((tick : ℕ) → f tick ≡ replicate 4 0) → (start count : ℕ) →
    flat_map f (range_with_len start count) ≡ replicate (4 * count) 0
zeros-from f zeros start zero = refl
zeros-from f zeros start (suc count) =
    let more : suc (suc (suc (suc (4 * count)))) ≡ 4 * suc count = omega arith in
    ap (λ front. front ++ flat_map f (range_with_len (start + 1) count)) (zeros start)
    ∙ (ap (λ rest. replicate 4 0 ++ rest) (zeros-from f zeros (start + 1) count)
    ∙ ap (λ n. replicate n 0) more)

pub silence_is_zeros : SilenceIsZeros
unfolding frame_samples
silence_is_zeros wave silence = zeros-from _ (zeros-at wave silence) 0 ticks_a_frame

-- ---- lengths

-- so many pieces of four bytes
fours-from : (f : ℕ → List ℕ) → ((tick : ℕ) → length (f tick) ≡ 4) → (start count : ℕ) →
    length (flat_map f (range_with_len start count)) ≡ 4 * count
fours-from f fours start zero = refl
fours-from f fours start (suc count) =
    let rest : List ℕ = flat_map f (range_with_len (start + 1) count) in
    omega (arith, length-append (f start) rest, fours start, fours-from f fours (start + 1) count)

pub frames_are_counted : FramesAreCounted
unfolding frame_samples
frames_are_counted wave =
    fours-from (λ tick. sample_bytes tick (after_ticks wave tick)) (λ tick. refl) 0 ticks_a_frame

counted-from : (wave : Wave) (records : List FrameRecord) →
    length (samples_from wave records) ≡ samples_length (length records)
counted-from wave [] = refl
counted-from wave (frame_record ∷ records) =
    let rest : List ℕ = samples_from (after_frame frame_record wave) records in
    let more = counted-from (after_frame frame_record wave) records in
    omega (
      arith,
      length-append (rendered frame_record wave) rest,
      frames_are_counted
          (with_record frame_record wave),
      more,
    )

pub samples_are_counted : SamplesAreCounted
unfolding samples
samples_are_counted records = counted-from first_wave records

pub header_is_counted : HeaderIsCounted
unfolding wav_header
header_is_counted places = refl
