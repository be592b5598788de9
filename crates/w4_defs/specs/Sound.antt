-- Sound (project rule): the samples of a run, and the header of the file that they stand in (RIFF WAVE, PCM,
-- 2 channels of 16 bits, 44,100 samples a second). Each frame has 735 ticks. Its tones are played in the
-- order of its log, each channel that its record has silent is silenced, and then each tick gives one sample
-- to the left and one to the right: the sum of what the channels give, each by its oscillator.
use Rattle.std.specs.Prelude.{◌≡◌, ◌<◌, ◌≤ℤ◌, All, length, ℕ, zero, suc, ◌+◌, ◌*◌, ◌/◌, ◌%◌, ◌==◌, not, nat_lt, Bool, if◌then◌else◌, List, [], ◌∷◌, ◌++◌, map, zip, fold, flat_map, replicate, slice_index, slice_index_or, codes, Option, Some, None, option_and_then, ℤ, pos, negsuc, neg_ℤ, ◌+ℤ◌, ◌-ℤ◌, ◌*ℤ◌, int_div, refl}
use Rattle.std.specs.List.{range_with_len}
use Rattle.std.specs.Int.{w16, w32, to_le_bytes, cast_unsigned}
use Rattle.w4_defs.specs.declared.console.Tone.{Tone}
use Rattle.w4_defs.specs.declared.console.Voice.{Voice}
use Rattle.w4_defs.specs.declared.console.Sound.{Sound}
use Rattle.w4_defs.specs.Logs.{empty_log, logged, kept_tones}
use Rattle.w4_defs.specs.Tones.{Channels, IsPlaying, silent, channels_after_tone, all_aged, sound_of, decoded, sounds_at, level_at, frequency_at}
use Rattle.w4_defs.specs.State.{FrameRecord, empty_record}

-- how many ticks a second and a frame have
abbrev pub ticks_a_second : ℕ
ticks_a_second = 44100

abbrev pub ticks_a_frame : ℕ
ticks_a_frame = 735

-- what goes on from tick to tick: the channels, the phase of each channel's oscillator, which rises by the
-- frequency modulo 44,100, and the noise register
pub record Wave : Type 0 where
  pub channels : Channels
  pub phases : List ℕ
  pub noise : ℕ

-- before the first frame
abbrev pub first_wave : Wave
first_wave = record { channels = silent; phases = replicate 4 0; noise = 1 }

-- the channel's voice where it is heard: it isn't in note mode
abbrev pub heard_voice : Wave → ℕ → Option Voice
heard_voice wave channel =
    option_and_then (λ (voice : Voice). if voice.tone.note then None else Some voice)
    (slice_index_or wave.channels channel None)

-- of 8 parts of a period, how many the duty cycle is high
abbrev pub duty_parts : ℕ → ℕ
duty_parts duty = slice_index (1 ∷ 2 ∷ 4 ∷ 6 ∷ []) duty

abbrev pub high_or_low : Bool → ℕ → ℤ
high_or_low high amplitude = if high then pos amplitude else neg_ℤ (pos amplitude)

-- channels 0 and 1: high for the duty cycle, low for the rest of the period
abbrev pub pulse : ℕ → ℕ → ℕ → ℤ
pulse amplitude duty phase = high_or_low (nat_lt (8 * phase) (ticks_a_second * duty_parts duty)) amplitude

-- channel 2: from 0 up to the amplitude, down to its negative and back, cut toward 0
abbrev pub triangle_height : ℕ → ℤ
triangle_height phase =
    if nat_lt phase 11025 then pos phase
    else if nat_lt phase 33075 then pos 22050 -ℤ pos phase
    else pos phase -ℤ pos 44100

abbrev pub triangle : ℕ → ℕ → ℤ
triangle amplitude phase = int_div (pos amplitude *ℤ triangle_height phase) (pos 11025)

-- channel 3: high where the register is odd
abbrev pub noise : ℕ → ℕ → ℤ
noise amplitude register = high_or_low (register % 2 == 1) amplitude

-- what channel 0, 1, 2 or 3 gives for a sound; a level of 100 has an amplitude of 8,000
abbrev pub oscillator : Wave → ℕ → Tone → Sound → ℤ
oscillator wave channel tone sound =
    let amplitude = 80 * sound.level in
    let phase = slice_index wave.phases channel in
    if nat_lt channel 2 then pulse amplitude tone.duty phase
    else if channel == 2 then triangle amplitude phase
    else noise amplitude wave.noise

-- the channels on the left have pan 0, 1 or 3, those on the right 0, 2 or 3
abbrev pub on_left : ℕ → Bool
on_left pan = not (pan == 2)

abbrev pub on_right : ℕ → Bool
on_right pan = not (pan == 1)

-- what a channel gives to one side at a tick
abbrev pub channel_output : (ℕ → Bool) → ℕ → Wave → ℕ → Option Voice → ℤ
channel_output side tick wave channel None = pos 0
channel_output side tick wave channel (Some voice) =
    if side voice.tone.pan then oscillator wave channel voice.tone (sound_of tick voice) else pos 0

-- the sample of one side at a tick: the sum of the four channels
abbrev pub sample : (ℕ → Bool) → ℕ → Wave → ℤ
sample side tick wave =
    let of : ℕ → ℤ = λ channel. channel_output side tick wave channel (heard_voice wave channel) in
    of 0 +ℤ of 1 +ℤ of 2 +ℤ of 3

-- left, then right
abbrev pub sample_bytes : ℕ → Wave → List ℕ
sample_bytes tick wave =
    to_le_bytes w16 (cast_unsigned w16 (sample on_left tick wave))
    ++ to_le_bytes w16 (cast_unsigned w16 (sample on_right tick wave))

-- how far a channel's phase goes on at a tick: none where it isn't heard
abbrev pub advance : ℕ → Option Voice → ℕ
advance tick None = 0
advance tick (Some voice) = (sound_of tick voice).frequency

abbrev pub next_phase : ℕ → Wave → ℕ → ℕ
next_phase tick wave channel =
    (slice_index wave.phases channel + advance tick (heard_voice wave channel)) % ticks_a_second

-- the register shifts once where the phase of channel 3 comes round; its new bit is the sum of its lowest two
abbrev pub next_noise : ℕ → Wave → ℕ
next_noise tick wave =
    let x = wave.noise in
    if nat_lt (slice_index wave.phases 3 + advance tick (heard_voice wave 3)) ticks_a_second then x
    else x / 2 + 16384 * ((x + x / 2) % 2)

-- after a tick
abbrev pub ticked : ℕ → Wave → Wave
ticked tick wave = record wave {
  phases = map (next_phase tick wave) (0 ∷ 1 ∷ 2 ∷ 3 ∷ []);
  noise = next_noise tick wave;
}

-- after the first so many ticks of a frame
unfoldable pub after_ticks : Wave → ℕ → Wave
after_ticks wave zero = wave
after_ticks wave (suc tick) = ticked tick (after_ticks wave tick)

-- a channel that the record has silent is silenced, so that a reset is heard
abbrev pub silenced : Option Voice → Option Sound → Option Voice
silenced voice None = None
silenced voice (Some sound) = voice

abbrev pub wave_with_channels : Wave → Channels → Wave
wave_with_channels wave channels = record wave { channels = channels }

-- a frame before its first tick: a tone that the log dropped isn't played
abbrev pub with_record : FrameRecord → Wave → Wave
with_record frame_record wave =
    wave_with_channels wave
    (map (λ pair. silenced pair.0 pair.1)
    (zip (fold channels_after_tone wave.channels frame_record.tones.items) frame_record.sounds))

-- the bytes of a frame: 735 samples of 4 bytes
unfoldable pub frame_samples : Wave → List ℕ
frame_samples wave =
    flat_map (λ tick. sample_bytes tick (after_ticks wave tick)) (range_with_len 0 ticks_a_frame)

abbrev pub rendered : FrameRecord → Wave → List ℕ
rendered frame_record wave = frame_samples (with_record frame_record wave)

-- after a frame, when its channels have aged
abbrev pub after_frame : FrameRecord → Wave → Wave
after_frame frame_record wave =
    let last = after_ticks (with_record frame_record wave) ticks_a_frame in
    wave_with_channels last (all_aged last.channels)

-- the samples of records, one after another
abbrev pub samples_from : Wave → List FrameRecord → List ℕ
samples_from wave [] = []
samples_from wave (frame_record ∷ records) = rendered frame_record wave
    ++ samples_from (after_frame frame_record wave) records

unfoldable pub samples : List FrameRecord → List ℕ
samples records = samples_from first_wave records

-- how many bytes the samples of so many places have
abbrev pub samples_length : ℕ → ℕ
samples_length places = 2940 * places

-- the header of a file: the file's length less 8; PCM, 2 channels, 44,100 samples and 176,400 bytes a second,
-- 4 bytes and 16 bits a sample; and the length of the samples
unfoldable pub wav_header : ℕ → List ℕ
wav_header places =
    codes "RIFF" ++ to_le_bytes w32 (samples_length places + 36) ++ codes "WAVE"
    ++ codes "fmt " ++ to_le_bytes w32 16
    ++ to_le_bytes w16 1 ++ to_le_bytes w16 2
    ++ to_le_bytes w32 ticks_a_second ++ to_le_bytes w32 176400
    ++ to_le_bytes w16 4 ++ to_le_bytes w16 16
    ++ codes "data" ++ to_le_bytes w32 (samples_length places)

-- a wave within its ranges: four channels as they play, and four phases below 44,100
pub record IsWave (wave : Wave) : Type 0 where
  pub four_channels : length wave.channels ≡ 4
  pub channels : All IsPlaying wave.channels
  pub four_phases : length wave.phases ≡ 4
  pub phases : All (λ phase. phase < ticks_a_second) wave.phases

-- each sample fits 16 bits: it lies from -32,000 to 32,000
abbrev pub SamplesAreBounded : Type 0
SamplesAreBounded = (side : ℕ → Bool) (tick : ℕ) (wave : Wave) → IsWave wave → tick < ticks_a_frame →
    (negsuc 31999 ≤ℤ sample side tick wave) × (sample side tick wave ≤ℤ pos 32000)

-- a frame has 2,940 bytes, and the header of a file 44
abbrev pub FramesAreCounted : Type 0
FramesAreCounted = (wave : Wave) → length (frame_samples wave) ≡ 2940

abbrev pub SamplesAreCounted : Type 0
SamplesAreCounted = (records : List FrameRecord) → length (samples records) ≡ samples_length (length records)

abbrev pub HeaderIsCounted : Type 0
HeaderIsCounted = (places : ℕ) → length (wav_header places) ≡ 44

-- where all channels are silent, a frame has zeros alone
abbrev pub SilenceIsZeros : Type 0
SilenceIsZeros = (wave : Wave) → wave.channels ≡ silent → frame_samples wave ≡ replicate 2940 0

-- Worked cases: the header of a file of two places.
abbrev pub HeaderCase : Type 0
HeaderCase = wav_header 2 ≡
    0x52 ∷ 0x49 ∷ 0x46 ∷ 0x46 ∷ 0x1c ∷ 0x17 ∷ 0x00 ∷ 0x00
    ∷ 0x57 ∷ 0x41 ∷ 0x56 ∷ 0x45 ∷ 0x66 ∷ 0x6d ∷ 0x74 ∷ 0x20
    ∷ 0x10 ∷ 0x00 ∷ 0x00 ∷ 0x00 ∷ 0x01 ∷ 0x00 ∷ 0x02 ∷ 0x00
    ∷ 0x44 ∷ 0xac ∷ 0x00 ∷ 0x00 ∷ 0x10 ∷ 0xb1 ∷ 0x02 ∷ 0x00
    ∷ 0x04 ∷ 0x00 ∷ 0x10 ∷ 0x00 ∷ 0x64 ∷ 0x61 ∷ 0x74 ∷ 0x61
    ∷ 0xf8 ∷ 0x16 ∷ 0x00 ∷ 0x00 ∷ []

pub header-case : HeaderCase
unfolding wav_header
header-case = refl

-- the record of one tone, with this frequency, these flags and one frame of sustain at level 100; and its
-- frame
abbrev pub one_tone_record : ℕ → ℕ → FrameRecord
one_tone_record frequency flags =
    let tone = decoded frequency 1 100 flags in
    record {
      tones = logged kept_tones empty_log tone;
      traces = empty_log;
      sounds = sounds_at 0 (channels_after_tone silent tone);
    }

abbrev pub one_tone_frame : ℕ → ℕ → Wave
one_tone_frame frequency flags = with_record (one_tone_record frequency flags) first_wave

abbrev pub first_samples : (ℕ → Bool) → Wave → List ℤ
first_samples side wave = map (λ tick. sample side tick (after_ticks wave tick)) (0 ∷ 1 ∷ 2 ∷ 3 ∷ [])

-- 8,000 and -8,000
abbrev pub high : ℤ
high = pos 8000

abbrev pub low : ℤ
low = negsuc 7999

-- Four ticks of a pulse that is high for half of its period, on the left, of a triangle, of noise whose
-- register shifts after the second tick, and of a tone in note mode; the first three samples of the pulse in
-- the centre, as bytes; both sides of the triangle's cut toward 0; and silence in the frame after the tone.
abbrev pub SampleCases : Type 0
SampleCases =
    (first_samples on_left (one_tone_frame 11025 24) ≡ high ∷ high ∷ low ∷ low ∷ [])
    × (first_samples on_right (one_tone_frame 11025 24) ≡ pos 0 ∷ pos 0 ∷ pos 0 ∷ pos 0 ∷ [])
    × (first_samples on_right (one_tone_frame 11025 2) ≡ pos 0 ∷ high ∷ pos 0 ∷ low ∷ [])
    × (first_samples on_right (one_tone_frame 22050 3) ≡ high ∷ high ∷ low ∷ low ∷ [])
    × (first_samples on_left (one_tone_frame 11025 72) ≡ pos 0 ∷ pos 0 ∷ pos 0 ∷ pos 0 ∷ [])
    × (flat_map (λ tick. sample_bytes tick (after_ticks (one_tone_frame 11025 8) tick)) (0 ∷ 1 ∷ 2 ∷ [])
    ≡ 0x40 ∷ 0x1f ∷ 0x40 ∷ 0x1f ∷ 0x40 ∷ 0x1f ∷ 0x40 ∷ 0x1f ∷ 0xc0 ∷ 0xe0 ∷ 0xc0 ∷ 0xe0 ∷ [])
    × (triangle 80 441 ≡ pos 3)
    × (triangle 80 43659 ≡ negsuc 2)
    × ((with_record empty_record (after_frame (one_tone_record 11025 8) first_wave)).channels ≡ silent)

pub sample-cases : SampleCases
unfolding after_ticks level_at frequency_at
sample-cases = (refl, refl, refl, refl, refl, refl, refl, refl, refl)
