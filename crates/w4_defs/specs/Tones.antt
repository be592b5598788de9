-- Tones (WASM-4 reference, `tone`): what one call asks for, and what a channel sounds at each tick.
-- Project rule: a peak of 0 means 100 and levels are cut at 100; a frame has 735 ticks; levels and
-- frequencies go along straight lines, in whole numbers.
use Rattle.std.specs.Prelude.{◌≡◌, ◌<◌, ◌≤◌, ℕ, zero, suc, ◌+◌, ◌-◌, ◌*◌, ◌/◌, ◌%◌, min, ◌==◌, nat_lt, nat_le, ◌||◌, if◌then◌else◌, List, [], ◌∷◌, map, replicate, slice_set, Option, Some, None, option_map, slice_index_or, refl}
use Rattle.w4_defs.specs.declared.console.Tone.{Tone}
use Rattle.w4_defs.specs.declared.console.Voice.{Voice}
use Rattle.w4_defs.specs.declared.console.Sound.{Sound}
use Rattle.w4_defs.specs.Words.{byte_of}

-- a peak of 0 means 100
abbrev pub peak_of : ℕ → ℕ
peak_of byte = if byte == 0 then 100 else min byte 100

-- the tone that the four arguments of one call ask for
abbrev pub decoded : ℕ → ℕ → ℕ → ℕ → Tone
decoded frequency duration volume flags = record {
  channel = flags % 4;
  first = frequency % 65536;
  second = frequency / 65536 % 65536;
  attack = byte_of duration 3;
  decay = byte_of duration 2;
  sustain = byte_of duration 0;
  release = byte_of duration 1;
  peak = peak_of (byte_of volume 1);
  level = min (byte_of volume 0) 100;
  duty = flags / 4 % 4;
  pan = flags / 16 % 4;
  note = flags / 64 % 2 == 1;
}

-- what a tone keeps to, as every decoded one does
pub record IsTone (tone : Tone) : Type 0 where
  pub channel : tone.channel < 4
  pub duty : tone.duty < 4
  pub pan : tone.pan < 4
  pub peak : tone.peak ≤ 100
  pub level : tone.level ≤ 100

-- the length of a tone in frames, and a length in ticks
abbrev pub tone_frames : Tone → ℕ
tone_frames tone = tone.attack + tone.decay + tone.sustain + tone.release

abbrev pub ticks : ℕ → ℕ
ticks frames = 735 * frames

-- the level after u of len ticks on the way between two levels
abbrev pub interpolate : ℕ → ℕ → ℕ → ℕ → ℕ
interpolate from to u len = (from * (len - u) + to * u) / len

-- the level at tick t of a tone: up to the peak, down to the sustain level, constant, down to 0
unfoldable pub level_at : Tone → ℕ → ℕ
level_at tone t =
    let attack = ticks tone.attack in
    let decay = ticks tone.decay in
    let sustain = ticks tone.sustain in
    if nat_lt t attack then interpolate 0 tone.peak t attack
    else if nat_lt t (attack + decay) then interpolate tone.peak tone.level (t - attack) decay
    else if nat_lt t (attack + decay + sustain) then tone.level
    else interpolate tone.level 0 (t - (attack + decay + sustain)) (ticks tone.release)

-- the frequency after t of len ticks on the way from the first to the second, cut toward the first
abbrev pub frequency_slide : ℕ → ℕ → ℕ → ℕ → ℕ
frequency_slide first second t len =
    if nat_le first second then first + (second - first) * t / len
    else first - (first - second) * t / len

unfoldable pub frequency_at : Tone → ℕ → ℕ
frequency_at tone t =
    if (tone.second == 0) || tone.note then tone.first
    else frequency_slide tone.first tone.second t (ticks (tone_frames tone))

-- what a voice sounds at a tick of its frame
abbrev pub sound_of : ℕ → Voice → Sound
sound_of tick voice =
    let t = ticks voice.age + tick in
    record { level = level_at voice.tone t; frequency = frequency_at voice.tone t }

-- what a voice keeps to: it is within its tone's frames
pub record IsVoice (voice : Voice) : Type 0 where
  pub tone : IsTone voice.tone
  pub lasts : voice.age < tone_frames voice.tone

-- the four channels, of which a silent one has no voice
abbrev pub Channels : Type 0
Channels = List (Option Voice)

-- what a channel keeps to
abbrev pub IsPlaying : Option Voice → Type 0
IsPlaying None = Unit {0}
IsPlaying (Some voice) = IsVoice voice

abbrev pub silent : Channels
silent = replicate 4 None

-- the voice that a tone begins: none where its length is 0
abbrev pub started : Tone → Option Voice
started tone = if tone_frames tone == 0 then None else Some (record { tone = tone; age = 0 })

-- a call replaces what its channel plays
abbrev pub channels_after_tone : Channels → Tone → Channels
channels_after_tone channels tone = slice_set channels tone.channel (started tone)

-- one frame later: a voice that has reached the length of its tone ends
abbrev pub older : Voice → Option Voice
older voice =
    if nat_lt (voice.age + 1) (tone_frames voice.tone) then Some (record voice { age = voice.age + 1 })
    else None

abbrev pub aged : Option Voice → Option Voice
aged None = None
aged (Some voice) = older voice

abbrev pub all_aged : Channels → Channels
all_aged channels = map aged channels

-- what the four channels sound at a tick
abbrev pub sounds_at : ℕ → Channels → List (Option Sound)
sounds_at tick channels = map (option_map (sound_of tick)) channels

-- Worked cases. A tone of 440 to 220 hertz with attack 4, no decay, sustain 2 and release 4 has these
-- levels and frequencies at the first ticks of its ten frames, and then its channel is silent.
abbrev pub heard : ℕ → Channels → List (Option Sound)
heard zero channels = []
heard (suc frames) channels = slice_index_or (sounds_at 0 channels) 0 None ∷ heard frames (all_aged channels)

abbrev pub sounding : ℕ → ℕ → Option Sound
sounding level frequency = Some (record { level = level; frequency = frequency })

abbrev pub TenFrames : Type 0
TenFrames = heard 11 (channels_after_tone silent (decoded 14418360 67109890 50 0)) ≡
    sounding 0 440 ∷ sounding 25 418 ∷ sounding 50 396 ∷ sounding 75 374 ∷ sounding 50 352
    ∷ sounding 50 330 ∷ sounding 50 308 ∷ sounding 37 286 ∷ sounding 25 264 ∷ sounding 12 242 ∷ None ∷ []

pub ten-frames : TenFrames
unfolding level_at frequency_at
ten-frames = refl

-- 100 to 900 hertz with decay 4 and sustain 1, from peak 80 to level 20: the level falls and the frequency
-- rises
abbrev pub DecayCase : Type 0
DecayCase = heard 6 (channels_after_tone silent (decoded 58982500 262145 20500 0)) ≡
    sounding 80 100 ∷ sounding 65 260 ∷ sounding 50 420 ∷ sounding 35 580 ∷ sounding 20 740 ∷ None ∷ []

pub decay-case : DecayCase
unfolding level_at frequency_at
decay-case = refl

-- in note mode the first frequency stays
abbrev pub NoteCase : Type 0
NoteCase =
    heard 2 (channels_after_tone silent (decoded 58982500 262145 20500 64))
    ≡ sounding 80 100 ∷ sounding 65 100 ∷ []

pub note-case : NoteCase
unfolding level_at frequency_at
note-case = refl

-- a second tone on the channel, of length 0, makes it silent
abbrev pub SilencedCase : Type 0
SilencedCase =
    channels_after_tone (channels_after_tone silent (decoded 14418360 67109890 50 0))
    (decoded 14418360 0 50 0) ≡ silent

pub silenced-case : SilencedCase
silenced-case = refl

-- a channel after so many frames, of which a law says when its tone ends
abbrev pub aged_often : ℕ → Option Voice → Option Voice
aged_often zero channel = channel
aged_often (suc frames) channel = aged_often frames (aged channel)
