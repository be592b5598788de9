-- What one channel gives: at a tick, by the state of its oscillator, and at each tick of a frame.
use Rattle.std.specs.Prelude.{◌≡◌, ◌<◌, ℕ, ◌*◌, ◌==◌, nat_lt, if◌then◌else◌, List, Option, None, Some}
use Rattle.std.specs.Prelude.{slice_index, slice_index_or, ℤ, pos, Bool}
use Rattle.w4_defs.specs.declared.console.Tone.{Tone}
use Rattle.w4_defs.specs.declared.console.Voice.{Voice}
use Rattle.w4_defs.specs.declared.console.Sound.{Sound}
use Rattle.w4_defs.specs.Tones.{sound_of}
use Rattle.w4_defs.specs.Sound.{Wave, heard_voice, pulse, triangle, noise, channel_output, on_left, on_right}
use Rattle.w4_defs.specs.Sound.{after_ticks, ticks_a_second}
use Rattle.w4_wave.specs.declared.output.Output.{Output}
use Rattle.w4_wave.specs.declared.output.Part.{Part}

-- what an oscillator gives at a phase, and for channel 3 by its register
abbrev pub oscillator_value : ℕ → Tone → Sound → ℕ → ℕ → ℤ
oscillator_value channel tone sound phase register =
    let amplitude = 80 * sound.level in
    if nat_lt channel 2 then pulse amplitude tone.duty phase
    else if channel == 2 then triangle amplitude phase
    else noise amplitude register

-- the voice's tone and its sound at a tick
abbrev pub tone_and_sound : ℕ → Voice → Tone × Sound
tone_and_sound tick voice = (voice.tone, sound_of tick voice)

-- what a channel gives to the left, to the right and to its phase
abbrev pub output_at : ℕ → ℕ → ℕ → ℕ → Option Voice → Output
output_at channel tick phase register None = record { left = pos 0; right = pos 0; step = 0 }
output_at channel tick phase register (Some voice) =
    let value = oscillator_value channel voice.tone (sound_of tick voice) phase register in
    record {
      left = if on_left voice.tone.pan then value else pos 0;
      right = if on_right voice.tone.pan then value else pos 0;
      step = (sound_of tick voice).frequency;
    }

-- what a channel gives to one side at a tick of the frame that begins with this wave
abbrev pub side_output : (ℕ → Bool) → Wave → ℕ → ℕ → ℤ
side_output side wave channel tick =
    let now = after_ticks wave tick in
    channel_output side tick now channel (heard_voice now channel)

-- and at so many ticks
abbrev pub AreGiven : (ℕ → Bool) → Wave → ℕ → ℕ → List ℤ → Type 0
AreGiven side wave channel count values =
    (tick : ℕ) → tick < count → slice_index_or values tick (pos 0) ≡ side_output side wave channel tick

-- the phase and the register of a channel's oscillator after so many ticks
pub record IsAt (wave : Wave) (channel count phase register : ℕ) : Type 0 where
  pub turned : phase ≡ slice_index (after_ticks wave count).phases channel
  pub shifted : channel ≡ 3 → register ≡ (after_ticks wave count).noise
  pub phase_bound : phase < ticks_a_second
  pub register_bound : register < 32768

-- the part of a channel, as far as so many ticks
pub record IsPart (wave : Wave) (channel count : ℕ) (part : Part) : Type 0 where
  pub left : AreGiven on_left wave channel count part.left
  pub right : AreGiven on_right wave channel count part.right
  pub at : IsAt wave channel count part.phase part.register
