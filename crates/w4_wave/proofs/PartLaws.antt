-- The parts of a frame: no tick changes a channel, and each oscillator goes on by itself.
use Rattle.std.proofs.Common.{◌≡◌, ◌≢◌, ℕ, zero, suc, ◌+◌, ◌*◌, ◌/◌, ◌%◌, ◌<◌, List, [], ◌∷◌, length, All}
use Rattle.std.proofs.Common.{replicate, Bool, false, cond, nat_lt, ℤ, pos, Option, None, Some, refl, sym, ap}
use Rattle.std.proofs.Common.{◌∙◌, subst, arith, add-one, set, below_more, get_or-set_other, get_or-set_same}
use Rattle.std.specs.Prelude.{slice_index}
use Rattle.std.specs.Option.{option_map, is_some}
use Rattle.std.proofs.lemmas.Bool.{lt-ltb}
use Rattle.std.proofs.lemmas.List.{get_or-replicate}
use Rattle.w4_defs.specs.declared.console.Tone.{Tone}
use Rattle.w4_defs.specs.declared.console.Voice.{Voice}
use Rattle.w4_defs.specs.declared.console.Sound.{Sound}
use Rattle.w4_defs.specs.Tones.{sound_of}
use Rattle.w4_defs.specs.Sound.{Wave, IsWave, heard_voice, channel_output, on_left, on_right, advance}
use Rattle.w4_defs.specs.Sound.{oscillator, noise, next_phase, ticked, after_ticks, ticks_a_second}
use Rattle.w4_wave.specs.declared.output.Output.{Output}
use Rattle.w4_wave.specs.declared.output.Part.{Part}
use Rattle.w4_wave.specs.Outputs.{oscillator_value, tone_and_sound, output_at, side_output, AreGiven, IsAt}
use Rattle.w4_wave.specs.Outputs.{IsPart}

channels_stay : (wave : Wave) (tick : ℕ) → (after_ticks wave tick).channels ≡ wave.channels
unfolding after_ticks
channels_stay wave zero = refl
channels_stay wave (suc tick) = channels_stay wave tick

voice_stays : (wave : Wave) (tick channel : ℕ)
    → heard_voice (after_ticks wave tick) channel ≡ heard_voice wave channel
voice_stays wave tick channel =
    ap (λ c. let w : Wave = record { channels = c; phases = []; noise = 0 } in heard_voice w channel)
    (channels_stay wave tick)

pub next_tick : (wave : Wave) (tick : ℕ) → after_ticks wave (tick + 1) ≡ ticked tick (after_ticks wave tick)
unfolding after_ticks
next_tick wave tick = ap (after_ticks wave) (add-one tick)

phase_of_next : (tick : ℕ) (now : Wave) (channel : ℕ) → channel < 4
    → slice_index (ticked tick now).phases channel ≡ next_phase tick now channel
phase_of_next tick now zero below = refl
phase_of_next tick now (suc zero) below = refl
phase_of_next tick now (suc (suc zero)) below = refl
phase_of_next tick now (suc (suc (suc zero))) below = refl
phase_of_next tick now (suc (suc (suc (suc n)))) below = absurd (omega arith)

-- four phases, each below a bound
four_below : (a b c d bound : ℕ) → a < bound → b < bound → c < bound → d < bound
    → All (λ phase. phase < bound) (a ∷ b ∷ c ∷ d ∷ [])
four_below a b c d bound ha hb hc hd zero e k = ha
four_below a b c d bound ha hb hc hd (suc zero) e k = hb
four_below a b c d bound ha hb hc hd (suc (suc zero)) e k = hc
four_below a b c d bound ha hb hc hd (suc (suc (suc zero))) e k = hd
four_below a b c d bound ha hb hc hd (suc (suc (suc (suc n)))) e k = absurd (omega arith)

in_range : (n : ℕ) → n % ticks_a_second < ticks_a_second
in_range n = omega arith

pub ranges_stay : (wave : Wave) (tick : ℕ) → IsWave wave → IsWave (after_ticks wave tick)
unfolding after_ticks
ranges_stay wave zero is = is
ranges_stay wave (suc tick) is =
    let now = after_ticks wave tick in
    let before = ranges_stay wave tick is in
    record {
      four_channels = before.four_channels;
      channels = before.channels;
      four_phases = refl;
      phases = four_below (next_phase tick now 0) (next_phase tick now 1) (next_phase tick now 2)
          (next_phase tick now 3) ticks_a_second (in_range _) (in_range _) (in_range _) (in_range _);
    }

-- ---- one tick of one channel

value_is : (now : Wave) (channel : ℕ) (tone : Tone) (sound : Sound) (register : ℕ) → channel < 4
    → (channel ≡ 3 → register ≡ now.noise)
    → oscillator now channel tone sound
    ≡ oscillator_value channel tone sound (slice_index now.phases channel) register
value_is now zero tone sound register below same = refl
value_is now (suc zero) tone sound register below same = refl
value_is now (suc (suc zero)) tone sound register below same = refl
value_is now (suc (suc (suc zero))) tone sound register below same =
    ap (noise (80 * sound.level)) (sym (same refl))
value_is now (suc (suc (suc (suc n)))) tone sound register below same = absurd (omega arith)

left_is : (now : Wave) (channel tick register : ℕ) (voice : Option Voice) → channel < 4
    → (channel ≡ 3 → register ≡ now.noise)
    → (output_at channel tick (slice_index now.phases channel) register voice).left
    ≡ channel_output on_left tick now channel voice
left_is now channel tick register None below same = refl
left_is now channel tick register (Some voice) below same =
    ap (λ v. cond (on_left voice.tone.pan) v (pos 0))
    (sym (value_is now channel voice.tone (sound_of tick voice) register below same))

right_is : (now : Wave) (channel tick register : ℕ) (voice : Option Voice) → channel < 4
    → (channel ≡ 3 → register ≡ now.noise)
    → (output_at channel tick (slice_index now.phases channel) register voice).right
    ≡ channel_output on_right tick now channel voice
right_is now channel tick register None below same = refl
right_is now channel tick register (Some voice) below same =
    ap (λ v. cond (on_right voice.tone.pan) v (pos 0))
    (sym (value_is now channel voice.tone (sound_of tick voice) register below same))

step_is : (channel tick phase register : ℕ) (voice : Option Voice)
    → (output_at channel tick phase register voice).step ≡ advance tick voice
step_is channel tick phase register None = refl
step_is channel tick phase register (Some voice) = refl

-- ---- a channel's ticks so far

pub left_given : (wave : Wave) (channel tick phase register : ℕ) → channel < 4
    → IsAt wave channel tick phase register
    → (output_at channel tick phase register (heard_voice wave channel)).left
    ≡ side_output on_left wave channel tick
left_given wave channel tick phase register below at =
    let now = after_ticks wave tick in
    ap (λ v. (output_at channel tick phase register v).left) (sym (voice_stays wave tick channel))
    ∙ ap (λ p. (output_at channel tick p register (heard_voice now channel)).left) at.turned
    ∙ left_is now channel tick register (heard_voice now channel) below at.shifted

pub right_given : (wave : Wave) (channel tick phase register : ℕ) → channel < 4
    → IsAt wave channel tick phase register
    → (output_at channel tick phase register (heard_voice wave channel)).right
    ≡ side_output on_right wave channel tick
right_given wave channel tick phase register below at =
    let now = after_ticks wave tick in
    ap (λ v. (output_at channel tick phase register v).right) (sym (voice_stays wave tick channel))
    ∙ ap (λ p. (output_at channel tick p register (heard_voice now channel)).right) at.turned
    ∙ right_is now channel tick register (heard_voice now channel) below at.shifted

-- the register where the phase has gone so far
abbrev pub shift : ℕ → ℕ → ℕ
shift moved register =
    cond (nat_lt moved ticks_a_second) register (register / 2 + 16384 * ((register + register / 2) % 2))

-- the oscillator after the tick
pub channel_goes_on : (wave : Wave) (channel tick phase register next moved step : ℕ) → channel < 4
    → IsAt wave channel tick phase register
    → step ≡ (output_at channel tick phase register (heard_voice wave channel)).step
    → next ≡ (phase + step) % ticks_a_second
    → (channel ≡ 3 → moved ≡ shift (phase + step) register)
    → moved < 32768
    → IsAt wave channel (tick + 1) next moved
channel_goes_on wave channel tick phase register next moved step below at steps turns shifts small =
    let now = after_ticks wave tick in
    let far : ℕ → ℕ = λ k. slice_index now.phases k + advance tick (heard_voice now k) in
    let advanced : step ≡ advance tick (heard_voice now channel) =
    steps ∙ step_is channel tick phase register (heard_voice wave channel)
    ∙ ap (advance tick) (sym (voice_stays wave tick channel)) in
    let sum : phase + step ≡ far channel =
    ap (λ p. p + step) at.turned ∙ ap (λ s. slice_index now.phases channel + s) advanced in
    let is : next ≡ slice_index (after_ticks wave (tick + 1)).phases channel =
    turns ∙ ap (λ n. n % ticks_a_second) sum ∙ sym (phase_of_next tick now channel below)
    ∙ ap (λ (w : Wave). slice_index w.phases channel) (sym (next_tick wave tick)) in
    record {
      turned = is;
      shifted = λ e. shifts e ∙ ap (λ n. shift n register) (sum ∙ ap far e)
          ∙ ap (shift (far 3)) (at.shifted e)
          ∙ ap (λ (w : Wave). w.noise) (sym (next_tick wave tick));
      phase_bound = omega (arith, turns);
      register_bound = small;
    }

-- one more value
pub given_more : (side : ℕ → Bool) (wave : Wave) (channel count : ℕ) (values : List ℤ) (value : ℤ)
    → count < length values → AreGiven side wave channel count values
    → value ≡ side_output side wave channel count
    → AreGiven side wave channel (count + 1) (set values count value)
given_more side wave channel count values value within so_far is =
    below_more _ _ (λ k h. let ne : k ≢ count = omega arith in rw get_or-set_other (so_far k h))
    (rw get_or-set_same is)

-- ---- the part of a channel

pub part_begins : (wave : Wave) (channel : ℕ) (part : Part) → channel < 4 → IsWave wave
    → part.phase ≡ slice_index wave.phases channel → part.register ≡ wave.noise → part.register < 32768
    → IsPart wave channel 0 part
unfolding after_ticks
part_begins wave channel part below is phase register small =
    let within : slice_index wave.phases channel < ticks_a_second =
    is.phases channel 0 (omega (arith, below, is.four_phases)) in
    record {
      left = λ tick h. absurd (omega (arith, h));
      right = λ tick h. absurd (omega (arith, h));
      at = record {
        turned = phase;
        shifted = λ e. register;
        phase_bound = omega (arith, within, phase);
        register_bound = small;
      };
    }

pub part_goes_on : (wave : Wave) (channel tick : ℕ) (part : Part) (output : Output) (left right : ℤ)
    (next moved : ℕ)
    → channel < 4 → tick < 735 → length part.left ≡ 735 → length part.right ≡ 735
    → IsPart wave channel tick part
    → output ≡ output_at channel tick part.phase part.register (heard_voice wave channel)
    → left ≡ output.left → right ≡ output.right
    → next ≡ (part.phase + output.step) % ticks_a_second
    → (channel ≡ 3 → moved ≡ shift (part.phase + output.step) part.register)
    → moved < 32768
    → IsPart wave channel (tick + 1)
    (record {
      left = set part.left tick left;
      right = set part.right tick right;
      phase = next;
      register = moved;
    })
part_goes_on wave channel tick part output left right next moved below h ll rl is e el er turns shifts small =
    record {
      left = given_more on_left wave channel tick part.left left (omega arith) is.left
          (el ∙ ap (λ (o : Output). o.left) e
          ∙ left_given wave channel tick part.phase part.register below is.at);
      right = given_more on_right wave channel tick part.right right (omega arith) is.right
          (er ∙ ap (λ (o : Output). o.right) e
          ∙ right_given wave channel tick part.phase part.register below is.at);
      at = channel_goes_on wave channel tick part.phase part.register next moved output.step below is.at
          (ap (λ (o : Output). o.step) e) turns shifts small;
    }

-- ---- a channel that isn't heard

mute_at : (wave : Wave) (channel register count : ℕ) → channel < 4 → IsWave wave
    → register ≡ wave.noise → register < 32768 → heard_voice wave channel ≡ None
    → IsAt wave channel count (slice_index wave.phases channel) register
unfolding after_ticks
mute_at wave channel register zero below is same small mute = record {
  turned = refl;
  shifted = λ e. same;
  phase_bound = is.phases channel 0 (omega (arith, below, is.four_phases));
  register_bound = small;
}
mute_at wave channel register (suc tick) below is same small mute =
    let phase = slice_index wave.phases channel in
    let within : phase < ticks_a_second = is.phases channel 0 (omega (arith, below, is.four_phases)) in
    subst (λ t. IsAt wave channel t phase register) (add-one tick)
    (channel_goes_on wave channel tick phase register phase register 0 below
    (mute_at wave channel register tick below is same small mute)
    (sym (ap (λ v. (output_at channel tick phase register v).step) mute))
    (omega (arith, within))
    (λ e. sym (ap (λ b. cond b register (register / 2 + 16384 * ((register + register / 2) % 2)))
    (lt-ltb (phase + 0) ticks_a_second (omega (arith, within)))))
    small)

mute_given : (side : ℕ → Bool) (wave : Wave) (channel : ℕ) → heard_voice wave channel ≡ None
    → AreGiven side wave channel 735 (replicate 735 (pos 0))
mute_given side wave channel mute tick within =
    get_or-replicate 735 tick (pos 0) (pos 0) within
    ∙ sym (ap (channel_output side tick (after_ticks wave tick) channel)
    (voice_stays wave tick channel ∙ mute))

pub mute_part : (wave : Wave) (channel : ℕ) (part : Part) → channel < 4 → IsWave wave
    → heard_voice wave channel ≡ None
    → part.left ≡ replicate 735 (pos 0) → part.right ≡ replicate 735 (pos 0)
    → part.phase ≡ slice_index wave.phases channel → part.register ≡ wave.noise → part.register < 32768
    → IsPart wave channel 735 part
mute_part wave channel part below is mute el er ep en small = record {
  left = subst (AreGiven on_left wave channel 735) (sym el) (mute_given on_left wave channel mute);
  right = subst (AreGiven on_right wave channel 735) (sym er) (mute_given on_right wave channel mute);
  at = subst (λ p. IsAt wave channel 735 p part.register) (sym ep)
      (mute_at wave channel part.register 735 below is en small mute);
}

-- a voice without a tone is none
pub no_tone : (voice : Option Voice) → is_some (option_map (λ (v : Voice). v.tone) voice) ≡ false
    → voice ≡ None
no_tone None e = refl
no_tone (Some voice) e = absurd (cc e)

-- ---- an output in three fields

same_output : (a b : Output) → a.left ≡ b.left → a.right ≡ b.right → a.step ≡ b.step → a ≡ b
same_output a b l r s =
    ap (λ x. let o : Output = record { left = x; right = a.right; step = a.step } in o) l
    ∙ ap (λ x. let o : Output = record { left = b.left; right = x; step = a.step } in o) r
    ∙ ap (λ x. let o : Output = record { left = b.left; right = b.right; step = x } in o) s

pub output_is : (out : Output) (channel tick phase register : ℕ) (voice : Option Voice)
    (tone : Tone) (sound : Sound) (value : ℤ)
    → Some (tone, sound) ≡ option_map (tone_and_sound tick) voice
    → value ≡ oscillator_value channel tone sound phase register
    → out.left ≡ cond (on_left tone.pan) value (pos 0)
    → out.right ≡ cond (on_right tone.pan) value (pos 0)
    → out.step ≡ sound.frequency
    → out ≡ output_at channel tick phase register voice
output_is out channel tick phase register None tone sound value e ev el er es = absurd (cc e)
output_is out channel tick phase register (Some voice) tone sound value e ev el er es =
    let pair : (tone, sound) ≡ tone_and_sound tick voice = cc e in
    let value_of : Tone × Sound → ℤ = λ p. oscillator_value channel p.0 p.1 phase register in
    same_output out (output_at channel tick phase register (Some voice))
    (el ∙ ap (λ v. cond (on_left tone.pan) v (pos 0)) ev
    ∙ ap (λ (p : Tone × Sound). cond (on_left p.0.pan) (value_of p) (pos 0)) pair)
    (er ∙ ap (λ v. cond (on_right tone.pan) v (pos 0)) ev
    ∙ ap (λ (p : Tone × Sound). cond (on_right p.0.pan) (value_of p) (pos 0)) pair)
    (es ∙ ap (λ (p : Tone × Sound). p.1.frequency) pair)

-- ---- the wave after a frame, from its four parts

four_items : (xs : List ℕ) → length xs ≡ 4
    → slice_index xs 0 ∷ slice_index xs 1 ∷ slice_index xs 2 ∷ slice_index xs 3 ∷ [] ≡ xs
four_items (a ∷ b ∷ c ∷ d ∷ []) four = refl
four_items xs four = absurd (omega arith)

same_wave : (a b : Wave) → a.channels ≡ b.channels → a.phases ≡ b.phases → a.noise ≡ b.noise → a ≡ b
same_wave a b c p n =
    ap (λ x. let w : Wave = record { channels = x; phases = a.phases; noise = a.noise } in w) c
    ∙ ap (λ x. let w : Wave = record { channels = b.channels; phases = x; noise = a.noise } in w) p
    ∙ ap (λ x. let w : Wave = record { channels = b.channels; phases = b.phases; noise = x } in w) n

pub after_parts : (wave now : Wave) (first second third fourth : Part) → IsWave wave
    → now.channels ≡ wave.channels
    → now.phases ≡ first.phase ∷ second.phase ∷ third.phase ∷ fourth.phase ∷ []
    → now.noise ≡ fourth.register
    → IsPart wave 0 735 first → IsPart wave 1 735 second → IsPart wave 2 735 third → IsPart wave 3 735 fourth
    → now ≡ after_ticks wave 735
after_parts wave now first second third fourth is channels phases noise a b c d =
    let after = after_ticks wave 735 in
    same_wave now after (channels ∙ sym (channels_stay wave 735))
    (phases ∙ rw (a.at.turned, b.at.turned, c.at.turned, d.at.turned)
    (four_items after.phases (ranges_stay wave 735 is).four_phases))
    (noise ∙ d.at.shifted refl)
