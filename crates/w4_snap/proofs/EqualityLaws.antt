-- Laws of tests of equality: options, and voices by their fields.
use Rattle.std.proofs.Common.{◌≡◌, Bool, Option, Some, None, refl, ap, rules, Decides, ◌&&◌}
use Rattle.std.specs.Prelude.{◌==◌}
use mathlib.Core.Bool.{beq}
use Rattle.std.specs.Cmp.{booleans_Decides}
use Rattle.std.specs.Option.{option_eq}
use Rattle.std.proofs.lemmas.Bool.Decides.{Decides-and, Decides-eqb, Decides-like}
use Rattle.w4_defs.specs.declared.console.Tone.{Tone}
use Rattle.w4_defs.specs.declared.console.Voice.{Voice}

-- a test that decides equality decides that of options
pub options_decide : {T : Type 0} {E : T → T → Bool} → ((a b : T) → Decides (E a b) (a ≡ b))
    → (a b : Option T) → Decides (option_eq E a b) (a ≡ b)
options_decide decides None None = ((λ _. refl), (λ _. refl))
options_decide decides None (Some b) = ((λ h. cc), (λ h. cc))
options_decide decides (Some a) None = ((λ h. cc), (λ h. cc))
options_decide decides (Some a) (Some b) =
    ((λ h. ap (λ x. Some x) ((decides a b).0 h)), (λ h. (decides a b).1 (cc)))

-- a tone is its fields, and so is a voice
abbrev tone_test : Tone → Tone → Bool
tone_test a b = a.channel == b.channel
    && (a.first == b.first && (a.second == b.second && (a.attack == b.attack && (a.decay == b.decay
    && (a.sustain == b.sustain
    && (a.release == b.release && (a.peak == b.peak && (a.level == b.level && (a.duty == b.duty
    && (a.pan == b.pan && beq a.note b.note))))))))))

abbrev IsSameTone : Tone → Tone → Type 0
IsSameTone a b = (a.channel ≡ b.channel)
    × ((a.first ≡ b.first) × ((a.second ≡ b.second) × ((a.attack ≡ b.attack) × ((a.decay ≡ b.decay)
    × ((a.sustain ≡ b.sustain)
    × ((a.release ≡ b.release) × ((a.peak ≡ b.peak) × ((a.level ≡ b.level) × ((a.duty ≡ b.duty)
    × ((a.pan ≡ b.pan) × (a.note ≡ b.note)))))))))))

tone_parts : (a b : Tone) → Decides (tone_test a b) (IsSameTone a b)
tone_parts a b =
    Decides-and _ _ (Decides-eqb _ _)
    (Decides-and _ _ (Decides-eqb _ _)
    (Decides-and _ _ (Decides-eqb _ _) (Decides-and _ _ (Decides-eqb _ _)
    (Decides-and _ _ (Decides-eqb _ _)
    (Decides-and _ _ (Decides-eqb _ _)
    (Decides-and _ _ (Decides-eqb _ _) (Decides-and _ _ (Decides-eqb _ _)
    (Decides-and _ _ (Decides-eqb _ _)
    (Decides-and _ _ (Decides-eqb _ _)
    (Decides-and _ _ (Decides-eqb _ _) (booleans_Decides _ _)))))))))))

whole_tone : (a : Tone) → a ≡ record {
  channel = a.channel;
  first = a.first;
  second = a.second;
  attack = a.attack;
  decay = a.decay;
  sustain = a.sustain;
  release = a.release;
  peak = a.peak;
  level = a.level;
  duty = a.duty;
  pan = a.pan;
  note = a.note;
}
whole_tone a = refl

same_tone : (a b : Tone) → IsSameTone a b → a ≡ b
same_tone a b h = cc (whole_tone a, whole_tone b)

tone_fields : (a b : Tone) → a ≡ b → IsSameTone a b
tone_fields a b e = search rules

whole_voice : (a : Voice) → a ≡ record { tone = a.tone; age = a.age }
whole_voice a = refl

voice_by_fields : (a b : Voice) → (a.tone ≡ b.tone) × (a.age ≡ b.age) → a ≡ b
voice_by_fields a b h = cc (whole_voice a, whole_voice b)

voice_fields : (a b : Voice) → a ≡ b → (a.tone ≡ b.tone) × (a.age ≡ b.age)
voice_fields a b e = search rules

pub voices_decide : (a b : Voice) → Decides (tone_test a.tone b.tone && a.age == b.age) (a ≡ b)
voices_decide a b =
    let tones : Decides (tone_test a.tone b.tone) (a.tone ≡ b.tone) =
    Decides-like _ (same_tone a.tone b.tone) (tone_fields a.tone b.tone) (tone_parts a.tone b.tone) in
    Decides-like _ (voice_by_fields a b) (voice_fields a b) (Decides-and _ _ tones (Decides-eqb _ _))
