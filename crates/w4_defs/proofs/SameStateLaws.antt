-- The test of two states decides their equality.
use lib.Pointwise.{pointwise_decides}
use Rattle.std.proofs.Common.{◌≡◌, ℕ, Bool, List, [], ◌∷◌, get_or, Option, Some, None, refl, sym, ap, ◌∙◌}
use Rattle.std.specs.Bool.{Decides}
use Rattle.std.specs.Cmp.{booleans_Decides}
use Rattle.std.specs.Option.{option_eq}
use Rattle.std.proofs.lemmas.Bool.Decides.{Decides-eqb, Decides-and, Decides-like}
use Rattle.std.proofs.lemmas.Slice.Eq.{bytes_eq-Decides}
use Rattle.w4_defs.specs.declared.value.Val.{Val}
use Rattle.w4_defs.specs.declared.value.Val.TheVariants.{I32, I64}
use Rattle.w4_defs.specs.declared.value.Cause.{Cause}
use Rattle.w4_defs.specs.declared.value.Cause.TheVariants.{Unreachable, DivideByZero, Overflow, Memory, Table, EmptyEntry, Type_, Stack}
use Rattle.w4_defs.specs.declared.console.Halt.{Halt}
use Rattle.w4_defs.specs.declared.console.Halt.TheVariants.{Running, Trapped, Spent}
use Rattle.w4_defs.specs.declared.console.Voice.{Voice}
use Rattle.w4_defs.specs.State.{State}
use Rattle.w4_defs.specs.SameState.{same_val, cause_number, same_halt, voice_numbers, same_voice, same_state, SameStateDecides}

val_number : Val → ℕ
val_number (I32 n) = n
val_number (I64 n) = n

val_decides : (a b : Val) → Decides (same_val a b) (a ≡ b)
unfolding val_number
val_decides (I32 a) (I32 b) = Decides-like _ (ap I32) (ap val_number) (Decides-eqb a b)
val_decides (I64 a) (I64 b) = Decides-like _ (ap I64) (ap val_number) (Decides-eqb a b)
val_decides (I32 a) (I64 b) = (λ e. absurd cc, λ e. absurd cc)
val_decides (I64 a) (I32 b) = (λ e. absurd cc, λ e. absurd cc)

cause_numbered : ℕ → Cause
cause_numbered n =
    get_or (Unreachable ∷ DivideByZero ∷ Overflow ∷ Memory ∷ Table ∷ EmptyEntry ∷ Type_ ∷ Stack ∷ []) n
    Unreachable

cause_again : (cause : Cause) → cause_numbered (cause_number cause) ≡ cause
unfolding cause_numbered
cause_again Unreachable = refl
cause_again DivideByZero = refl
cause_again Overflow = refl
cause_again Memory = refl
cause_again Table = refl
cause_again EmptyEntry = refl
cause_again Type_ = refl
cause_again Stack = refl

-- a cause is known by its number
same_cause : (a b : Cause) → cause_number a ≡ cause_number b → a ≡ b
same_cause a b e = sym (cause_again a) ∙ ap cause_numbered e ∙ cause_again b

cause_in : Cause → Halt → Cause
cause_in other Running = other
cause_in other Spent = other
cause_in other (Trapped cause) = cause

halt_number : Halt → ℕ
halt_number Running = 0
halt_number Spent = 1
halt_number (Trapped cause) = 2

halt_decides : (a b : Halt) → Decides (same_halt a b) (a ≡ b)
unfolding cause_in halt_number
halt_decides Running Running = (λ e. refl, λ e. refl)
halt_decides Spent Spent = (λ e. refl, λ e. refl)
halt_decides (Trapped a) (Trapped b) =
    Decides-like _ (λ e. ap Trapped (same_cause a b e)) (λ e. ap cause_number (ap (cause_in a) e))
    (Decides-eqb (cause_number a) (cause_number b))
halt_decides Running Spent = (λ e. absurd cc, λ e. absurd cc)
halt_decides Running (Trapped b) = (λ e. absurd cc, λ e. absurd cc)
halt_decides Spent Running = (λ e. absurd cc, λ e. absurd cc)
halt_decides Spent (Trapped b) = (λ e. absurd cc, λ e. absurd cc)
halt_decides (Trapped a) Running = (λ e. absurd cc, λ e. absurd cc)
halt_decides (Trapped a) Spent = (λ e. absurd cc, λ e. absurd cc)

-- a voice is known by its numbers and whether its tone is a note
voice_from : List ℕ → Bool → Voice
voice_from numbers note = record {
  age = get_or numbers 0 0;
  tone = record {
    channel = get_or numbers 1 0;
    first = get_or numbers 2 0;
    second = get_or numbers 3 0;
    attack = get_or numbers 4 0;
    decay = get_or numbers 5 0;
    sustain = get_or numbers 6 0;
    release = get_or numbers 7 0;
    peak = get_or numbers 8 0;
    level = get_or numbers 9 0;
    duty = get_or numbers 10 0;
    pan = get_or numbers 11 0;
    note = note;
  };
}

same_parts : (a b : Voice) → (voice_numbers a ≡ voice_numbers b) × (a.tone.note ≡ b.tone.note) → a ≡ b
unfolding voice_from
same_parts a b e = λ i. voice_from (e.0 i) (e.1 i)

voice_decides : (a b : Voice) → Decides (same_voice a b) (a ≡ b)
voice_decides a b = Decides-like _ (same_parts a b) (λ e. (
  ap voice_numbers e,
  ap (λ
      (v : Voice). v.tone.note) e,
))
    (Decides-and _ _ (bytes_eq-Decides (voice_numbers a) (voice_numbers b))
    (booleans_Decides a.tone.note b.tone.note))

channel_decides : (a b : Option Voice) → Decides (option_eq same_voice a b) (a ≡ b)
channel_decides None None = (λ e. refl, λ e. refl)
channel_decides None (Some b) = (λ e. absurd cc, λ e. absurd cc)
channel_decides (Some a) None = (λ e. absurd cc, λ e. absurd cc)
channel_decides (Some a) (Some b) =
    let inside : Option Voice → Voice = λ o. elim o [ Some v ↦ v | None ↦ a ] in
    Decides-like _ (ap (λ (v : Voice). Some v)) (ap inside) (voice_decides a b)

pub same_state_decides : SameStateDecides
unfolding same_state
same_state_decides a b = Decides-like _
    (λ e. λ i. record {
      page = e.0.0.0.0 i;
      globals = e.0.0.0.1 i;
      channels = e.0.0.1 i;
      disk =
          e.0.1 i;
      halt = e.1 i;
    })
    (λ e. (
      (
        (
          (ap (λ (s : State). s.page) e, ap (λ (s : State). s.globals) e),
          ap (λ
              (s : State). s.channels) e,
        ),
        ap (λ (s : State). s.disk) e,
      ),
      ap (λ (s : State). s.halt) e,
    ))
    (Decides-and _ _ (Decides-and _ _ (Decides-and _ _ (Decides-and _ _ (bytes_eq-Decides a.page b.page)
    (pointwise_decides val_decides a.globals b.globals))
    (pointwise_decides channel_decides a.channels b.channels)) (bytes_eq-Decides a.disk b.disk))
    (halt_decides a.halt b.halt))
