-- Whether two states are equal in page, globals, channels, disk and halt.
use Rattle.std.specs.Prelude.{◌≡◌, ℕ, ◌==◌, ◌&&◌, Bool, false, true, List, [], ◌∷◌}
use lib.Pointwise.{pointwise}
use Rattle.std.specs.Bool.{Decides, beq}
use Rattle.std.specs.Option.{option_eq}
use Rattle.std.specs.Str.{bytes_eq}
use Rattle.w4_defs.specs.declared.value.Val.{Val}
use Rattle.w4_defs.specs.declared.value.Val.TheVariants.{I32, I64}
use Rattle.w4_defs.specs.declared.value.Cause.{Cause}
use Rattle.w4_defs.specs.declared.value.Cause.TheVariants.{Unreachable, DivideByZero, Overflow, Memory, Table, EmptyEntry, Type_, Stack}
use Rattle.w4_defs.specs.declared.console.Halt.{Halt}
use Rattle.w4_defs.specs.declared.console.Halt.TheVariants.{Running, Trapped, Spent}
use Rattle.w4_defs.specs.declared.console.Voice.{Voice}
use Rattle.w4_defs.specs.State.{State}

abbrev pub same_val : Val → Val → Bool
same_val (I32 a) (I32 b) = a == b
same_val (I64 a) (I64 b) = a == b
same_val a b = false

-- the causes, numbered
abbrev pub cause_number : Cause → ℕ
cause_number Unreachable = 0
cause_number DivideByZero = 1
cause_number Overflow = 2
cause_number Memory = 3
cause_number Table = 4
cause_number EmptyEntry = 5
cause_number Type_ = 6
cause_number Stack = 7

abbrev pub same_halt : Halt → Halt → Bool
same_halt Running Running = true
same_halt Spent Spent = true
same_halt (Trapped a) (Trapped b) = cause_number a == cause_number b
same_halt a b = false

-- all of a voice but whether its tone is a note
abbrev pub voice_numbers : Voice → List ℕ
voice_numbers voice =
    voice.age ∷ voice.tone.channel ∷ voice.tone.first ∷ voice.tone.second
    ∷ voice.tone.attack ∷ voice.tone.decay ∷ voice.tone.sustain ∷ voice.tone.release
    ∷ voice.tone.peak ∷ voice.tone.level ∷ voice.tone.duty ∷ voice.tone.pan ∷ []

abbrev pub same_voice : Voice → Voice → Bool
same_voice a b = bytes_eq (voice_numbers a) (voice_numbers b) && beq a.tone.note b.tone.note

unfoldable pub same_state : State → State → Bool
same_state a b = bytes_eq a.page b.page && pointwise same_val a.globals b.globals
    && pointwise (option_eq same_voice) a.channels b.channels && bytes_eq a.disk b.disk
    && same_halt a.halt b.halt

abbrev pub SameStateDecides : Type 0
SameStateDecides = (a b : State) → Decides (same_state a b) (a ≡ b)
