-- The number that a run ends with, and the line that it writes to standard error (project rule). Each line
-- ends with byte 10; numbers are decimal without leading zeros.
use Rattle.std.specs.Prelude.{◌≡◌, ℕ, List, [], ◌++◌, codes, Option, Some, None, refl}
use Rattle.std.specs.Fmt.{digits}
use Rattle.w4_defs.specs.declared.refusal.CartKind.{CartKind}
use Rattle.w4_defs.specs.declared.refusal.CartKind.TheVariants as cart
use Rattle.w4_defs.specs.declared.refusal.ProfileRefusal.{ProfileRefusal}
use Rattle.w4_defs.specs.declared.refusal.ProfileRefusal.TheVariants as profile
use Rattle.w4_defs.specs.FrameTexts.{spaced, line_end}
use Rattle.w4_defs.specs.declared.status.RecordingKind.{RecordingKind}
use Rattle.w4_defs.specs.declared.status.RecordingKind.TheVariants.{Bad, WrongCart}
use Rattle.w4_defs.specs.declared.status.ScriptKind.{ScriptKind}
use Rattle.w4_defs.specs.declared.status.ScriptKind.TheVariants.{TooLong, BadLine}
use Rattle.w4_defs.specs.declared.status.Status.{Status}
use Rattle.w4_defs.specs.declared.status.Status.TheVariants.{Done, Different, Usage, CartRefused, RecordingRefused, FontRefused, ScriptRefused, ReadFault, InputFault, WriteFault, OutOfMemory, FrameRefused, ListRefused}

abbrev pub number_of_status : Status → ℕ
number_of_status Done = 0
number_of_status Different = 1
number_of_status Usage = 2
number_of_status (CartRefused kind) = 3
number_of_status (RecordingRefused kind) = 4
number_of_status FontRefused = 5
number_of_status (ScriptRefused kind) = 6
number_of_status ReadFault = 7
number_of_status WriteFault = 8
number_of_status OutOfMemory = 9
number_of_status (FrameRefused number n) = 10
number_of_status (ListRefused kind) = 12
number_of_status InputFault = 13

abbrev pub profile_words : ProfileRefusal → List ℕ
profile_words profile.Floats = codes "floats"
profile_words profile.TooManyLocals = codes "too many locals"
profile_words profile.TableTooLarge = codes "table too large"
profile_words (profile.UnknownImport i) = codes "unknown import" ++ spaced i
profile_words (profile.WrongImport i) = codes "wrong import" ++ spaced i
profile_words profile.NoMemory = codes "no memory"
profile_words profile.NoUpdate = codes "no update"
profile_words profile.WrongEntry = codes "wrong entry"
profile_words (profile.SegmentOutside i) = codes "segment outside" ++ spaced i

abbrev pub invalid_words : Option ℕ → List ℕ
invalid_words None = codes "invalid module"
invalid_words (Some f) = codes "invalid function" ++ spaced f

abbrev pub cart_words : CartKind → List ℕ
cart_words cart.TooLarge = codes "too large"
cart_words cart.Malformed = codes "malformed"
cart_words (cart.Profile refusal) = profile_words refusal
cart_words (cart.Invalid func) = invalid_words func

abbrev pub recording_words : RecordingKind → List ℕ
recording_words Bad = codes "bad"
recording_words WrongCart = codes "wrong cart"

abbrev pub script_words : ScriptKind → List ℕ
script_words TooLong = codes "too long"
script_words (BadLine number) = codes "line" ++ spaced number

-- after Done and Different no line is written
abbrev pub status_words : Status → List ℕ
status_words Done = []
status_words Different = []
status_words Usage = codes "usage"
status_words (CartRefused kind) = codes "cart: " ++ cart_words kind
status_words (RecordingRefused kind) = codes "recording: " ++ recording_words kind
status_words FontRefused = codes "font: not 1792 bytes"
status_words (ScriptRefused kind) = codes "script: " ++ script_words kind
status_words ReadFault = codes "cannot read"
status_words InputFault = codes "cannot read input"
status_words WriteFault = codes "cannot write"
status_words OutOfMemory = codes "out of memory"
status_words (FrameRefused number n) = codes "frame" ++ (spaced number ++ (codes " of" ++ spaced n))
status_words (ListRefused kind) = codes "list: " ++ script_words kind

abbrev pub status_line : Status → List ℕ
status_line status = codes "w4: " ++ status_words status ++ line_end

-- Worked cases: one line of each shape.
abbrev pub StatusLineCases : Type 0
StatusLineCases =
    (status_line Usage ≡ codes "w4: usage\n")
    × (status_line (CartRefused (cart.Profile (profile.UnknownImport 12)))
    ≡ codes "w4: cart: unknown import 12\n")
    × (status_line (CartRefused (cart.Invalid None)) ≡ codes "w4: cart: invalid module\n")
    × (status_line (CartRefused (cart.Invalid (Some 0))) ≡ codes "w4: cart: invalid function 0\n")
    × (status_line (RecordingRefused WrongCart) ≡ codes "w4: recording: wrong cart\n")
    × (status_line (ScriptRefused (BadLine 2)) ≡ codes "w4: script: line 2\n")
    × (status_line (FrameRefused 2 1) ≡ codes "w4: frame 2 of 1\n")
    × (status_line ReadFault ≡ codes "w4: cannot read\n")
    × (status_line InputFault ≡ codes "w4: cannot read input\n")
    × (status_line (ListRefused TooLong) ≡ codes "w4: list: too long\n")

pub status-line-cases : StatusLineCases
unfolding digits
status-line-cases = (refl, refl, refl, refl, refl, refl, refl, refl, refl, refl)
