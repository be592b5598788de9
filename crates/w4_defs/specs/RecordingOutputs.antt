-- What `units`, `compare`, `rebind`, `inputs` and `blank` with a disk make of their words and files (project
-- rule). As in all commands the carts are judged first, then the files, each before the next is read.
use Rattle.std.specs.Prelude.{◌≡◌, ℕ, nat_le, List, length, replicate, option_map, Option, Result, Ok, Err, if◌then◌else◌, refl}
use Rattle.w4_defs.specs.declared.status.RecordingKind.TheVariants.{Bad}
use Rattle.w4_defs.specs.declared.status.Refusal.{Refusal}
use Rattle.w4_defs.specs.declared.status.Refusal.TheVariants.{RecordingRefused}
use Rattle.w4_defs.specs.declared.status.Finish.{Finish}
use Rattle.w4_defs.specs.declared.status.Finish.TheVariants.{Done, Different}
use Rattle.w4_defs.specs.Commands.{RunWords, CompareWords}
use Rattle.w4_defs.specs.Comparison.{Compared, Side, compared}
use Rattle.w4_defs.specs.InputsText.{inputs_text}
use Rattle.w4_defs.specs.Module.{WasmModule}
use Rattle.w4_defs.specs.Output.{◌>>=◌, CartFile, Output, Played, any_recording, blank_recording, judged, font_in, recording_in, run_files, run_setup, making, only_written, printing}
use Rattle.w4_defs.specs.Recording.{Recording, encoding}
use Rattle.w4_defs.specs.Units.{units_text}
use Rattle.w4_defs.specs.World.{Files}
use Rattle.w4_defs.specs.Limits.{disk_limit, recording_limit}

-- ---- `units CART REC FONT`

abbrev pub run_units : WasmModule → Played → Option (List ℕ)
run_units m p = units_text (run_setup m p) p.recording.disk p.recording.frames

unfoldable pub units_output : RunWords → CartFile → Files → Option (Result Output Refusal)
units_output words cart files = printing (run_files cart.digest words files) (run_units cart.code)

-- ---- recordings alone

unfoldable pub any_recording_in : Files → List ℕ → Result Recording Refusal
any_recording_in = judged recording_limit any_recording

-- `inputs REC`
unfoldable pub inputs_output : List ℕ → Files → Result Output Refusal
inputs_output name files = do
  r ← any_recording_in files name
  Ok (only_written (inputs_text r))

-- `rebind CART REC`: all the same but the digest, in version 2
abbrev pub rebound : List ℕ → Recording → Recording
rebound digest r = record r { digest = digest }

unfoldable pub rebind_output : List ℕ → CartFile → Files → Result Output Refusal
rebind_output name cart files = do
  r ← any_recording_in files name
  Ok (only_written (encoding 2 (rebound cart.digest r)))

-- `blank CART BUDGET DISK`: at most 1,024 bytes, without frames
abbrev pub disk_of : List ℕ → Result (List ℕ) Refusal
disk_of bytes = if nat_le (length bytes) disk_limit then Ok bytes else Err (RecordingRefused Bad)

unfoldable pub disk_in : Files → List ℕ → Result (List ℕ) Refusal
disk_in = judged disk_limit disk_of

unfoldable pub blank_disk_output : ℕ → List ℕ → CartFile → Files → Result Output Refusal
blank_disk_output budget name cart files = do
  disk ← disk_in files name
  Ok (only_written (encoding 2 (blank_recording cart.digest budget disk)))

-- ---- `compare CART REC CART2 REC2 FONT`

-- what two runs are made of besides their carts
pub record TwoPlayed : Type 0 where
  pub first : Played
  pub second : Played

unfoldable pub compare_files : CompareWords → CartFile → CartFile → Files → Result TwoPlayed Refusal
compare_files words one other files = do
  first ← recording_in one.digest files words.recording
  second ← recording_in other.digest files words.other_recording
  font ← font_in files words.font
  Ok (record {
    first = record { recording = first; font = font };
    second = record { recording = second; font = font };
  })

abbrev pub side_of : WasmModule → Played → Side
side_of m p =
    record { setup = run_setup m p; disk = p.recording.disk; inputs = p.recording.frames }

-- the lines on standard output, and whether they tell of a difference
abbrev pub finish_of : Compared → Finish
finish_of lines = if lines.same then Done else Different

abbrev pub compared_result : Compared → Output
compared_result lines = record (only_written lines.text) { finish = finish_of lines }

-- what is written of two runs; None where one of them has no meaning
unfoldable pub compared_runs : WasmModule → WasmModule → TwoPlayed → Option Output
compared_runs one other p =
    option_map compared_result (compared (side_of one p.first) (side_of other p.second))

unfoldable pub compare_output : CompareWords → CartFile → CartFile → Files → Option (Result Output Refusal)
compare_output words one other files =
    making (compare_files words one other files) (compared_runs one.code other.code)

-- ---- worked cases: a disk of 1,024 bytes and of 1,025
abbrev pub DiskSizeCases : Type 0
DiskSizeCases =
    (disk_of (replicate 1024 7) ≡ Ok (replicate 1024 7))
    × (disk_of (replicate 1025 7) ≡ Err (RecordingRefused Bad))

pub disk-size-cases : DiskSizeCases
disk-size-cases = (refl, refl)
