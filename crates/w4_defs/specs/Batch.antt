-- A batch (project rule): many recordings are run on one cart, and one row is told of each. A row depends on
-- its own bytes alone. The SHA-256 (FIPS 180-4) of an image is a parameter here.
use Rattle.std.specs.Prelude.{◌≡◌, ℕ, List, [], ◌∷◌, ◌++◌, length, map, take, replicate, bytes_eq, codes, if◌then◌else◌, Option, Some, None, option_map, refl}
use Rattle.w4_defs.specs.declared.batch.BatchRow.{BatchRow}
use Rattle.w4_defs.specs.declared.batch.BatchRow.TheVariants.{Bad, WrongCart, Ran}
use Rattle.w4_defs.specs.declared.value.Cause.TheVariants.{Memory}
use Rattle.w4_defs.specs.declared.console.Halt.TheVariants.{Trapped}
use Rattle.w4_defs.specs.Module.{WasmModule}
use Rattle.w4_defs.specs.Image.{image, pixel_colours}
use Rattle.w4_defs.specs.Tones.{silent}
use Rattle.w4_defs.specs.State.{State}
use Rattle.w4_defs.specs.Run.{run_state}
use Rattle.w4_defs.specs.Board.{console_setup}
use Rattle.w4_defs.specs.Recording.{Recording, frames_of, recording_of}
use Rattle.w4_defs.specs.EmptyCart.{empty_module}

-- the row of a recording that was run: how many frames, and of the state after the last of them whether
-- the cart still runs, the digest of the image, and the disk's length
abbrev pub ran_row : (List ℕ → List ℕ) → ℕ → State → BatchRow
ran_row sha256 frames state = Ran frames state.halt (sha256 (image state.page)) (length state.disk)

-- the run of a recording on a cart with a font; an accepted cart always has one
abbrev pub run_row : (List ℕ → List ℕ) → WasmModule → List ℕ → Recording → Option BatchRow
run_row sha256 cart font r =
    let frames = length r.frames in
    option_map (ran_row sha256 frames) (run_state (console_setup cart font r.budget) r.disk r.frames frames)

-- the row of a recording, or of bytes that encode none: it is run if and only if its digest is the cart's
abbrev pub batch_row : (List ℕ → List ℕ) → WasmModule → List ℕ → List ℕ → Option Recording → Option BatchRow
batch_row sha256 cart font digest None = Some Bad
batch_row sha256 cart font digest (Some r) =
    if bytes_eq r.digest digest then run_row sha256 cart font r else Some WrongCart

-- the row of the bytes of a file
unfoldable pub file_row : (List ℕ → List ℕ) → WasmModule → List ℕ → List ℕ → List ℕ → Option BatchRow
file_row sha256 cart font digest bytes = batch_row sha256 cart font digest (recording_of bytes)

-- the rows of all files, in their order
abbrev pub file_rows : (List ℕ → List ℕ) → WasmModule → List ℕ → List ℕ → List (List ℕ)
    → List (Option BatchRow)
file_rows sha256 cart font digest files = map (file_row sha256 cart font digest) files

-- Worked cases: a recording of no frames of another cart, the same without its last byte, and what is told of
-- a run that ended with a trap.
abbrev pub worked_file : List ℕ
worked_file =
    codes "W4RC" ++ 1 ∷ replicate 32 7 ++ 16 ∷ 0 ∷ 0 ∷ 0 ∷ 0 ∷ 0 ∷ 0 ∷ 0 ∷ 0 ∷ 0 ∷ []

abbrev pub trapped_state : State
trapped_state =
    record { page = []; globals = []; channels = silent; disk = 5 ∷ 6 ∷ []; halt = Trapped Memory }

abbrev pub BatchCases : Type 0
BatchCases =
    (file_row (λ image. []) empty_module [] (replicate 32 8) worked_file ≡ Some WrongCart)
    × (file_row (λ image. []) empty_module [] (replicate 32 7) (take 46 worked_file) ≡ Some Bad)
    × (ran_row (take 2) 3 trapped_state ≡ Ran 3 (Trapped Memory) (80 ∷ 54 ∷ []) 2)

pub batch-cases : BatchCases
unfolding file_row recording_of frames_of image pixel_colours
batch-cases = (refl, refl, refl)
