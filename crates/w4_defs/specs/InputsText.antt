-- A recording as text (project rule): remarks with its budget and its disk, and then a line for each input,
-- the order of a script that inserts it. So the text, read as a script, makes the inputs again over a
-- recording without frames; budget and disk are those of that recording.
use Rattle.std.specs.Prelude.{◌≡◌, ℕ, ℤ, pos, negsuc, ◌+◌, Bool, true, false, List, [], ◌∷◌, ◌++◌, flat_map, zip, length, codes, decimal, if◌then◌else◌, refl}
use Rattle.std.specs.Fmt.{digits}
use Rattle.std.specs.List.{range_with_len}
use Rattle.w4_defs.specs.declared.console.Input.{Input}
use Rattle.w4_defs.specs.FrameTexts.{spaced, line_end, numbered}
use Rattle.w4_defs.specs.MadeSummary.{hexadecimal}
use Rattle.w4_defs.specs.Recording.{Recording}

-- a coordinate after a space
abbrev pub spaced_coordinate : ℤ → List ℕ
spaced_coordinate (pos n) = spaced n
spaced_coordinate (negsuc n) = 32 ∷ 45 ∷ decimal (n + 1)

abbrev pub reset_word_of : Bool → List ℕ
reset_word_of reset = if reset then codes " reset" else []

-- the words of an input behind an order's name: its number, pads, mouse, buttons, and whether it has a reset
abbrev pub input_words : ℕ → Input → List ℕ
input_words k input =
    spaced k ++ flat_map spaced input.pads ++ spaced_coordinate input.mouse_x
    ++ spaced_coordinate input.mouse_y ++ spaced input.buttons ++ reset_word_of input.reset

-- a line for each input from number A on
abbrev pub input_lines : List ℕ → ℕ → List Input → List ℕ
input_lines word a inputs =
    flat_map (λ pair. word ++ input_words pair.0 pair.1 ++ line_end)
    (zip (range_with_len a (length inputs)) inputs)

abbrev pub disk_remark : List ℕ → List ℕ
disk_remark [] = codes "# disk" ++ line_end
disk_remark disk = codes "# disk " ++ hexadecimal disk ++ line_end

unfoldable pub inputs_text : Recording → List ℕ
inputs_text r =
    numbered (codes "# budget") (r.budget ∷ []) ++ disk_remark r.disk
    ++ input_lines (codes "insert") 0 r.frames

-- Worked cases: a recording with a disk, an input of zeros, and one with a mouse and a reset; and one without
-- either.
abbrev worked_recording : Recording
worked_recording = record {
  digest = [];
  budget = 7;
  disk = 97 ∷ 98 ∷ [];
  frames =
      record { pads = 0 ∷ 0 ∷ 0 ∷ 0 ∷ []; mouse_x = pos 0; mouse_y = pos 0; buttons = 0; reset = false }
      ∷ record { pads = 255 ∷ 1 ∷ 2 ∷ 3 ∷ []; mouse_x = negsuc 4; mouse_y = pos 7; buttons = 2; reset = true }
      ∷ [];
}

abbrev pub InputsTextCases : Type 0
InputsTextCases =
    (inputs_text worked_recording
    ≡ codes "# budget 7\n# disk 6162\ninsert 0 0 0 0 0 0 0 0\ninsert 1 255 1 2 3 -5 7 2 reset\n")
    × (inputs_text (record { digest = []; budget = 1; disk = []; frames = [] })
    ≡ codes "# budget 1\n# disk\n")

pub inputs-text-cases : InputsTextCases
unfolding inputs_text digits
inputs-text-cases = (refl, refl)
