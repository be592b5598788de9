-- What is written of a place of a run: its image, its schedule of tones, its trace lines, its disk, or the
-- line of its state (project rule). Nothing is, where the run has no meaning.
use Rattle.std.specs.Prelude.{ℕ, List, map, Option, option_map}
use Rattle.std.specs.List.{range_with_len}
use Rattle.w4_defs.specs.declared.place_text.PlaceText.{PlaceText}
use Rattle.w4_defs.specs.declared.place_text.PlaceText.TheVariants.{Image, Schedule, Traces, DiskBytes}
use Rattle.w4_defs.specs.AllThere.{all_joined}
use Rattle.w4_defs.specs.Image.{image}
use Rattle.w4_defs.specs.FrameTexts.{schedule_text, trace_text, state_line}
use Rattle.w4_defs.specs.State.{Moment}
use Rattle.w4_defs.specs.declared.console.Input.{Input}
use Rattle.w4_defs.specs.Reset.{Setup}
use Rattle.w4_defs.specs.Run.{run}

-- how a piece of an answer is written: as it stands, or with its length before it
abbrev pub PieceForm : Type 0
PieceForm = List ℕ → List ℕ

abbrev pub as_it_stands : PieceForm
as_it_stands piece = piece

-- the line of the state, with the kept places
abbrev pub state_text : PieceForm → ℕ → ℕ → Option Moment → List ℕ → Option (List ℕ)
state_text form place count moment kept =
    option_map (λ (m : Moment). form (state_line place count m.state kept)) moment

abbrev pub moment_text : PlaceText → ℕ → Moment → List ℕ
moment_text Image place moment = image moment.state.page
moment_text Schedule place moment = schedule_text place moment.frame_record
moment_text Traces place moment = trace_text place moment.frame_record
moment_text DiskBytes place moment = moment.state.disk

abbrev pub place_text : PieceForm → PlaceText → ℕ → Option Moment → Option (List ℕ)
place_text form wanted place moment = option_map (λ m. form (moment_text wanted place m)) moment

-- the texts of so many places, one after another
abbrev pub place_texts : (ℕ → Option (List ℕ)) → ℕ → ℕ → Option (List ℕ)
place_texts text from count = all_joined (map text (range_with_len from count))

-- those of so many places of a run
abbrev pub run_texts : PieceForm → PlaceText → Setup → List ℕ → List Input → ℕ → ℕ → Option (List ℕ)
run_texts form wanted setup disk inputs from count =
    place_texts (λ place. place_text form wanted place (run setup disk inputs place)) from count
