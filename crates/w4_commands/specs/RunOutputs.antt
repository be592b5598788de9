-- What is written of one run: texts of some places, or one of the four things that are written of a whole
-- run.
use Rattle.std.specs.Prelude.{ℕ, ◌+◌, ◌-◌, List, length, Option, Result}
use Rattle.w4_defs.specs.declared.place_text.PlaceText.{PlaceText}
use Rattle.w4_defs.specs.declared.place_text.PlaceText.TheVariants.{Schedule, Traces}
use Rattle.w4_defs.specs.declared.status.Refusal.{Refusal}
use Rattle.w4_defs.specs.Commands.{Form, RunWords, Tones, Trace, Units, Wave, tones_form, trace_form}
use Rattle.w4_defs.specs.Commands.{units_form, wave_form}
use Rattle.w4_defs.specs.Module.{WasmModule}
use Rattle.w4_defs.specs.Output.{CartFile, Output, Played, place_texts_from, printing, run_files}
use Rattle.w4_defs.specs.Output.{run_files_to}
use Rattle.w4_defs.specs.RecordingOutputs.{run_units}
use Rattle.w4_defs.specs.ToolOutputs.{wave_text}
use Rattle.w4_defs.specs.World.{Files}
use Rattle.w4_commands.specs.declared.forms.WholeText.{WholeText}
use Rattle.w4_commands.specs.declared.forms.WholeText.TheVariants as whole

-- the texts of places, one after another
abbrev pub places_output : PlaceText → RunWords → ℕ → ℕ → CartFile → Files → Option (Result Output Refusal)
places_output wanted words from to cart files = printing (run_files_to cart.digest words to files)
    (λ p. place_texts_from wanted cart.code p from (to + 1 - from))

-- the commands that are named for what they write of a whole run
abbrev pub whole_form : WholeText → List (List ℕ) → Option Form
whole_form whole.Tones = tones_form
whole_form whole.Trace = trace_form
whole_form whole.Units = units_form
whole_form whole.Wave = wave_form

abbrev pub whole_command : WholeText → RunWords → Form
whole_command whole.Tones = Tones
whole_command whole.Trace = Trace
whole_command whole.Units = Units
whole_command whole.Wave = Wave

abbrev pub all_texts : PlaceText → WasmModule → Played → Option (List ℕ)
all_texts wanted m p = place_texts_from wanted m p 0 (length p.recording.frames + 1)

abbrev pub whole_text : WholeText → WasmModule → Played → Option (List ℕ)
whole_text whole.Tones = all_texts Schedule
whole_text whole.Trace = all_texts Traces
whole_text whole.Units = run_units
whole_text whole.Wave = wave_text

abbrev pub whole_output : WholeText → RunWords → CartFile → Files → Option (Result Output Refusal)
whole_output wanted words cart files =
    printing (run_files cart.digest words files) (whole_text wanted cart.code)
