-- What is written of a whole run is there.
use Rattle.std.proofs.Common.{◌≡◌, ◌+◌, [], ◌∷◌, length, IsSome, Result}
use Rattle.w4_defs.specs.declared.place_text.PlaceText.TheVariants.{Schedule, Traces}
use Rattle.w4_defs.specs.declared.status.Refusal.{Refusal}
use Rattle.w4_defs.specs.Causes.{Ends}
use Rattle.w4_defs.specs.Commands.{RunWords}
use Rattle.w4_defs.specs.Live.{Talk}
use Rattle.w4_defs.specs.Meaning.{RunsHaveMeaning}
use Rattle.w4_defs.specs.Module.{WasmModule}
use Rattle.w4_defs.specs.Output.{CartFile, Played, texts_output}
use Rattle.w4_defs.specs.Outputs.{OutputsOn}
use Rattle.w4_defs.specs.RecordingOutputs.{units_output}
use Rattle.w4_defs.specs.ToolOutputs.{wave_output}
use Rattle.w4_defs.specs.World.{World}
use Rattle.w4_defs.proofs.OutputsThereLaws.{place_texts_there, wave_text_there}
use Rattle.w4_defs.proofs.UnitsThereLaws.{units_text_there}
use Rattle.w4_commands.specs.Commands.{EndsDone, MakesOf, finished}
use Rattle.w4_commands.specs.RunOutputs.{whole_command, whole_output, whole_text}
use Rattle.w4_commands.specs.declared.forms.WholeText.{WholeText}
use Rattle.w4_commands.specs.declared.forms.WholeText.TheVariants as whole
use Rattle.w4_commands.proofs.CommandLaws.{by_any}

pub whole_text_there : (cart : WasmModule) → RunsHaveMeaning cart → (text : WholeText) (run : Played)
    → IsSome (whole_text text cart run)
whole_text_there cart meaning whole.Tones run =
    place_texts_there cart meaning Schedule run 0 (length run.recording.frames + 1)
whole_text_there cart meaning whole.Trace run =
    place_texts_there cart meaning Traces run 0 (length run.recording.frames + 1)
whole_text_there cart meaning whole.Units run = units_text_there cart meaning run
whole_text_there cart meaning whole.Wave run = wave_text_there cart meaning run

pub whole_ended : {X : Type 0} (old new : World) (result : Result X Refusal) (text : WholeText)
    (words : RunWords) (cart : CartFile) → EndsDone old new result (MakesOf (whole_output text words cart))
    → Ends old new (finished result)
    (λ files output. (talk : Talk) × OutputsOn (whole_command text words) talk cart files output)
unfolding texts_output units_output wave_output
whole_ended old new result whole.Tones words cart h =
    by_any old new result (MakesOf (texts_output Schedule words cart)) h
whole_ended old new result whole.Trace words cart h =
    by_any old new result (MakesOf (texts_output Traces words cart)) h
whole_ended old new result whole.Units words cart h =
    by_any old new result (MakesOf (units_output words cart)) h
whole_ended old new result whole.Wave words cart h =
    by_any old new result (MakesOf (wave_output words cart)) h
