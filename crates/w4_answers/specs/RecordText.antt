-- Texts of a frame's record.
use Rattle.std.specs.Prelude.{ℕ, List}
use Rattle.w4_defs.specs.FrameTexts.{schedule_text, trace_text}
use Rattle.w4_defs.specs.State.{FrameRecord}
use Rattle.w4_defs.specs.declared.place_text.PlaceText.{PlaceText}
use Rattle.w4_defs.specs.declared.place_text.PlaceText.TheVariants.{Schedule, Traces}
use Rattle.w4_answers.specs.declared.record_text.RecordText.{RecordText}
use Rattle.w4_answers.specs.declared.record_text.RecordText.TheVariants as wanted

abbrev pub record_text : RecordText → ℕ → FrameRecord → List ℕ
record_text wanted.Schedule place frame_record = schedule_text place frame_record
record_text wanted.Traces place frame_record = trace_text place frame_record

-- as a text of the place that the frame leads to
abbrev pub text_of_place : RecordText → PlaceText
text_of_place wanted.Schedule = Schedule
text_of_place wanted.Traces = Traces
