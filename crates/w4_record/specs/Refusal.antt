-- Why there is no recording, as the refusal of a command.
use Rattle.w4_defs.specs.declared.status.RecordingKind.TheVariants.{Bad}
use Rattle.w4_defs.specs.declared.status.Refusal.{Refusal}
use Rattle.w4_defs.specs.declared.status.Refusal.TheVariants as refusal
use Rattle.w4_record.specs.declared.refusal.RecordingRefusal.{RecordingRefusal}
use Rattle.w4_record.specs.declared.refusal.RecordingRefusal.TheVariants.{BadRecording, OutOfMemory}

abbrev pub recording_refusal : RecordingRefusal → Refusal
recording_refusal BadRecording = refusal.RecordingRefused Bad
recording_refusal OutOfMemory = refusal.OutOfMemory
