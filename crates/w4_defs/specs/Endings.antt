-- How a command ends (project rule): it finished, with or without a difference, or it was refused, in one of
-- five manners. An absent file is a read fault too.
use Rattle.w4_defs.specs.declared.status.Finish.{Finish}
use Rattle.w4_defs.specs.declared.status.Finish.TheVariants.{Done, Different}
use Rattle.w4_defs.specs.declared.status.Refusal.{Refusal}
use Rattle.w4_defs.specs.declared.status.Refusal.TheVariants as refusal
use Rattle.w4_defs.specs.declared.status.Status.{Status}
use Rattle.w4_defs.specs.declared.status.Status.TheVariants as status

-- a read of a file failed, or the file is absent; a read of standard input failed; a write failed; memory was
-- refused; any other refusal is the one that the definitions give
pub data Manner : Type 0 where
  ReadFailed : Manner
  InputFailed : Manner
  WriteFailed : Manner
  MemoryRefused : Manner
  Refused : Refusal → Manner

abbrev pub manner_of : Refusal → Manner
manner_of refusal.ReadFault = ReadFailed
manner_of refusal.InputFault = InputFailed
manner_of refusal.WriteFault = WriteFailed
manner_of refusal.OutOfMemory = MemoryRefused
manner_of other = Refused other

abbrev pub status_of_refusal : Refusal → Status
status_of_refusal (refusal.CartRefused kind) = status.CartRefused kind
status_of_refusal (refusal.RecordingRefused kind) = status.RecordingRefused kind
status_of_refusal refusal.FontRefused = status.FontRefused
status_of_refusal (refusal.ScriptRefused kind) = status.ScriptRefused kind
status_of_refusal (refusal.ListRefused kind) = status.ListRefused kind
status_of_refusal (refusal.FrameRefused number n) = status.FrameRefused number n
status_of_refusal refusal.ReadFault = status.ReadFault
status_of_refusal refusal.InputFault = status.InputFault
status_of_refusal refusal.WriteFault = status.WriteFault
status_of_refusal refusal.OutOfMemory = status.OutOfMemory

abbrev pub status_of_finish : Finish → Status
status_of_finish Done = status.Done
status_of_finish Different = status.Different
