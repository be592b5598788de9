-- What a write is refused for, as the refusal of a command.
use Rattle.w4_defs.specs.declared.status.Refusal.{Refusal}
use Rattle.w4_defs.specs.declared.status.Refusal.TheVariants as refusal
use Rattle.w4_house.specs.declared.calls.WriteRefusal.{WriteRefusal}
use Rattle.w4_house.specs.declared.calls.WriteRefusal.TheVariants.{Failed, OutOfMemory}

abbrev pub write_refusal : WriteRefusal → Refusal
write_refusal Failed = refusal.WriteFault
write_refusal OutOfMemory = refusal.OutOfMemory
