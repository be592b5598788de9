-- The events of a log.
use Rattle.std.specs.Prelude.{List, [], ◌∷◌, string_bytes}
use Rattle.std.specs.List.{flat_map}
use Rattle.w4_defs.specs.World.{Event, Took, InputEnded, InputLost, Saved, NotSaved, wrote}
use Rattle.w4_house.specs.declared.log_entry.LogEntry.{LogEntry}
use Rattle.w4_house.specs.declared.log_entry.LogEntry.TheVariants.{Line, InputEnd, InputFault, Output, File}
use Rattle.w4_house.specs.declared.log_entry.LogEntry.TheVariants.{FileFault}

-- An entry of bytes that were written stands for an event for each of them.
abbrev pub events_of : LogEntry → List Event
events_of (Line bytes) = Took bytes.items ∷ []
events_of InputEnd = InputEnded ∷ []
events_of InputFault = InputLost ∷ []
events_of (Output bytes) = wrote bytes.items
events_of (File name bytes) = Saved (string_bytes name) bytes.items ∷ []
events_of (FileFault name) = NotSaved (string_bytes name) ∷ []

abbrev pub logged : List LogEntry → List Event
logged entries = flat_map events_of entries
