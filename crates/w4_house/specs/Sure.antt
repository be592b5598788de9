-- What the house in memory tells in which nothing fails.
use Rattle.std.specs.Prelude.{ℕ, List, Some, drop}
use Rattle.w4_defs.specs.World.{Files, Event, World}
use Rattle.w4_house.specs.EventLog.{logged}
use Rattle.w4_house.specs.Stored.{stored_files}
use Rattle.w4_house.specs.declared.sure.SureHouse.{SureHouse}

abbrev pub sure_files : SureHouse → Files
sure_files house = stored_files house.files

-- The bytes of standard input that are left.
abbrev pub sure_input : SureHouse → List ℕ
sure_input house = drop house.passed house.input.items

abbrev pub sure_events : SureHouse → List Event
sure_events house = logged house.log.entries.items

-- It tells everything, and nothing fails in it.
abbrev pub sure_world : SureHouse → World
sure_world house = record {
  files = Some (sure_files house);
  events = Some (sure_events house);
  err = Some house.err.items;
  read_faults = 0;
  write_faults = 0;
  err_faults = 0;
}
