-- What the house in memory tells of which calls can be made to fail.
use Rattle.std.specs.Prelude.{◌≡◌, ℕ, List, Bool, ◌==◌, Some, if◌then◌else◌}
use Rattle.std.specs.List.{list_any}
use Rattle.w4_defs.specs.World.{Files, Event, World, raised}
use Rattle.w4_house.specs.declared.memory.MemoryHouse.{MemoryHouse}
use Rattle.w4_house.specs.Sure.{sure_files, sure_input, sure_events}

abbrev pub memory_files : MemoryHouse → Files
memory_files house = sure_files house.store

abbrev pub memory_input : MemoryHouse → List ℕ
memory_input house = sure_input house.store

abbrev pub memory_events : MemoryHouse → List Event
memory_events house = sure_events house.store

-- It tells everything, and counts the calls that it made fail.
abbrev pub memory_world : MemoryHouse → World
memory_world house = record {
  files = Some (memory_files house);
  events = Some (memory_events house);
  err = Some house.store.err.items;
  read_faults = house.read_faults;
  write_faults = house.write_faults;
  err_faults = house.err_faults;
}

-- The number of the last call of the trait, 0 before the first. Calls are numbered from 1 in the order in
-- which they come; past 2^64 - 1 they all have this number.
abbrev pub last_call : MemoryHouse → ℕ
last_call house = house.calls

-- The numbers of the calls that are to fail.
abbrev pub failing_calls : MemoryHouse → List ℕ
failing_calls house = house.failing.items

-- Whether the call that comes next is to fail.
abbrev pub fails_next : MemoryHouse → Bool
fails_next house = list_any (λ call. call == raised (last_call house)) (failing_calls house)

-- One more call has come, and the list is unchanged.
pub record CountsCall (old new : MemoryHouse) : Type 0 where
  pub numbered : last_call new ≡ raised (last_call old)
  pub listed : failing_calls new ≡ failing_calls old

-- A count of faults after a call: one more where the call was to fail, and unchanged otherwise.
abbrev pub count_after : MemoryHouse → ℕ → ℕ
count_after house count = if fails_next house then raised count else count
