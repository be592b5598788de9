-- What the house of the running program tells: no content, and its counts alone.
use Rattle.std.specs.Prelude.{ℕ, Result, is_ok, None, if◌then◌else◌}
use Rattle.w4_defs.specs.World.{World, raised}
use Rattle.w4_house.specs.declared.real.RealHouse.{RealHouse}

abbrev pub real_world : {R F D I O E : Type 0} → RealHouse R F D I O E → World
real_world house = record {
  files = None;
  events = None;
  err = None;
  read_faults = house.read_faults;
  write_faults = house.write_faults;
  err_faults = house.err_faults;
}

-- A count of faults after a call with this answer: one more after each refusal, and unchanged otherwise.
abbrev pub count_since : {T E : Type 0} → Result T E → ℕ → ℕ
count_since answer count = if is_ok answer then count else raised count
