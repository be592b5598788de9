-- The files that a map from names to bytes keeps.
use Rattle.std.specs.Prelude.{ℕ, map, Vec, String, string_bytes}
use Rattle.std.specs.FinMap.{from_entries}
use Rattle.std.specs.BTreeMap.{BTreeMap}
use Rattle.w4_defs.specs.World.{Files}

abbrev pub stored_files : {Y Z : Type 0} → BTreeMap (String Y) (Vec ℕ Z) → Files
stored_files kept = from_entries (map (λ entry. (string_bytes entry.0, entry.1.items)) kept.entries)
