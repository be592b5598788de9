-- The marks of an own function's body: its flattening, or none where there is no such function.
use Rattle.std.specs.Prelude.{ℕ, List, [], slice_get, Option, Some, None}
use Rattle.w4_defs.specs.Tree.{Mark, flat}
use Rattle.w4_defs.specs.Module.{Function, WasmModule}

abbrev pub marks_with : Option Function → List Mark
marks_with None = []
marks_with (Some f) = flat f.list

abbrev pub body_marks : WasmModule → ℕ → List Mark
body_marks m func = marks_with (slice_get m.bodies func)
