use Rattle.std.proofs.Common.{◌≡◌, map, take}
use Rattle.w4_defs.specs.EntryPoints.{first_value}
use Rattle.wasm_valid.proofs.globals.first_globals.Given as goal

abbrev pub invariant-loop-i : goal.invariant-loop-i
invariant-loop-i l = l.values.items ≡ map first_value (take l.i l.code.globals)
