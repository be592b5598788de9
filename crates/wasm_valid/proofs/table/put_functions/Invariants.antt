use Rattle.std.proofs.Common.{◌≡◌, ◌+◌, drop}
use Rattle.w4_defs.specs.Program.{put_functions}
use Rattle.wasm_valid.proofs.table.put_functions.Given as goal

abbrev pub invariant-loop-i : goal.invariant-loop-i
invariant-loop-i l =
    put_functions l.table (l.offset + l.i) (drop l.i l.functions)
    ≡ put_functions l.initial.table l.offset l.functions
