use Rattle.std.proofs.Common.{take}
use Rattle.w4_defs.specs.Program.{imported_callees}
use Rattle.wasm_valid.specs.Calls.{AreCalls}
use Rattle.wasm_valid.proofs.calls.import_calls.Given as goal

abbrev pub invariant-loop-i : goal.invariant-loop-i
invariant-loop-i l = AreCalls l.code (imported_callees l.code.types (take l.i l.code.imports)) l.calls.items
