use Rattle.std.proofs.Common.{◌++◌, take}
use Rattle.w4_defs.specs.Program.{imported_callees, own_callees}
use Rattle.wasm_valid.specs.Calls.{AreCalls}
use Rattle.wasm_valid.proofs.calls.calls.Given as goal

abbrev pub invariant-loop-func : goal.invariant-loop-func
invariant-loop-func l =
    AreCalls l.code (imported_callees l.code.types l.code.imports
    ++ own_callees l.code.types (take l.func l.code.functions) (take l.func l.code.bodies)) l.calls.items
