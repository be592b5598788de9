use Rattle.std.proofs.Common.{◌<◌, length, subst, List}
use Rattle.std.specs.Prelude.{All}
use Rattle.std.specs.Bool.{Decides}
use Rattle.w4_defs.specs.Lookup.{imported_function, function_indices}
use Rattle.w4_defs.specs.Module.{Signature}
use Rattle.wasm_valid.proofs.DecideLaws.{parts_decide, imported_fails}
use Rattle.wasm_valid.proofs.functions.have_types.Goals as goal

pub returns-then-all : goal.returns-then-all
returns-then-all c =
    let m = c.args.code.now in
    subst (λ (ts : List Signature). Decides c.all-then-all.result
    (All (λ index. index < length ts) (function_indices m))) c.types.ensures
    (parts_decide (λ i. imported_function i.kind) (λ index. index < length c.types.result.now) m.imports
    c.imports.result.now m.functions c.functions.result.now _ _
    c.imports.ensures c.functions.ensures.value c.all.ensures c.if-all.true c.all-then-all.ensures)

pub returns-else-all : goal.returns-else-all
returns-else-all c =
    let m = c.args.code.now in
    subst (λ (ts : List Signature). Decides c.all.result
    (All (λ index. index < length ts) (function_indices m))) c.types.ensures
    (imported_fails (λ i. imported_function i.kind) (λ index. index < length c.types.result.now) m.imports
    c.imports.result.now m.functions _
    c.imports.ensures c.all.ensures c.if-all.false)
