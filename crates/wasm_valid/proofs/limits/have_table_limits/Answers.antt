use Rattle.w4_defs.specs.Lookup.{imported_table}
use Rattle.w4_defs.specs.Validity.{AreLimits}
use Rattle.wasm_valid.proofs.DecideLaws.{parts_decide, imported_fails}
use Rattle.wasm_valid.proofs.limits.have_table_limits.Goals as goal

pub returns-then-all : goal.returns-then-all
returns-then-all c =
    parts_decide (λ i. imported_table i.kind) AreLimits c.args.code.now.imports c.imports.result.now
    c.args.code.now.tables c.tables.result.now _ _
    c.imports.ensures c.tables.ensures c.all.ensures c.if-all.true c.all-then-all.ensures

pub returns-else-all : goal.returns-else-all
returns-else-all c =
    imported_fails (λ i. imported_table i.kind) AreLimits c.args.code.now.imports c.imports.result.now
    c.args.code.now.tables _
    c.imports.ensures c.all.ensures c.if-all.false
