use Rattle.w4_defs.specs.Lookup.{imported_memory}
use Rattle.w4_defs.specs.Validity.{AreMemoryLimits}
use Rattle.wasm_valid.proofs.DecideLaws.{parts_decide, imported_fails}
use Rattle.wasm_valid.proofs.limits.have_memory_limits.Goals as goal

pub returns-then-all : goal.returns-then-all
returns-then-all c =
    parts_decide (λ i. imported_memory i.kind) AreMemoryLimits c.args.code.now.imports c.imports.result.now
    c.args.code.now.memories c.memories.result.now _ _
    c.imports.ensures c.memories.ensures c.all.ensures c.if-all.true c.all-then-all.ensures

pub returns-else-all : goal.returns-else-all
returns-else-all c =
    imported_fails (λ i. imported_memory i.kind) AreMemoryLimits c.args.code.now.imports c.imports.result.now
    c.args.code.now.memories _
    c.imports.ensures c.all.ensures c.if-all.false
