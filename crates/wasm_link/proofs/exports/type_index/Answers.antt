use Rattle.std.proofs.Common.{ap, sym, ◌∙◌}
use Rattle.std.specs.Prelude.{slice_get}
use Rattle.wasm_link.proofs.ListSteps.{index_end}
use Rattle.wasm_link.proofs.exports.type_index.Goals as goal

pub returns : goal.returns
returns c =
    c.function_at.ensures ∙ ap (λ fs. slice_get fs c.loop-i.left) c.functions.ensures.value
    ∙ sym (index_end c.imports-imports.result.now c.loop-i.i c.args.code.now.functions c.loop-i.left
    c.loop-i-test.false) ∙ c.loop-i.invariant
