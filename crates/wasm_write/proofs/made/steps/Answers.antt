use Rattle.std.proofs.Common.{◌∙◌, ◌++◌, ap, sym}
use Rattle.w4_defs.specs.Generator.{step_of}
use Rattle.w4_defs.specs.Tree.{sequence}
use Rattle.wasm_write.specs.Sequences.{expression_onto}
use Rattle.wasm_write.proofs.SequenceLaws.{flat_map_more}
use Rattle.wasm_write.proofs.made.steps.Goals as goal

pub loop-g-preserved : goal.loop-g-preserved
loop-g-preserved c =
    λ ops.
    c.in_ok-step.ensures ops
    ∙ c.loop-g.invariant (step_of c.loop-g.g ++ ops)
    ∙ ap (λ os. expression_onto c.args.list.now.items (sequence os))
    (sym (flat_map_more step_of c.loop-g.g ops))
