use Rattle.std.proofs.Common.{◌∙◌}
use Rattle.w4_defs.specs.declared.value.ValType.TheVariants.{I32}
use Rattle.wasm_valid.proofs.OperandLaws.{taken_step}
use Rattle.wasm_valid.proofs.control_stack.ControlStack.take_all.Goals as goal

pub loop-i-preserved : goal.loop-i-preserved
loop-i-preserved c =
    taken_step c.args.operands.now c.loop-i.i I32 c.loop-i.self c.take.new.self c.take.result
    c.loop-i-test.true
    c.take.ensures c.if-not-take.false
    ∙ c.loop-i.invariant
