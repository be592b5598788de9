use Rattle.w4_defs.specs.SameState.{same_state}
use Rattle.w4_commands.proofs.CompareLaws.{same_answer}
use Rattle.w4_commands.proofs.differences.same_states.Goals as goal

pub returns : goal.returns
returns c =
    same_answer (same_state c.args.one.now c.args.other.now) c.equal_states.result
    (c.states_are_compared.ensures c.args.one.now c.args.other.now) c.equal_states.ensures
