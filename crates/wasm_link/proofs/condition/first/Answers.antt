use Rattle.std.proofs.Common.{sym}
use Rattle.wasm_link.proofs.ListSteps.{first_is}
use Rattle.wasm_link.proofs.condition.first.Goals as goal

pub loop-i-init : goal.loop-i-init
loop-i-init g c = sym (first_is (g.C.Condition.is_met c.args.condition.now) c.args.items.now)
