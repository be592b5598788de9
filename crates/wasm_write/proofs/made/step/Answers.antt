use Rattle.std.proofs.Common.{◌∙◌}
use Rattle.w4_defs.specs.Tree.{sequence}
use Rattle.w4_defs.specs.View.{before}
use Rattle.wasm_write.proofs.SequenceLaws.{pushed}
use Rattle.wasm_write.proofs.made.step.Goals as goal

pub returns : goal.returns
unfolding before
returns c =
    λ ops.
    pushed _ _ _ c.in_ok-push-7.ensures.items (sequence ops)
    ∙ pushed _ _ _ c.in_ok-push-6.ensures.items _
    ∙ pushed _ _ _ c.in_ok-push-5.ensures.items _
    ∙ pushed _ _ _ c.in_ok-push-4.ensures.items _
    ∙ pushed _ _ _ c.in_ok-push-3.ensures.items _
    ∙ pushed _ _ _ c.in_ok-push-2.ensures.items _
    ∙ pushed _ _ _ c.in_ok-push.ensures.items _
