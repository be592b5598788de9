use Rattle.std.proofs.Common.{append_assoc}
use Rattle.std.specs.Prelude.{codes}
use Rattle.w4_defs.specs.FrameTexts.{line_end}
use Rattle.w4_commands.proofs.batch.add_wrong_cart.Goals as goal

pub returns : goal.returns
returns c =
    rw (← c.as_bytes.ensures.value, append_assoc c.as_bytes.result.now (codes " wrong cart") line_end)
    c.add_two.ensures
