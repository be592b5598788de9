use Rattle.std.proofs.Common.{◌∙◌}
use Rattle.w4_devices.proofs.LineLaws.{take_whole}
use Rattle.w4_devices.proofs.line.Line.copy.Goals as goal

pub returns : goal.returns
returns c =
    c.of.ensures ∙ (take_whole 128 c.bytes.result.now c.bytes.ensures.bound ∙ c.bytes.ensures.bytes)
