use Rattle.std.proofs.Common.{◌++◌, take, ap, ◌∙◌}
use Rattle.w4_devices.proofs.LineLaws.{fits_cut}
use Rattle.w4_devices.proofs.line.Line.add_all.Goals as goal

pub returns : goal.returns
returns c =
    c.append.ensures
    ∙ (ap (λ n. c.self.inside.bytes.items ++ take n c.args.bytes.now) c.min-count.ensures
    ∙ (fits_cut 128 c.self.inside.bytes.items c.args.bytes.now c.remaining_capacity.result
    c.remaining_capacity.ensures
    ∙ ap (λ line. take 128 (line ++ c.args.bytes.now)) c.self.view_is))
