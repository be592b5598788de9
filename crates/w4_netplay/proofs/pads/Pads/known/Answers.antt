use Rattle.w4_netplay.proofs.PadLaws.{pad_held}
use Rattle.std.proofs.Common.{◌∙◌, ap, arith}
use Rattle.w4_netplay.specs.Pads.{known_in}
use Rattle.w4_netplay.proofs.pads.Pads.known.Goals as goal

pub returns : goal.returns
returns c =
    pad_held c.self.inside.frames.items c.args.frame c.args.player c.index.result.now
    (omega (arith, c.self.invariant, c.requires.frame)) c.index.ensures
    ∙ ap (λ frames. known_in frames c.args.player c.args.frame) c.self.view_is
