use Rattle.std.proofs.Common.{Some, None, refl, ◌∙◌, ap}
use Rattle.w4_netplay.specs.Pads.{known_in}
use Rattle.w4_netplay.proofs.PadLaws.{nothing_in, clones_of_none}
use Rattle.w4_netplay.proofs.pads.Pads.new.Goals as goal

pub returns : goal.returns
returns c =
    ap known_in (c.in_ok-frames.ensures.items_if_clones_equal (λ pads same. clones_of_none pads same
    (elim [ None ↦ λ clone. refl | Some pad ↦ λ clone. absurd clone ])))
    ∙ nothing_in 36000
