use Rattle.std.proofs.lemmas.Slice.Eq.{slice_eq-Decides}
use Rattle.w4_snap.proofs.EqualityLaws.{options_decide, voices_decide}
use Rattle.w4_snap.proofs.equality.equal_channels.Goals as goal

pub returns : goal.returns
returns c = slice_eq-Decides (options_decide voices_decide) _ _ _ c.eq.ensures
