use Rattle.std.proofs.Common.{arith}
use Rattle.w4_editor.proofs.ShowingLaws.{last_within}
use Rattle.w4_editor.proofs.showing.are_linked_up_to.Goals as goal

pub entry_at-requires : goal.entry_at-requires
entry_at-requires c =
    let within = last_within c.args.p c.args.kept.now c.requires.some in
    let last = c.last_up_to-last.ensures in
    let below = c.loop-i-test.true in
    omega (arith, within, last, below)
