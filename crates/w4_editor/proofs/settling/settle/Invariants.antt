use Rattle.std.proofs.Common.{◌≡◌}
use Rattle.w4_editor.specs.Player.{player_setup, in_state}
use Rattle.w4_editor.proofs.SettlingLaws.{Progress}
use Rattle.w4_editor.proofs.settling.settle.Given as goal

abbrev pub invariant-loop-i : goal.invariant-loop-i
invariant-loop-i g l =
    Progress (player_setup l.initial.player) l.inputs l.last l.initial.kept l.kept l.i l.initial.steps l.steps
    × (l.player ≡ in_state l.initial.player l.player.state)
