use Rattle.std.proofs.Common.{ap, sym, ◌∙◌, length, subst}
use Rattle.w4_defs.specs.State.{State}
use Rattle.w4_editor.specs.Player.{Player, IsPlayer}
use Rattle.w4_editor.proofs.PlayerLaws.{globals_as_long}
use Rattle.w4_editor.proofs.player.Player.restore.Goals as goal

pub restore-requires : goal.restore-requires
restore-requires c =
    let player : IsPlayer c.args.self.now = subst IsPlayer c.self.view_is c.self.invariant in
    globals_as_long c.args.self.now.cart c.args.snap.now c.args.self.now.state c.requires player.globals
    ∙ ap (λ (p : Player). length p.state.globals) (sym c.self.view_is)
    ∙ ap (λ (s : State). length s.globals) (sym c.state_mut.ensures.value)
