use Rattle.std.proofs.Common.{◌≡◌, ◌∙◌, ap, subst, sym, get_or, Some}
use Rattle.std.proofs.lemmas.Option.{slice_get-get_or}
use Rattle.w4_console.specs.Calls.{moment}
use Rattle.w4_console.proofs.TakenLaws.{units_told}
use Rattle.w4_defs.specs.declared.console.Input.{Input}
use Rattle.w4_defs.specs.Frame.{frame}
use Rattle.w4_defs.specs.Recording.{Recording}
use Rattle.w4_editor.specs.Player.{player_setup}
use Rattle.w4_editor.proofs.PlayerLaws.{moves_on}
use Rattle.w4_editor.proofs.showing.move_on.Goals as goal

pub returns-clause-moment : goal.returns-clause-moment
returns-clause-moment g c =
    let setup = player_setup c.args.player.now in
    let state = c.args.player.now.state in
    let input = c.index.result.now in
    let next = moment c.frame.new.self.state c.frame.new.frame_record in
    let read = c.index.ensures ∙ ap (λ (r : Recording). get_or r.frames c.args.p input) c.recording.view_is in
    moves_on setup c.args.recording.now.frames c.args.p state input next c.requires
    (subst (λ (x : Input). frame setup state x ≡ Some next) read c.frame.ensures.frame)

pub returns-clause-taken : goal.returns-clause-taken
returns-clause-taken g c disk here =
    let setup = player_setup c.args.player.now in
    let state = c.args.player.now.state in
    let input = c.index.result.now in
    let read = c.index.ensures ∙ ap (λ (r : Recording). get_or r.frames c.args.p input) c.recording.view_is in
    units_told setup disk c.args.recording.now.frames c.args.p state input c.frame.result here
    (slice_get-get_or c.args.recording.now.frames c.args.p input c.requires ∙ ap Some (sym read))
    c.frame.ensures.taken
