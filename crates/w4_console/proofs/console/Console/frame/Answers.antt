use Rattle.std.proofs.Common.{◌≡◌, Some, subst}
use Rattle.w4_defs.specs.Board.{console_setup}
use Rattle.w4_defs.specs.Frame.{frame}
use Rattle.w4_defs.specs.State.{State}
use Rattle.w4_defs.specs.Units.{frame_units}
use Rattle.w4_console.specs.Calls.{moment, so_far}
use Rattle.w4_console.specs.Taken.{taken_of}
use Rattle.w4_console.proofs.FrameLaws.{frame_taken, framed}
use Rattle.w4_console.proofs.console.Console.frame.Goals as goal

pub returns-clause-frame : goal.returns-clause-frame
returns-clause-frame g c =
    let setup = console_setup c.args.cart.now c.args.font.now c.args.budget in
    subst (λ (s : State). frame setup s c.args.input.now
    ≡ Some (moment c.record.new.state c.record.new.frame_record))
    c.self.view_is
    (framed setup c.self.inside.state c.args.input.now (so_far c.begin_frame-start.new.state
    c.begin_frame-start.new.current)
    (so_far c.update-update.new.state c.update-update.new.current)
    (moment c.record.new.state c.record.new.frame_record)
    c.begin_frame-start.ensures.begun c.update-update.ensures.update c.record.ensures.recorded)

pub returns-clause-update : goal.returns-clause-update
returns-clause-update g c =
    let setup = console_setup c.args.cart.now c.args.font.now c.args.budget in
    let told = taken_of c.update-update.result in
    subst (λ (s : State). frame_units setup s c.args.input.now ≡ Some told) c.self.view_is
    (frame_taken setup c.self.inside.state c.args.input.now (so_far c.begin_frame-start.new.state
    c.begin_frame-start.new.current)
    told c.begin_frame-start.ensures.begun c.update-update.ensures.taken)
