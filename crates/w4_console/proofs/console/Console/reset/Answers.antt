use Rattle.std.proofs.Common.{◌≡◌, ℕ, List, Some, subst}
use Rattle.w4_defs.specs.Board.{console_setup}
use Rattle.w4_defs.specs.Reset.{start}
use Rattle.w4_console.specs.Calls.{moment, so_far}
use Rattle.w4_console.proofs.FrameLaws.{was_reset}
use Rattle.w4_console.proofs.console.Console.reset.Goals as goal

pub returns-clause-reset : goal.returns-clause-reset
returns-clause-reset c =
    let setup = console_setup c.args.cart.now c.args.font.now c.args.budget in
    was_reset setup c.args.disk.now (so_far c.start_cart-taken.new.state c.start_cart-taken.new.current)
    (moment c.record.new.state c.record.new.frame_record)
    (subst (λ (disk : List ℕ). start setup disk ≡ Some (so_far c.start_cart-taken.new.state
    c.start_cart-taken.new.current))
    c.new.ensures c.start_cart-taken.ensures.start)
    c.record.ensures.recorded
