use Rattle.std.proofs.Common.{Err, ap}
use Rattle.std.proofs.lemmas.Result.{err_from_is_err_and}
use Rattle.w4_defs.specs.Endings.{manner_of}
use Rattle.w4_commands.specs.Load.{cart_view}
use Rattle.w4_commands.proofs.LoadLaws.{cart_unread, cart_given, cart_stopped}
use Rattle.w4_commands.proofs.load.load_cart.Goals as goal

pub returns-in_err-bytes-clause-gives : goal.returns-in_err-bytes-clause-gives
returns-in_err-bytes-clause-gives g c =
    let p = err_from_is_err_and c.from_residual.result c.from_residual.ensures.1 in
    rw (p.1, p.2)
    (cart_unread (g.H.House.world c.args.house.now) (g.H.House.world c.read_file.new.house)
    (manner_of c.in_err-bytes.field-0.0) c.args.name.now c.in_err-bytes.ensures.gives)

pub returns-in_err-accept_file-clause-gives : goal.returns-in_err-accept_file-clause-gives
returns-in_err-accept_file-clause-gives g c =
    let stop = c.from_residual-in_err-accept_file in
    let p = err_from_is_err_and stop.result stop.ensures.1 in
    rw (p.1, p.2)
    (cart_stopped (g.H.House.world c.args.house.now) (g.H.House.world c.read_file.new.house) c.args.name.now
    c.in_ok-bytes.bytes.items c.in_err-accept_file.field-0.0 c.in_ok-bytes.ensures.gives
    (λ kind is. rw (← c.as_slice.ensures.value)
    (c.in_err-accept_file.ensures.refused kind (ap (λ why. Err why) is))))

pub returns-clause-gives : goal.returns-clause-gives
returns-clause-gives g c =
    cart_given (g.H.House.world c.args.house.now) c.args.name.now c.in_ok-bytes.bytes.items
    (cart_view c.in_ok-accept_file.field-0) c.in_ok-bytes.ensures.gives
    (rw (← c.as_slice.ensures.value) c.in_ok-accept_file.ensures.cart)
    (rw (← c.as_slice.ensures.value) c.in_ok-accept_file.ensures.digest)
