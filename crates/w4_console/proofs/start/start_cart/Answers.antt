use Rattle.std.proofs.Common.{◌≡◌, ap, Some, subst, sym, ◌∙◌}
use Rattle.w4_defs.specs.EntryPoints.{start_functions}
use Rattle.w4_defs.specs.Reset.{call_all, fresh, start}
use Rattle.w4_defs.specs.State.{LoggedState}
use Rattle.w4_defs.specs.Units.{start_units, taken_by_calls}
use Rattle.w4_console.specs.Calls.{setup_of, so_far}
use Rattle.w4_console.proofs.FrameLaws.{frame_begins}
use Rattle.w4_console.proofs.start.start_cart.Goals as goal

pub returns-clause-start : goal.returns-clause-start
unfolding start
returns-clause-start c =
    subst
    (λ (now : LoggedState).
    call_all (setup_of c.args.setup.now) (start_functions c.args.setup.now.cart.now)
    now c.args.setup.now.budget
    ≡ Some (so_far c.call_all-rest.new.state c.call_all-rest.new.current))
    (frame_begins c.put_fresh.new.state (fresh c.args.setup.now.cart.now c.args.state.now.disk)
    c.clear.new.self
    c.put_fresh.ensures.state c.clear.ensures)
    c.call_all-rest.ensures.called

pub returns-clause-taken : goal.returns-clause-taken
unfolding start_units
returns-clause-taken c =
    let setup = setup_of c.args.setup.now in
    ap (λ (now : LoggedState). taken_by_calls setup (start_functions c.args.setup.now.cart.now) now
    c.args.setup.now.budget)
    (sym (frame_begins c.put_fresh.new.state (fresh c.args.setup.now.cart.now c.args.state.now.disk)
    c.clear.new.self
    c.put_fresh.ensures.state c.clear.ensures))
    ∙ c.call_all-rest.ensures.taken ∙ ap Some (sym c.taken_by_calls.ensures)
