use Rattle.std.proofs.Common.{ℕ, ap, sym, Option, Some, ◌∙◌}
use Rattle.w4_defs.specs.Units.{taken_by_update}
use Rattle.w4_console.specs.Calls.{setup_of, so_far}
use Rattle.w4_console.proofs.CallLaws.{one_call_taken}
use Rattle.w4_console.proofs.frames.call_update.Goals as goal

pub returns-clause-taken : goal.returns-clause-taken
returns-clause-taken c =
    let setup = setup_of c.args.setup.now in
    let now = so_far c.args.state.now c.args.current.now in
    let next = so_far c.call_function-rest.new.state c.call_function-rest.new.current in
    ap (λ (f : Option ℕ). taken_by_update setup now f) (sym c.entry.ensures.value ∙ c.in-Some.is)
    ∙ one_call_taken c.args.setup.now.cart.now c.args.setup.now.font.now c.in-Some.function now next
    c.args.setup.now.budget
    c.call_function-rest.result c.call_function-rest.ensures.taken
    ∙ ap Some (sym c.taken_by_calls.ensures)
