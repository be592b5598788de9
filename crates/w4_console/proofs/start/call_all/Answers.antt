use Rattle.std.proofs.Common.{rules, ◌≡◌, ℕ, List, [], ◌∷◌, Option, Some, Err, Result, ap, sym, ◌∙◌, codes}
use Rattle.w4_defs.specs.EntryPoints.{exported_function}
use Rattle.w4_defs.specs.Module.{WasmModule}
use Rattle.w4_console.specs.declared.taken.Stop.{Stop}
use Rattle.w4_console.specs.Calls.{so_far}
use Rattle.w4_console.specs.Taken.{taken_by_calls_of}
use Rattle.w4_console.proofs.CallLaws.{calls_end, calls_go_on, stops, taken_end, taken_go_on, units_at_stop}
use Rattle.w4_console.proofs.start.call_all.Goals as goal

-- what is called after the start function, after `_start` and after `_initialize`
abbrev after_third : WasmModule → List (Option ℕ)
after_third cart = exported_function cart (codes "start") ∷ []

abbrev after_second : WasmModule → List (Option ℕ)
after_second cart = exported_function cart (codes "_initialize") ∷ after_third cart

abbrev after_first : WasmModule → List (Option ℕ)
after_first cart = exported_function cart (codes "_start") ∷ after_second cart

pub returns-in_err-rest-clause-called : goal.returns-in_err-rest-clause-called
returns-in_err-rest-clause-called c =
    let cart = c.args.setup.now.cart.now in
    let font = c.args.setup.now.font.now in
    let budget = c.args.setup.now.budget in
    let before = so_far c.args.state.now c.args.current.now in
    let first = so_far c.call_if_there.new.state c.call_if_there.new.current in
    let why : Stop = c.in_err-rest.field-0.0 in
    stops cart font budget c.start.result cart.start (after_first cart) before first c.args.setup.now.budget
    c.start.ensures.value why c.in_err-rest.ensures.called

pub returns-in_err-rest-2-clause-called : goal.returns-in_err-rest-2-clause-called
returns-in_err-rest-2-clause-called c =
    let cart = c.args.setup.now.cart.now in
    let font = c.args.setup.now.font.now in
    let budget = c.args.setup.now.budget in
    let before = so_far c.args.state.now c.args.current.now in
    let first = so_far c.call_if_there.new.state c.call_if_there.new.current in
    let second = so_far c.call_if_there-2.new.state c.call_if_there-2.new.current in
    let why : Stop = c.in_err-rest-2.field-0.0 in
    calls_go_on cart font budget c.start.result cart.start (after_first cart) before first
    c.args.setup.now.budget
    c.start.ensures.value second c.in_ok-rest.rest c.in_ok-rest.ensures.called
    (stops cart font budget c.entry-crt_start.result (exported_function cart (codes "_start"))
    (after_second cart) first second c.in_ok-rest.rest c.entry-crt_start.ensures.value why
    c.in_err-rest-2.ensures.called)

pub returns-in_err-rest-3-clause-called : goal.returns-in_err-rest-3-clause-called
returns-in_err-rest-3-clause-called c =
    let cart = c.args.setup.now.cart.now in
    let font = c.args.setup.now.font.now in
    let budget = c.args.setup.now.budget in
    let before = so_far c.args.state.now c.args.current.now in
    let first = so_far c.call_if_there.new.state c.call_if_there.new.current in
    let second = so_far c.call_if_there-2.new.state c.call_if_there-2.new.current in
    let third = so_far c.call_if_there-3.new.state c.call_if_there-3.new.current in
    let why : Stop = c.in_err-rest-3.field-0.0 in
    calls_go_on cart font budget c.start.result cart.start (after_first cart) before first
    c.args.setup.now.budget
    c.start.ensures.value third c.in_ok-rest.rest c.in_ok-rest.ensures.called
    (calls_go_on cart font budget c.entry-crt_start.result (exported_function cart (codes "_start"))
    (after_second cart) first second c.in_ok-rest.rest c.entry-crt_start.ensures.value third
    c.in_ok-rest-2.rest c.in_ok-rest-2.ensures.called
    (stops cart font budget c.entry-initialize.result (exported_function cart (codes "_initialize"))
    (after_third cart) second third c.in_ok-rest-2.rest c.entry-initialize.ensures.value why
    c.in_err-rest-3.ensures.called))

pub returns-clause-called : goal.returns-clause-called
returns-clause-called c =
    let cart = c.args.setup.now.cart.now in
    let font = c.args.setup.now.font.now in
    let budget = c.args.setup.now.budget in
    let before = so_far c.args.state.now c.args.current.now in
    let first = so_far c.call_if_there.new.state c.call_if_there.new.current in
    let second = so_far c.call_if_there-2.new.state c.call_if_there-2.new.current in
    let third = so_far c.call_if_there-3.new.state c.call_if_there-3.new.current in
    let last = so_far c.call_if_there-4.new.state c.call_if_there-4.new.current in
    calls_go_on cart font budget c.start.result cart.start (after_first cart) before first
    c.args.setup.now.budget
    c.start.ensures.value last c.in_ok-rest.rest c.in_ok-rest.ensures.called
    (calls_go_on cart font budget c.entry-crt_start.result (exported_function cart (codes "_start"))
    (after_second cart) first second c.in_ok-rest.rest c.entry-crt_start.ensures.value last
    c.in_ok-rest-2.rest c.in_ok-rest-2.ensures.called
    (calls_go_on cart font budget c.entry-initialize.result (exported_function cart (codes "_initialize"))
    (after_third cart) second third c.in_ok-rest-2.rest c.entry-initialize.ensures.value last
    c.in_ok-rest-3.rest c.in_ok-rest-3.ensures.called
    (calls_end cart font budget c.entry-start.result (exported_function cart (codes "start")) third last
    c.in_ok-rest-3.rest c.call_if_there-4.result c.entry-start.ensures.value
    c.call_if_there-4.ensures.called)))

pub returns-in_err-rest-clause-taken : goal.returns-in_err-rest-clause-taken
returns-in_err-rest-clause-taken c =
    let cart = c.args.setup.now.cart.now in
    let font = c.args.setup.now.font.now in
    let budget = c.args.setup.now.budget in
    let before = so_far c.args.state.now c.args.current.now in
    let first = so_far c.call_if_there.new.state c.call_if_there.new.current in
    let why : Stop = c.in_err-rest.field-0.0 in
    let same : c.from_residual.result ≡ Err why = search rules in
    units_at_stop cart font budget c.start.result cart.start (after_first cart) before first
    c.args.setup.now.budget c.start.ensures.value why c.in_err-rest.ensures.taken
    ∙ ap (λ (r : Result ℕ Stop). Some (taken_by_calls_of budget r)) (sym same)

pub returns-in_err-rest-2-clause-taken : goal.returns-in_err-rest-2-clause-taken
returns-in_err-rest-2-clause-taken c =
    let cart = c.args.setup.now.cart.now in
    let font = c.args.setup.now.font.now in
    let budget = c.args.setup.now.budget in
    let before = so_far c.args.state.now c.args.current.now in
    let first = so_far c.call_if_there.new.state c.call_if_there.new.current in
    let second = so_far c.call_if_there-2.new.state c.call_if_there-2.new.current in
    let why : Stop = c.in_err-rest-2.field-0.0 in
    let taken = taken_by_calls_of budget (Err why) in
    let same : c.from_residual-in_err-rest-2.result ≡ Err why = search rules in
    taken_go_on cart font budget c.start.result cart.start (after_first cart) before first
    c.args.setup.now.budget
    c.start.ensures.value taken c.in_ok-rest.rest c.in_ok-rest.ensures.taken
    (units_at_stop cart font budget c.entry-crt_start.result (exported_function cart (codes "_start"))
    (after_second cart) first second c.in_ok-rest.rest c.entry-crt_start.ensures.value why
    c.in_err-rest-2.ensures.taken)
    ∙ ap (λ (r : Result ℕ Stop). Some (taken_by_calls_of budget r)) (sym same)

pub returns-in_err-rest-3-clause-taken : goal.returns-in_err-rest-3-clause-taken
returns-in_err-rest-3-clause-taken c =
    let cart = c.args.setup.now.cart.now in
    let font = c.args.setup.now.font.now in
    let budget = c.args.setup.now.budget in
    let before = so_far c.args.state.now c.args.current.now in
    let first = so_far c.call_if_there.new.state c.call_if_there.new.current in
    let second = so_far c.call_if_there-2.new.state c.call_if_there-2.new.current in
    let third = so_far c.call_if_there-3.new.state c.call_if_there-3.new.current in
    let why : Stop = c.in_err-rest-3.field-0.0 in
    let taken = taken_by_calls_of budget (Err why) in
    let same : c.from_residual-in_err-rest-3.result ≡ Err why = search rules in
    taken_go_on cart font budget c.start.result cart.start (after_first cart) before first
    c.args.setup.now.budget
    c.start.ensures.value taken c.in_ok-rest.rest c.in_ok-rest.ensures.taken
    (taken_go_on cart font budget c.entry-crt_start.result (exported_function cart (codes "_start"))
    (after_second cart) first second c.in_ok-rest.rest c.entry-crt_start.ensures.value taken
    c.in_ok-rest-2.rest c.in_ok-rest-2.ensures.taken
    (units_at_stop cart font budget c.entry-initialize.result
    (exported_function cart (codes "_initialize")) (after_third cart) second third c.in_ok-rest-2.rest
    c.entry-initialize.ensures.value why c.in_err-rest-3.ensures.taken))
    ∙ ap (λ (r : Result ℕ Stop). Some (taken_by_calls_of budget r)) (sym same)

pub returns-clause-taken : goal.returns-clause-taken
returns-clause-taken c =
    let cart = c.args.setup.now.cart.now in
    let font = c.args.setup.now.font.now in
    let budget = c.args.setup.now.budget in
    let before = so_far c.args.state.now c.args.current.now in
    let first = so_far c.call_if_there.new.state c.call_if_there.new.current in
    let second = so_far c.call_if_there-2.new.state c.call_if_there-2.new.current in
    let third = so_far c.call_if_there-3.new.state c.call_if_there-3.new.current in
    let last = so_far c.call_if_there-4.new.state c.call_if_there-4.new.current in
    let taken = taken_by_calls_of budget c.call_if_there-4.result in
    taken_go_on cart font budget c.start.result cart.start (after_first cart) before first
    c.args.setup.now.budget
    c.start.ensures.value taken c.in_ok-rest.rest c.in_ok-rest.ensures.taken
    (taken_go_on cart font budget c.entry-crt_start.result (exported_function cart (codes "_start"))
    (after_second cart) first second c.in_ok-rest.rest c.entry-crt_start.ensures.value taken
    c.in_ok-rest-2.rest c.in_ok-rest-2.ensures.taken
    (taken_go_on cart font budget c.entry-initialize.result (exported_function cart (codes "_initialize"))
    (after_third cart) second third c.in_ok-rest-2.rest c.entry-initialize.ensures.value taken
    c.in_ok-rest-3.rest c.in_ok-rest-3.ensures.taken
    (taken_end cart font budget c.entry-start.result (exported_function cart (codes "start")) third last
    c.in_ok-rest-3.rest c.call_if_there-4.result c.entry-start.ensures.value
    c.call_if_there-4.ensures.taken)))
