use Rattle.std.proofs.Common.{◌≡◌, ap, refl, sym, ◌∙◌}
use Rattle.std.specs.Prelude.{option_map}
use Rattle.std.proofs.lemmas.List.{with_items_is}
use Rattle.std.specs.Vec.{with_items}
use Rattle.w4_defs.specs.Lookup.{own_global_types}
use Rattle.w4_defs.specs.Outcome.{Store}
use Rattle.w4_defs.specs.Reset.{logged_state_after, store_of}
use Rattle.w4_defs.specs.RunLaws.{types_of}
use Rattle.w4_defs.specs.State.{Board, State, LoggedState}
use Rattle.w4_devices.specs.declared.frame_record.FrameRecord.{FrameRecord as Record}
use Rattle.w4_console.specs.Calls.{so_far}
use Rattle.w4_console.specs.CurrentRecord.{record_in}
use Rattle.w4_console.proofs.CallLaws.{called, still_runs, units_taken}
use Rattle.w4_console.proofs.StartLaws.{values_as_long}
use Rattle.w4_console.proofs.calls.call_function.Goals as goal

-- the globals that are handed to the machine, and those that it leaves
handed : (c : goal.After-rest_after) → c.deref_mut.result.now ≡ c.board_of-board.new.state.globals
handed c = c.deref_mut.ensures.value ∙ ap (λ (s : State). s.globals) c.state.view_is

first_types : (c : goal.After-rest_after)
    → types_of c.deref_mut.result.now ≡ own_global_types c.args.setup.now.cart.now
first_types c =
    ap types_of (handed c) ∙ ap (λ (st : Store Board). types_of st.globals) c.board_of-board.ensures
    ∙ c.requires.globals

types_kept : (c : goal.After-rest_after)
    → (with_items c.state.inside.globals c.invoke-ending.new.globals).items ≡ c.invoke-ending.new.globals
types_kept c =
    with_items_is c.state.inside.globals c.invoke-ending.new.globals
    (values_as_long c.invoke-ending.new.globals c.deref_mut.result.now
    (own_global_types c.args.setup.now.cart.now) c.invoke-ending.ensures.globals
    (first_types c)
    ∙ c.deref_mut.ensures.len)

-- the record that the board is given
record_given : (c : goal.After-rest_after) → c.in-Some.loan.frame_record.value ≡ c.args.current.now
record_given c =
    ap (λ o. record_in (option_map (λ l. l.frame_record.value) o)) (sym c.in-Some.is ∙ c.take.ensures.value)
    ∙ c.current.view_is

store_given : (c : goal.After-rest_after)
    → record {
      page = c.board_of-board.new.state.page;
      globals = c.board_of-board.new.state.globals;
      host = c.board_of-board.result;
    }
    ≡ store_of c.args.setup.now.font.now (so_far c.args.state.now c.args.current.now)
store_given c =
    c.board_of-board.ensures
    ∙ ap (λ (r : Record). store_of c.args.setup.now.font.now (so_far c.args.state.now r)) (record_given c)

-- what the board and the state come to
given_back : (c : goal.After-rest_after)
    → so_far c.put_back-spare_disk.new.state c.board.inside.frame_record.value
    ≡ logged_state_after (record {
      page = c.invoke-ending.new.page;
      globals = (with_items c.state.inside.globals c.invoke-ending.new.globals).items;
      host = c.invoke-ending.new.host;
    }) c.halt_after.result
given_back c = rw (c.put_back-spare_disk.ensures, sym c.board.view_is) refl

pub returns-clause-called : goal.returns-clause-called
returns-clause-called c =
    called c.args.setup.now.cart.now c.args.setup.now.font.now c.args.function
    (so_far c.args.state.now c.args.current.now)
    (so_far c.put_back-spare_disk.new.state c.board.inside.frame_record.value)
    c.args.budget c.invoke-ending.result
    c.board_of-board.new.state c.state.inside.page c.invoke-ending.new.page c.deref_mut.result.now
    c.invoke-ending.new.globals (with_items c.state.inside.globals c.invoke-ending.new.globals).items
    c.board_of-board.result c.invoke-ending.new.host c.rest_after.result c.halt_after.result
    (store_given c) (ap (λ (s : State). s.page) c.state.view_is) (handed c)
    c.invoke-ending.ensures.ends (types_kept c) c.rest_after.ensures c.halt_after.ensures (given_back c)

pub returns-clause-taken : goal.returns-clause-taken
returns-clause-taken c =
    units_taken c.args.setup.now.cart.now c.args.setup.now.font.now c.args.function
    (so_far c.args.state.now c.args.current.now)
    (so_far c.put_back-spare_disk.new.state c.board.inside.frame_record.value)
    c.args.budget c.invoke-ending.result
    c.board_of-board.new.state c.state.inside.page c.invoke-ending.new.page c.deref_mut.result.now
    c.invoke-ending.new.globals (with_items c.state.inside.globals c.invoke-ending.new.globals).items
    c.board_of-board.result c.invoke-ending.new.host c.rest_after.result c.halt_after.result
    (store_given c) (ap (λ (s : State). s.page) c.state.view_is) (handed c)
    c.invoke-ending.ensures.ends (types_kept c) c.rest_after.ensures c.halt_after.ensures (given_back c)

pub returns-clause-running : goal.returns-clause-running
returns-clause-running c =
    still_runs c.invoke-ending.result c.rest_after.result c.halt_after.result
    c.put_back-spare_disk.new.state.halt
    c.rest_after.ensures c.halt_after.ensures (ap (λ (u : LoggedState). u.state.halt) (given_back c))

pub returns-clause-globals : goal.returns-clause-globals
returns-clause-globals c =
    ap (λ (u : LoggedState). types_of u.state.globals) (given_back c) ∙ ap types_of (types_kept c)
    ∙ c.invoke-ending.ensures.globals
