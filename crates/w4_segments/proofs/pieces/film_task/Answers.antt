use Rattle.std.proofs.Common.{◌≡◌, ◌+◌, List, [], ◌∷◌, ◌++◌, flat_map, length, Some, sym, subst, ap, ◌∙◌}
use Rattle.std.proofs.Common.{arith}
use Rattle.std.specs.List.{slice_range}
use Rattle.std.proofs.lemmas.List.{length-append}
use Rattle.w4_console.specs.Calls.{setup_of}
use Rattle.w4_defs.specs.declared.console.Input.{Input}
use Rattle.w4_defs.specs.Image.{image}
use Rattle.w4_defs.specs.Recording.{Recording}
use Rattle.w4_defs.specs.Run.{fold}
use Rattle.w4_defs.specs.State.{State}
use Rattle.w4_editor.proofs.PlayerLaws.{run_links}
use Rattle.w4_segments.proofs.PieceLaws.{first_screen, more_screens}
use Rattle.w4_segments.proofs.pieces.film_task.Goals as goal

pub loop-place-init : goal.loop-place-init
loop-place-init c =
    let args = c.args in
    let r = args.recording.now in
    let setup = setup_of args.setup.now in
    let first = args.task.first in
    let screen = c.screen_of.result in
    let state = c.play.new.self in
    let frames = c.deref.ensures.value ∙ ap (λ (x : Recording). x.frames) c.recording.view_is in
    let from = args.task.place in
    let old = args.console.now in
    let played =
    subst (λ (xs : List Input). fold setup old (slice_range xs from first) ≡ Some state) frames
    c.play.ensures.fold in
    let here =
    run_links setup r.disk r.frames from first old state c.requires.order c.requires.state played in
    let items : c.push_reserved.new.self.items ≡ screen ∷ [] =
    c.push_reserved.ensures.items ∙ ap (λ xs. xs ++ screen ∷ []) c.requires.empty in
    let capacity = c.push_reserved.ensures.capacity in
    let room = c.requires.room in
    let same = c.screen_of.ensures ∙ ap (λ (s : State). image s.page) c.state.ensures in (
      here,
      c.play.ensures.globals,
      ap length items ∙ omega arith,
      omega (arith, capacity, room),
      first_screen setup r.disk r.frames screen first state here same
          ∙ ap (λ xs. Some (flat_map image xs)) (sym items),
      omega arith,
    )

pub loop-place-preserved : goal.loop-place-preserved
loop-place-preserved c =
    let args = c.args in
    let r = args.recording.now in
    let setup = setup_of args.setup.now in
    let first = args.task.first in
    let place = c.loop-place.place in
    let screens = c.loop-place.screens.items in
    let screen = c.screen_of-in-loop-place.result in
    let state = c.play-in-loop-place.new.self in
    let before = c.loop-place.invariant in
    let now = c.loop-place.console in
    let frames = c.deref-in-loop-place.ensures.value ∙ ap (λ (x : Recording). x.frames) c.recording.view_is in
    let played =
    subst (λ (xs : List Input). fold setup now (slice_range xs place (place + 1)) ≡ Some state) frames
    c.play-in-loop-place.ensures.fold in
    let here = run_links setup r.disk r.frames place (place + 1) now state (omega arith) before.0 played in
    let items = c.push_reserved-in-loop-place.ensures.items in
    let capacity = c.push_reserved-in-loop-place.ensures.capacity in
    let many = before.2 in
    let room = before.3 in
    let from = before.5 in
    let same = c.screen_of-in-loop-place.ensures
    ∙ ap (λ (s : State). image s.page) c.state-in-loop-place.ensures in (
      here,
      c.play-in-loop-place.ensures.globals,
      ap length items ∙ length-append screens (screen ∷ []) ∙ omega (arith, many, from),
      omega (arith, capacity, room),
      more_screens setup r.disk r.frames screens screen first place state from here same before.4
          ∙ ap (λ xs. Some (flat_map image xs)) (sym items),
      omega (arith, from),
    )
