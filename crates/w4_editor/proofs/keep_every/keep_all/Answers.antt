use Rattle.std.proofs.Common.{◌+◌, ◌-◌, ◌++◌, List, ℕ, length, sym, ap, ◌∙◌, arith, subst}
use Rattle.std.proofs.lemmas.Result.{err_from_is_err_and}
use Rattle.w4_defs.specs.Session.{Session, all_kept, with_list}
use Rattle.w4_editor.specs.KeepEvery.{all_to_keep, with_multiple}
use Rattle.w4_editor.specs.Editor.{place_session}
use Rattle.w4_editor.specs.Playing.{AreKeptInTurn}
use Rattle.w4_editor.proofs.KeepEveryLaws.{multiples_from, multiple_kept, all_are_kept, room_for_multiple}
use Rattle.w4_editor.proofs.EditorPlaceLaws.{kept_then, rest_then, same_recording_kept}
use Rattle.w4_editor.proofs.keep_every.keep_all.Goals as goal

pub keep_wanted-requires-clause-place : goal.keep_wanted-requires-clause-place
keep_wanted-requires-clause-place g c =
    let same = ap (λ (s : Session ℕ). length s.current.inputs) c.loop-place.invariant.1 in
    omega (arith, same, c.loop-place-test.true, c.last_place-last.ensures.last)

pub keep_wanted-requires-clause-room : goal.keep_wanted-requires-clause-room
keep_wanted-requires-clause-room g c =
    let first = place_session c.args.editor.now in
    let now = place_session c.loop-place.editor in
    room_for_multiple c.args.every c.loop-place.place (length first.current.inputs + 1) now.current.kept
    (all_to_keep c.args.every first) (omega (arith, c.loop-place-test.true, c.last_place-last.ensures.last))
    c.loop-place.invariant.0 c.requires.room

pub loop-place-preserved : goal.loop-place-preserved
loop-place-preserved g c =
    let first = place_session c.args.editor.now in
    let now = place_session c.loop-place.editor in
    let end = length first.current.inputs + 1 in
    let p = c.loop-place.place in
    let next : List ℕ = with_multiple c.args.every p now.current.kept in
    let kept = c.in_ok-keep_wanted.ensures.kept in
    let same = ap (λ (s : Session ℕ). s.current.kept) kept in
    let so_far = c.loop-place.invariant.3 in
    let more = c.in_ok-keep_wanted.ensures.copied in
    let few = c.loop-place.invariant.4 in
    let small = c.from.ensures in (
      ap (λ (xs : List ℕ). all_kept (multiples_from c.args.every (p + 1) (end - (p + 1))) xs) same
          ∙ multiple_kept c.args.every p end now.current.kept (all_to_keep c.args.every first)
          (omega (arith, c.loop-place-test.true, c.last_place-last.ensures.last)) c.loop-place.invariant.0,
      kept
          ∙ ap (λ (s : Session ℕ). with_list s next) c.loop-place.invariant.1
          ∙ ap (λ (xs : List ℕ). with_list first xs) (sym same),
      rest_then c.args.editor.now c.loop-place.editor c.keep_wanted.new.editor c.loop-place.invariant.2
          c.in_ok-keep_wanted.ensures.rest,
      (
        so_far.0 ++ more.0,
        kept_then so_far.0 more.0 c.args.steps.now c.loop-place.steps c.keep_wanted.new.steps
            c.loop-place.copied
            c.from.result c.args.editor.now c.loop-place.editor c.keep_wanted.new.editor so_far.1
            (subst (λ (n : ℕ). AreKeptInTurn more.0 c.loop-place.steps c.keep_wanted.new.steps n
            c.loop-place.editor c.keep_wanted.new.editor) (sym c.from.ensures) more.1),
      ),
      omega (arith, few, small),
    )

pub returns-clause-kept : goal.returns-clause-kept
returns-clause-kept g c =
    let first = place_session c.args.editor.now in
    let now = place_session c.loop-place.editor in
    c.loop-place.invariant.1
    ∙ ap (λ (xs : List ℕ). with_list first xs)
    (all_are_kept c.args.every c.loop-place.place (length first.current.inputs + 1) now.current.kept
    (all_to_keep c.args.every first) (omega (arith, c.loop-place-test.false, c.last_place-last.ensures.last))
    c.loop-place.invariant.0)

pub returns-in_err-keep_wanted-clause-recording : goal.returns-in_err-keep_wanted-clause-recording
returns-in_err-keep_wanted-clause-recording g c =
    let p = err_from_is_err_and c.from_residual.result c.from_residual.ensures.1 in
    let first = c.args.editor.now in
    let now = c.loop-place.editor in
    rw (p.1)
    (c.in_err-keep_wanted.ensures.recording
    ∙ same_recording_kept first now (place_session now).current.kept c.loop-place.invariant.2
    c.loop-place.invariant.1)
