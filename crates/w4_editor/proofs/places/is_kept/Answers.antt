use Rattle.w4_defs.specs.Session.{is_kept, places_alone}
use Rattle.w4_editor.specs.Editor.{place_session}
use Rattle.w4_editor.proofs.KeepEveryLaws.{kept_found, kept_passed, kept_nowhere}
use Rattle.w4_editor.proofs.places.is_kept.Goals as goal

pub returns-then-kept_place-place : goal.returns-then-kept_place-place
returns-then-kept_place-place c =
    let editor = c.args.editor.now in
    kept_found c.args.place c.loop-i.i c.kept_place.result editor.session.current.kept
    (is_kept places_alone c.args.place (place_session editor).current.kept) (rw (←
    c.kept_count-i-end.ensures) c.loop-i-test.true)
    c.kept_place.ensures c.if-kept_place-place.true c.loop-i.invariant

pub loop-i-preserved : goal.loop-i-preserved
loop-i-preserved c =
    let editor = c.args.editor.now in
    kept_passed c.args.place c.loop-i.i c.kept_place.result editor.session.current.kept
    (is_kept places_alone c.args.place (place_session editor).current.kept) (rw (←
    c.kept_count-i-end.ensures) c.loop-i-test.true)
    c.kept_place.ensures c.if-kept_place-place.false c.loop-i.invariant

pub returns : goal.returns
returns c =
    let editor = c.args.editor.now in
    kept_nowhere c.args.place c.loop-i.i editor.session.current.kept
    (is_kept places_alone c.args.place (place_session editor).current.kept) (rw (←
    c.kept_count-i-end.ensures) c.loop-i-test.false)
    c.loop-i.invariant
