use Rattle.std.proofs.Common.{None, inr, refl}
use Rattle.w4_defs.specs.KeptList.{kept_entries, nowhere}
use Rattle.w4_defs.specs.Session.{places_alone, set_input, insert_input, delete_input, undo, redo, drop_kept}
use Rattle.w4_editor.specs.Editor.{place_session}
use Rattle.w4_answers.proofs.ChangeAnswerLaws.{changed_by, changed_exactly, recording_unchanged}
use Rattle.w4_editor.proofs.EditorPlaceLaws.{no_input}
use Rattle.w4_answers.proofs.DeskLaws.{idle_within}
use Rattle.w4_answers.proofs.ScriptAnswerLaws.{on_ok_map}
use Rattle.w4_answers.proofs.change_answer.change.Goals as goal

pub returns-in-Set-clause-changed : goal.returns-in-Set-clause-changed
returns-in-Set-clause-changed g c =
    let old = c.args.counted.now.editor in
    rw c.in-Set.is
    (changed_by c.set.result (set_input kept_entries c.in-Set.k c.in-Set.input old.session) (set_input
    places_alone c.in-Set.k c.in-Set.input (place_session old))
    old c.set.new.self None (c.places_decide.ensures old.session c.in-Set.k c.in-Set.input nowhere).0
    c.set.ensures.ok c.set.ensures.others c.set.ensures.refused c.set.ensures.unchanged)

pub returns-in-Insert-clause-changed : goal.returns-in-Insert-clause-changed
returns-in-Insert-clause-changed g c =
    let old = c.args.counted.now.editor in
    rw c.in-Insert.is
    (changed_by c.insert.result (insert_input kept_entries c.in-Insert.k c.in-Insert.input old.session)
    (insert_input places_alone c.in-Insert.k c.in-Insert.input (place_session old))
    old c.insert.new.self None (c.places_decide.ensures old.session c.in-Insert.k c.in-Insert.input nowhere).1
    c.insert.ensures.ok c.insert.ensures.others c.insert.ensures.refused c.insert.ensures.unchanged)

pub returns-in-Delete-clause-changed : goal.returns-in-Delete-clause-changed
returns-in-Delete-clause-changed g c =
    let old = c.args.counted.now.editor in
    rw c.in-Delete.is
    (changed_by c.delete.result (delete_input kept_entries c.in-Delete.k old.session) (delete_input
    places_alone c.in-Delete.k (place_session old))
    old c.delete.new.self None (c.places_decide.ensures old.session c.in-Delete.k no_input nowhere).2
    c.delete.ensures.ok c.delete.ensures.others c.delete.ensures.refused c.delete.ensures.unchanged)

pub returns-in-Undo-clause-changed : goal.returns-in-Undo-clause-changed
returns-in-Undo-clause-changed g c =
    let old = c.args.counted.now.editor in
    rw c.in-Undo.is
    (changed_exactly c.undo.result (undo old.session) (undo (place_session old))
    old c.undo.new.self None (c.places_decide.ensures old.session 0 no_input nowhere).3
    c.undo.ensures.ok c.undo.ensures.others c.undo.ensures.refused c.undo.ensures.unchanged)

pub returns-in-Redo-clause-changed : goal.returns-in-Redo-clause-changed
returns-in-Redo-clause-changed g c =
    let old = c.args.counted.now.editor in
    rw c.in-Redo.is
    (changed_exactly c.redo.result (redo old.session) (redo (place_session old))
    old c.redo.new.self None (c.places_decide.ensures old.session 0 no_input nowhere).4
    c.redo.ensures.ok c.redo.ensures.others c.redo.ensures.refused c.redo.ensures.unchanged)

pub returns-in-Keep-clause-changed : goal.returns-in-Keep-clause-changed
returns-in-Keep-clause-changed g c = rw c.in-Keep.is c.keep_place.ensures.changed

pub returns-in-KeepEvery-clause-changed : goal.returns-in-KeepEvery-clause-changed
returns-in-KeepEvery-clause-changed g c =
    rw c.in-KeepEvery.is c.keep_multiples.ensures.changed

pub returns-in-DropKept-clause-changed : goal.returns-in-DropKept-clause-changed
returns-in-DropKept-clause-changed g c =
    let old = c.args.counted.now.editor in
    rw c.in-DropKept.is
    (changed_exactly c.drop_kept.result (drop_kept kept_entries c.in-DropKept.p old.session) (drop_kept
    places_alone c.in-DropKept.p (place_session old))
    old c.drop_kept.new.self old.at (c.places_decide.ensures old.session c.in-DropKept.p no_input nowhere).6
    c.drop_kept.ensures.ok c.drop_kept.ensures.others c.drop_kept.ensures.refused
    c.drop_kept.ensures.unchanged)

pub returns-in-Set-clause-recording : goal.returns-in-Set-clause-recording
returns-in-Set-clause-recording g c =
    recording_unchanged c.set.result c.args.counted.now.editor c.set.new.self c.set.ensures.unchanged

pub returns-in-Insert-clause-recording : goal.returns-in-Insert-clause-recording
returns-in-Insert-clause-recording g c =
    recording_unchanged c.insert.result c.args.counted.now.editor c.insert.new.self c.insert.ensures.unchanged

pub returns-in-Delete-clause-recording : goal.returns-in-Delete-clause-recording
returns-in-Delete-clause-recording g c =
    recording_unchanged c.delete.result c.args.counted.now.editor c.delete.new.self c.delete.ensures.unchanged

pub returns-in-Undo-clause-recording : goal.returns-in-Undo-clause-recording
returns-in-Undo-clause-recording g c =
    recording_unchanged c.undo.result c.args.counted.now.editor c.undo.new.self c.undo.ensures.unchanged

pub returns-in-Redo-clause-recording : goal.returns-in-Redo-clause-recording
returns-in-Redo-clause-recording g c =
    recording_unchanged c.redo.result c.args.counted.now.editor c.redo.new.self c.redo.ensures.unchanged

pub returns-in-DropKept-clause-recording : goal.returns-in-DropKept-clause-recording
returns-in-DropKept-clause-recording g c =
    recording_unchanged c.drop_kept.result c.args.counted.now.editor c.drop_kept.new.self
    c.drop_kept.ensures.unchanged

pub returns-in-Keep-clause-frames_run : goal.returns-in-Keep-clause-frames_run
returns-in-Keep-clause-frames_run g c =
    rw c.in-Keep.is (on_ok_map c.keep_place.result (λ kept. inr kept) c.keep_place.ensures.frames_run)

pub returns-in-KeepEvery-clause-frames_run : goal.returns-in-KeepEvery-clause-frames_run
returns-in-KeepEvery-clause-frames_run g c =
    rw c.in-KeepEvery.is
    (on_ok_map c.keep_multiples.result (λ kept. inr kept) c.keep_multiples.ensures.frames_run)

pub returns-in_default-clause-frames_run : goal.returns-in_default-clause-frames_run
returns-in_default-clause-frames_run g c =
    idle_within c.args.order.now c.args.counted.now.steps c.args.counted.now.steps c.args.counted.now.editor
    c.args.counted.now.editor refl
