use Rattle.std.proofs.Common.{Option, option_map, ap, refl, sym, ◌∙◌}
use Rattle.std.proofs.lemmas.Result.{err_from_is_err_and}
use Rattle.w4_defs.specs.Run.{run_state}
use Rattle.w4_defs.specs.ScriptAnswers.{if_place}
use Rattle.w4_defs.specs.State.{State}
use Rattle.w4_editor.specs.Editor.{editing_setup, place_session}
use Rattle.w4_answers.specs.OwnAnswer.{part_of}
use Rattle.w4_answers.specs.Writing.{Written}
use Rattle.w4_answers.proofs.ScriptAnswerLaws.{on_ok}
use Rattle.w4_answers.proofs.DeskSessionLaws.{only_shows, same_state}
use Rattle.w4_answers.proofs.DeskLaws.{shown_runs}
use Rattle.w4_answers.proofs.RangeAnswerLaws.{if_place-within}
use Rattle.w4_answers.proofs.WritingLaws.{out_none, there_is}
use Rattle.w4_editor.proofs.EditorPlaceLaws.{same_recording}
use Rattle.w4_answers.proofs.own_answer.answer_part.Goals as goal

pub returns-clause-out : goal.returns-clause-out
returns-clause-out g c =
    let old = c.args.counted.now.editor in
    let new = c.go_to.new.self in
    let form = g.S.Shape.form in
    let told = λ (state : State). form (part_of c.args.part state) in
    let shown = c.in_ok-go_to.ensures.ok in
    let text = option_map told (run_state (editing_setup old) old.disk old.session.current.inputs c.args.p) in
    there_is
    (λ out.
    Written (g.H.House.world c.args.house.now) (g.H.House.world c.write_part.new.house) c.write_part.result
    out)
    (if_place form (place_session old) c.args.p text) (told c.state.result.now)
    (if_place-within form (place_session old) c.args.p text
    (rw (← c.last_place.ensures.last) c.if-place-last_place.false)
    ∙ ap (λ (state : Option State). option_map told state)
    (sym (same_state old new c.args.p (only_shows old new shown.recording))
    ∙ c.state.ensures c.args.p shown.at))
    c.write_part.ensures.out

pub returns-in_err-go_to-clause-out : goal.returns-in_err-go_to-clause-out
returns-in_err-go_to-clause-out g c =
    let p = err_from_is_err_and c.from_residual.result c.from_residual.ensures.1 in
    let world = g.H.House.world c.args.house.now in
    rw (p.1, p.2) (λ out is. out_none world.events world.events out refl)

pub returns-clause-shows : goal.returns-clause-shows
returns-clause-shows g c =
    on_ok c.write_part.result
    (only_shows c.args.counted.now.editor c.go_to.new.self c.in_ok-go_to.ensures.ok.recording)

pub returns-clause-recording : goal.returns-clause-recording
returns-clause-recording g c =
    same_recording c.args.counted.now.editor c.go_to.new.self c.in_ok-go_to.ensures.ok.recording

pub returns-in_err-go_to-clause-recording : goal.returns-in_err-go_to-clause-recording
returns-in_err-go_to-clause-recording g c =
    same_recording c.args.counted.now.editor c.go_to.new.self c.in_err-go_to.ensures.err

pub returns-clause-frames_run : goal.returns-clause-frames_run
returns-clause-frames_run g c =
    on_ok c.write_part.result
    (shown_runs c.args.p c.args.counted.now.steps c.go_to.new.steps c.args.counted.now.editor
    c.go_to.new.self c.in_ok-go_to.ensures.ok)
