use Rattle.std.proofs.Common.{ℕ, List, Some, length, ap, refl, sym, ◌∙◌}
use Rattle.std.proofs.lemmas.Result.{err_from_is_err_and}
use Rattle.w4_defs.specs.FrameTexts.{state_line}
use Rattle.w4_defs.specs.Run.{run}
use Rattle.w4_editor.specs.Editor.{editing_setup, place_session}
use Rattle.w4_answers.proofs.WritingLaws.{out_none, there_is}
use Rattle.w4_defs.specs.ScriptAnswers.{if_place, no_frame, state_answer}
use Rattle.w4_answers.proofs.ScriptAnswerLaws.{on_ok}
use Rattle.w4_answers.proofs.DeskSessionLaws.{refused_place, answered_on}
use Rattle.w4_defs.proofs.TextsOfStates.{line_of_state}
use Rattle.w4_answers.specs.Writing.{Written}
use Rattle.w4_answers.proofs.RangeAnswerLaws.{if_place-past, if_place-within}
use Rattle.w4_answers.proofs.state_answer.answer_state.Goals as goal

pub returns-then-place-count-clause-answered : goal.returns-then-place-count-clause-answered
returns-then-place-count-clause-answered g c =
    let old = c.args.counted.now.editor in
    let s = place_session old in
    let text = state_answer g.S.Shape.form (editing_setup old) old.disk s c.args.p in
    refused_place c.refuse.result (g.H.House.world c.args.house.now) (g.H.House.world c.refuse.new.house) old
    (g.S.Shape.form no_frame) (if_place g.S.Shape.form s c.args.p text)
    (if_place-past g.S.Shape.form s c.args.p text
    (rw (← c.last_place-count.ensures.last) c.if-place-count.true))
    c.refuse.ensures.out

pub returns-clause-answered : goal.returns-clause-answered
returns-clause-answered g c =
    let old = c.args.counted.now.editor in
    let new = c.facts.new.counted.editor in
    let s = place_session old in
    let count = length s.current.inputs in
    let text = state_answer g.S.Shape.form (editing_setup old) old.disk s c.args.p in
    let found = c.in_ok-facts.ensures.facts in
    let line = c.in_ok-text.ensures found.0 found.2 found.3 in
    let same = c.in_ok-facts.ensures.shows.session in
    let before = g.H.House.world c.args.house.now in
    let after = g.H.House.world c.write.new.house in
    answered_on c.write.result before after old new
    (Some (g.S.Shape.form c.as_slice.result.now)) (if_place g.S.Shape.form s c.args.p text)
    (if_place-within g.S.Shape.form s c.args.p text
    (rw (← c.last_place-count.ensures.last) c.if-place-count.false)
    ∙ line_of_state g.S.Shape.form c.args.p count s.current.kept
    (run (editing_setup old) old.disk s.current.inputs c.args.p) found.0 found.1
    ∙ (λ i. Some
    (g.S.Shape.form (state_line c.args.p (sym c.last_place-count.ensures.last i) found.0
    (sym same i).current.kept)))
    ∙ ap (λ (bytes : List ℕ). Some (g.S.Shape.form bytes)) (sym line ∙ sym c.as_slice.ensures.value))
    (on_ok c.write.result c.in_ok-facts.ensures.shows) c.in_ok-facts.ensures.recording
    (there_is (λ out. Written before after c.write.result out) (Some (g.S.Shape.form c.as_slice.result.now))
    (g.S.Shape.form c.as_slice.result.now) refl c.write.ensures.out)

pub returns-in_err-text-clause-answered : goal.returns-in_err-text-clause-answered
returns-in_err-text-clause-answered g c =
    let p =
    err_from_is_err_and c.from_residual-in_err-text.result c.from_residual-in_err-text.ensures.1 in
    let world = g.H.House.world c.args.house.now in
    rw (p.1, p.2) (λ out is. out_none world.events world.events out refl, c.in_ok-facts.ensures.recording)

pub returns-clause-frames_run : goal.returns-clause-frames_run
returns-clause-frames_run g c = on_ok c.write.result c.in_ok-facts.ensures.frames_run
