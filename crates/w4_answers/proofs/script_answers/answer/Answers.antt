use Rattle.std.proofs.Common.{refl, sym, subst}
use Rattle.std.specs.Prelude.{ℕ}
use Rattle.w4_defs.specs.Session.{Session}
use Rattle.w4_editor.specs.Editor.{editing_setup, place_session}
use Rattle.w4_defs.specs.Answers.{Answered}
use Rattle.w4_answers.specs.ScriptAnswers.{GivesAnswer}
use Rattle.w4_answers.specs.ChangeAnswer.{changed}
use Rattle.w4_answers.proofs.ChangeAnswerLaws.{change_answers}
use Rattle.w4_defs.specs.declared.place_text.PlaceText.TheVariants.{Image, DiskBytes}
use Rattle.w4_answers.proofs.RangeAnswerLaws.{one_range}
use Rattle.w4_answers.proofs.DeskLaws.{change_answers_within, runs_one}
use Rattle.w4_answers.proofs.ScriptAnswerLaws.{on_ok, on_ok_map}
use Rattle.w4_answers.proofs.script_answers.answer.Goals as goal

pub returns-in-Show-clause-answered : goal.returns-in-Show-clause-answered
returns-in-Show-clause-answered g c =
    rw c.in-Show.is
    (one_range g.S.Shape.form c.answer_range.result (g.H.House.world c.args.house.now)
    (g.H.House.world c.answer_range.new.house)
    c.args.desk.now.counted.editor c.answer_range.new.desk.counted.editor Image c.in-Show.p
    c.answer_range.ensures.answered)

pub returns-in-Film-clause-answered : goal.returns-in-Film-clause-answered
returns-in-Film-clause-answered g c = rw c.in-Film.is c.answer_film.ensures.answered

pub returns-in-Tones-clause-answered : goal.returns-in-Tones-clause-answered
returns-in-Tones-clause-answered g c = rw c.in-Tones.is c.answer_range-in-Tones.ensures.answered

pub returns-in-Traces-clause-answered : goal.returns-in-Traces-clause-answered
returns-in-Traces-clause-answered g c = rw c.in-Traces.is c.answer_range-in-Traces.ensures.answered

pub returns-in-DiskAt-clause-answered : goal.returns-in-DiskAt-clause-answered
returns-in-DiskAt-clause-answered g c =
    rw c.in-DiskAt.is
    (one_range g.S.Shape.form c.answer_range-in-DiskAt.result (g.H.House.world c.args.house.now)
    (g.H.House.world c.answer_range-in-DiskAt.new.house) c.args.desk.now.counted.editor
    c.answer_range-in-DiskAt.new.desk.counted.editor DiskBytes c.in-DiskAt.p
    c.answer_range-in-DiskAt.ensures.answered)

pub returns-in-StateAt-clause-answered : goal.returns-in-StateAt-clause-answered
returns-in-StateAt-clause-answered g c = rw c.in-StateAt.is c.answer_state.ensures.answered

pub returns-in_default-clause-answered : goal.returns-in_default-clause-answered
returns-in_default-clause-answered g c =
    let old = c.args.desk.now.counted.editor in
    let new = c.change-changed.new.counted.editor in
    let order = c.args.order.now in
    let other = c.in_default in
    subst (λ (a : Answered (Session ℕ)). GivesAnswer (g.H.House.world c.args.house.now)
    (g.H.House.world c.answer_changed.new.house) c.answer_changed.result old new a)
    (sym (change_answers g.S.Shape.form (editing_setup old) old.disk (place_session old) order other.not-Show
    other.not-Film other.not-Tones other.not-Traces other.not-DiskAt other.not-StateAt))
    (c.answer_changed.ensures.answered old new (changed order (place_session old))
    c.change-changed.ensures.changed c.change-changed.ensures.recording)

pub returns-in-Show-clause-frames_run : goal.returns-in-Show-clause-frames_run
returns-in-Show-clause-frames_run g c =
    rw c.in-Show.is
    (on_ok_map c.answer_range.result
    (runs_one c.in-Show.p c.args.desk.now.counted.steps c.answer_range.new.desk.counted.steps
    c.args.desk.now.counted.editor c.answer_range.new.desk.counted.editor)
    c.answer_range.ensures.frames_run)

pub returns-in-Film-clause-frames_run : goal.returns-in-Film-clause-frames_run
returns-in-Film-clause-frames_run g c = rw c.in-Film.is (on_ok c.answer_film.result refl)

pub returns-in-Tones-clause-frames_run : goal.returns-in-Tones-clause-frames_run
returns-in-Tones-clause-frames_run g c =
    rw c.in-Tones.is c.answer_range-in-Tones.ensures.frames_run

pub returns-in-Traces-clause-frames_run : goal.returns-in-Traces-clause-frames_run
returns-in-Traces-clause-frames_run g c =
    rw c.in-Traces.is c.answer_range-in-Traces.ensures.frames_run

pub returns-in-DiskAt-clause-frames_run : goal.returns-in-DiskAt-clause-frames_run
returns-in-DiskAt-clause-frames_run g c =
    rw c.in-DiskAt.is
    (on_ok_map c.answer_range-in-DiskAt.result
    (runs_one c.in-DiskAt.p c.args.desk.now.counted.steps c.answer_range-in-DiskAt.new.desk.counted.steps
    c.args.desk.now.counted.editor c.answer_range-in-DiskAt.new.desk.counted.editor)
    c.answer_range-in-DiskAt.ensures.frames_run)

pub returns-in-StateAt-clause-frames_run : goal.returns-in-StateAt-clause-frames_run
returns-in-StateAt-clause-frames_run g c = rw c.in-StateAt.is c.answer_state.ensures.frames_run

pub returns-in_default-clause-frames_run : goal.returns-in_default-clause-frames_run
returns-in_default-clause-frames_run g c =
    let old = c.args.desk.now.counted.editor in
    let new = c.change-changed.new.counted.editor in
    let before = c.args.desk.now.counted.steps in
    let after = c.change-changed.new.counted.steps in
    let order = c.args.order.now in
    let other = c.in_default in
    on_ok_map c.answer_changed.result
    (change_answers_within order before after old new other.not-Show other.not-Film other.not-Settle
    other.not-Tones other.not-Traces other.not-DiskAt other.not-StateAt)
    (c.answer_changed.ensures.frames_run order before after old new c.change-changed.ensures.frames_run
    c.change-changed.ensures.idle)
