use Rattle.std.proofs.Common.{◌≡◌, ◌∙◌, sym, true, false}
use Rattle.w4_answers.proofs.DeskLaws.{shown_runs}
use Rattle.w4_answers.proofs.DeskSessionLaws.{gone_recording, only_shows}
use Rattle.w4_answers.proofs.ScriptAnswerLaws.{on_ok, on_ok_map}
use Rattle.w4_answers.proofs.desk.go_unless_shown.Goals as goal

pub returns-clause-shows : goal.returns-clause-shows
returns-clause-shows g c =
    on_ok_map c.go_to.result
    (λ shown. only_shows c.args.counted.now.editor c.go_to.new.self shown.recording)
    c.go_to.ensures.ok

pub returns-clause-recording : goal.returns-clause-recording
returns-clause-recording g c =
    gone_recording c.go_to.result c.args.place c.args.counted.now.steps c.go_to.new.steps
    c.args.counted.now.editor c.go_to.new.self c.go_to.ensures.ok c.go_to.ensures.err

pub returns-clause-at : goal.returns-clause-at
returns-clause-at g c = on_ok_map c.go_to.result (λ shown. shown.at) c.go_to.ensures.ok

pub returns-clause-frames_run : goal.returns-clause-frames_run
returns-clause-frames_run g c =
    on_ok_map c.go_to.result
    (shown_runs c.args.place c.args.counted.now.steps c.go_to.new.steps c.args.counted.now.editor
    c.go_to.new.self) c.go_to.ensures.ok

pub returns-clause-stays : goal.returns-clause-stays
returns-clause-stays g c =
    on_ok c.go_to.result
    (λ at. let e : false ≡ true = sym c.if-is_shown.false ∙ c.is_shown.ensures.1 at in absurd cc)
