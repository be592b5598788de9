use Rattle.std.proofs.Common.{ℕ, List, length, ap, sym, ◌∙◌}
use Rattle.w4_defs.specs.State.{State}
use Rattle.w4_answers.proofs.DeskSessionLaws.{only_shows, same_state}
use Rattle.w4_editor.proofs.EditorPlaceLaws.{same_recording}
use Rattle.w4_answers.proofs.DeskLaws.{shown_runs}
use Rattle.w4_answers.proofs.state_answer.facts.Goals as goal

pub returns-clause-facts : goal.returns-clause-facts
returns-clause-facts g c =
    let old = c.args.counted.now.editor in
    let new = c.go_to.new.self in
    let shown = c.in_ok-go_to.ensures.ok in (
      c.state-state.result.now,
      sym (same_state old new c.args.place (only_shows old new shown.recording))
          ∙ c.state-state.ensures c.args.place shown.at,
      ap (λ (s : State). s.halt) (sym c.state.view_is),
      ap (λ (s : State). length s.disk) (sym c.state.view_is)
          ∙ ap (λ (bytes : List ℕ). length bytes) (sym (c.bytes.ensures.bytes ∙ c.deref.ensures)),
    )

pub returns-clause-shows : goal.returns-clause-shows
returns-clause-shows g c =
    only_shows c.args.counted.now.editor c.go_to.new.self c.in_ok-go_to.ensures.ok.recording

pub returns-clause-recording : goal.returns-clause-recording
returns-clause-recording g c =
    same_recording c.args.counted.now.editor c.go_to.new.self c.in_ok-go_to.ensures.ok.recording

pub returns-in_err-go_to-clause-recording : goal.returns-in_err-go_to-clause-recording
returns-in_err-go_to-clause-recording g c =
    same_recording c.args.counted.now.editor c.go_to.new.self c.in_err-go_to.ensures.err

pub returns-clause-frames_run : goal.returns-clause-frames_run
returns-clause-frames_run g c =
    shown_runs c.args.place c.args.counted.now.steps c.go_to.new.steps c.args.counted.now.editor
    c.go_to.new.self c.in_ok-go_to.ensures.ok
