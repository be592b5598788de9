use Rattle.std.proofs.Common.{◌≡◌, ◌+◌, ◌-◌, ◌∙◌, Some, ap, arith, subst}
use Rattle.w4_defs.specs.KeptList.{Entry}
use Rattle.w4_defs.specs.Session.{Session}
use Rattle.w4_editor.specs.Editor.{Editing}
use Rattle.w4_answers.specs.Desk.{RunsOn}
use Rattle.w4_answers.proofs.DeskLaws.{made_from_before}
use Rattle.w4_answers.proofs.desk.Desk.frame_taken.Goals as goal

pub returns-clause-made : goal.returns-clause-made
returns-clause-made g c =
    let here : c.args.place ≡ c.args.place + 1 - 1 = omega arith in
    made_from_before (c.args.place + 1) c.args.self.now.counted.steps c.go_unless_shown.new.counted.steps
    c.step_from.new.counted.steps c.args.self.now.counted.editor c.go_unless_shown.new.counted.editor
    c.step_from.new.counted.editor
    (subst (λ p. RunsOn p 0 c.args.self.now.counted.steps c.go_unless_shown.new.counted.steps
    c.args.self.now.counted.editor c.go_unless_shown.new.counted.editor) here
    c.in_ok-go_unless_shown.ensures.frames_run)
    c.step_from.ensures.ticks
    (ap (λ (s : Session Entry). s.current.kept) c.step_from.ensures.kept) c.step_from.ensures.at

pub returns-clause-steps : goal.returns-clause-steps
returns-clause-steps g c some at =
    let here : c.args.place + 1 - 1 ≡ c.args.place = omega arith in
    let stays = c.in_ok-go_unless_shown.ensures.stays (at ∙ ap (λ n. Some n) here) in
    let none = stays.0 in
    let one = c.step_from.ensures.ticks in (
      omega (arith, none, one),
      ap (λ (s : Session Entry). s.current.kept) c.step_from.ensures.kept
          ∙ ap (λ (e : Editing). e.session.current.kept) stays.1,
    )
