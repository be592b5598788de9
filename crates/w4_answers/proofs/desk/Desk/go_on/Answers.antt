use Rattle.std.proofs.Common.{◌≡◌, ◌+◌, ◌-◌, ◌∙◌, Some, ap, arith, sym, true, false}
use Rattle.w4_defs.specs.KeptList.{Entry}
use Rattle.w4_defs.specs.Session.{Session}
use Rattle.w4_answers.proofs.DeskLaws.{made_by_show, made_by_step}
use Rattle.w4_answers.proofs.DeskSessionLaws.{gone_recording, only_shows}
use Rattle.w4_answers.proofs.ScriptAnswerLaws.{on_ok, on_ok_map}
use Rattle.w4_answers.proofs.desk.Desk.go_on.Goals as goal

pub returns-then-is_next-clause-at : goal.returns-then-is_next-clause-at
returns-then-is_next-clause-at g c =
    let some = (c.is_next.ensures.0 c.if-is_next.true).0 in
    let here : c.args.place - 1 + 1 ≡ c.args.place = omega (arith, some) in
    c.step_from.ensures.at ∙ ap (λ n. Some n) here

pub returns-then-is_next-clause-made : goal.returns-then-is_next-clause-made
returns-then-is_next-clause-made g c =
    let some = (c.is_next.ensures.0 c.if-is_next.true).0 in
    let here : c.args.place - 1 + 1 ≡ c.args.place = omega (arith, some) in
    made_by_step 0 c.args.place c.args.self.now.counted.steps c.step_from.new.counted.steps
    c.args.self.now.counted.editor c.step_from.new.counted.editor c.step_from.ensures.ticks
    (c.step_from.ensures.at ∙ ap (λ n. Some n) here)

pub returns-then-is_next-clause-steps : goal.returns-then-is_next-clause-steps
returns-then-is_next-clause-steps g c _ _ =
    let one = c.step_from.ensures.ticks in
    (omega (arith, one), ap (λ (s : Session Entry). s.current.kept) c.step_from.ensures.kept)

pub returns-clause-shows : goal.returns-clause-shows
returns-clause-shows g c =
    on_ok_map c.go_to.result
    (λ shown. only_shows c.args.self.now.counted.editor c.go_to.new.self shown.recording)
    c.go_to.ensures.ok

pub returns-clause-recording : goal.returns-clause-recording
returns-clause-recording g c =
    gone_recording c.go_to.result c.args.place c.args.self.now.counted.steps c.go_to.new.steps
    c.args.self.now.counted.editor c.go_to.new.self c.go_to.ensures.ok c.go_to.ensures.err

pub returns-clause-at : goal.returns-clause-at
returns-clause-at g c = on_ok_map c.go_to.result (λ shown. shown.at) c.go_to.ensures.ok

pub returns-clause-made : goal.returns-clause-made
returns-clause-made g c =
    on_ok_map c.go_to.result
    (made_by_show c.args.place c.args.self.now.counted.steps c.go_to.new.steps
    c.args.self.now.counted.editor c.go_to.new.self) c.go_to.ensures.ok

pub returns-clause-steps : goal.returns-clause-steps
returns-clause-steps g c =
    on_ok c.go_to.result
    (λ some at. let e : false ≡ true = sym c.if-is_next.false ∙ c.is_next.ensures.1 (some, at) in absurd cc)
