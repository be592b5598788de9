use Rattle.std.proofs.Common.{◌≡◌, ℕ, ◌+◌, ◌-◌, List, Some, ap, arith, subst, sym, ◌∙◌}
use Rattle.w4_devices.specs.Records.{record_of}
use Rattle.w4_editor.specs.Editor.{editing_setup}
use Rattle.w4_answers.specs.Desk.{IsMade, StepsOn}
use Rattle.w4_answers.proofs.DeskLaws.{made_of_reset}
use Rattle.w4_answers.proofs.RangeAnswerLaws.{record_in, reset_record, run_at, text_of_record}
use Rattle.w4_answers.proofs.ScriptAnswerLaws.{if_ok_map, on_ok}
use Rattle.w4_answers.proofs.desk.Desk.frame_text.Goals as goal

pub returns-then-place-eq0-clause-text : goal.returns-then-place-eq0-clause-text
returns-then-place-eq0-clause-text g c =
    let old = c.args.self.now.counted.editor in
    let frame_record = record_of c.reset_frame.result.now in
    let told = text_of_record c.args.wanted c.args.place (run_at old c.args.place) frame_record
    (rw c.if-place-eq0.true
    (reset_record (editing_setup old) old.disk old.session.current.inputs frame_record
    c.reset_frame.ensures)) in
    if_ok_map c.record_text.result (λ text is. told ∙ ap (λ (bytes : List ℕ). Some bytes) (sym is))
    c.record_text.ensures

pub returns-clause-text : goal.returns-clause-text
returns-clause-text g c =
    let old = c.args.self.now.counted.editor in
    let frame_record = record_of c.frame_taken.new.self.frame_record in
    let here : c.args.place - 1 + 1 ≡ c.args.place = omega (arith, c.if-place-eq0.false) in
    let told = text_of_record c.args.wanted c.args.place (run_at old c.args.place) frame_record
    (subst (λ p. record_in (run_at old p) ≡ Some frame_record) here
    c.in_ok-frame_taken.ensures.frame_record) in
    if_ok_map c.record_text-2.result (λ text is. told ∙ ap (λ (bytes : List ℕ). Some bytes) (sym is))
    c.record_text-2.ensures

pub returns-then-place-eq0-clause-made : goal.returns-then-place-eq0-clause-made
returns-then-place-eq0-clause-made g c =
    on_ok c.record_text.result (made_of_reset c.args.place c.args.self.now.counted.steps
    c.args.self.now.counted.editor c.if-place-eq0.true)

pub returns-clause-made : goal.returns-clause-made
returns-clause-made g c =
    let here : c.args.place - 1 + 1 ≡ c.args.place = omega (arith, c.if-place-eq0.false) in
    on_ok c.record_text-2.result
    (subst (λ p. IsMade 1 p c.args.self.now.counted.steps c.frame_taken.new.self.counted.steps
    c.args.self.now.counted.editor c.frame_taken.new.self.counted.editor) here
    c.in_ok-frame_taken.ensures.made)

pub returns-then-place-eq0-clause-steps : goal.returns-then-place-eq0-clause-steps
returns-then-place-eq0-clause-steps g c =
    on_ok c.record_text.result
    (λ some _. let zero = c.if-place-eq0.true in absurd (omega (arith, zero, some)))

pub returns-clause-steps : goal.returns-clause-steps
returns-clause-steps g c =
    let here : c.args.place - 1 + 1 ≡ c.args.place = omega (arith, c.if-place-eq0.false) in
    on_ok c.record_text-2.result
    (subst (λ p. StepsOn p c.args.self.now.counted.steps c.frame_taken.new.self.counted.steps
    c.args.self.now.counted.editor c.frame_taken.new.self.counted.editor) here
    c.in_ok-frame_taken.ensures.steps)
