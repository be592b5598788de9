use Rattle.std.proofs.Common.{◌≡◌, ap, sym, ◌∙◌}
use Rattle.std.specs.Prelude.{List, Option, Some, ℕ}
use Rattle.w4_defs.specs.FrameTexts.{state_line}
use Rattle.w4_editor.specs.Editor.{Editing, editing_setup, place_session}
use Rattle.w4_netplay.specs.Replica.{places_kept}
use Rattle.w4_defs.specs.ScriptAnswers.{refused_line}
use Rattle.w4_defs.specs.Answers.{answer_text}
use Rattle.w4_defs.specs.LogAnswers.{if_passed, net_words, predicted_state}
use Rattle.w4_answers.specs.NetAnswers.{net_session}
use Rattle.w4_answers.proofs.NetAnswerLaws.{heard_on_text, net_refused_on_text, not_passed, passed_text}
use Rattle.w4_answers.proofs.NetAnswerLaws.{same_netplay, state_answered}
use Rattle.w4_answers.proofs.net_answers.answer_state.Goals as goal

pub returns-in_ok-line-in-Ok-clause-heard : goal.returns-in_ok-line-in-Ok-clause-heard
returns-in_ok-line-in-Ok-clause-heard g c =
    let old = c.args.replica.now in
    let s = net_session old in
    let text = predicted_state (editing_setup old.editor) s c.args.p in
    let found = c.in-Ok.ensures.facts in
    let keeps = c.in-Ok.ensures.keeps in
    let line = c.in_ok-line-in-Ok.ensures found.0 found.2 found.3 in
    let count : old.frames ≡ c.count-count.result = sym keeps.frames ∙ sym c.count-count.ensures.frames in
    let kept : places_kept old ≡ (place_session c.editor.result.now).current.kept =
    sym keeps.kept ∙ ap (λ (e : Editing). (place_session e).current.kept) (sym c.editor.ensures) in
    heard_on_text c.write_bytes.result (g.H.House.world c.args.house.now)
    (g.H.House.world c.write_bytes.new.house) old
    c.facts.new.replica c.as_slice.result.now (answer_text s (if_passed s c.args.p text))
    (ap (λ (out : Option (List ℕ)). answer_text s out)
    (passed_text old c.args.p text c.in-Ok.ensures.accepted
    ∙ state_answered old c.args.p found.0 c.requires found.1
    ∙ ap (λ (out : List ℕ). Some out)
    ((λ i. state_line c.args.p (count i) found.0 (kept i)) ∙ sym line ∙ sym c.as_slice.ensures.value)))
    c.write_bytes.ensures.out keeps

pub returns-in-Err-clause-heard : goal.returns-in-Err-clause-heard
returns-in-Err-clause-heard g c =
    let old = c.args.replica.now in
    let s = net_session old in
    let text = predicted_state (editing_setup old.editor) s c.args.p in
    net_refused_on_text c.refuse.result (g.H.House.world c.args.house.now)
    (g.H.House.world c.refuse.new.house) old
    c.facts.new.replica (refused_line (net_words c.in-Err.refusal))
    (answer_text s (if_passed s c.args.p text))
    c.refuse.ensures.cause
    (λ other. not_passed old c.args.p text c.in-Err.refusal c.in-Err.ensures.refused other)
    (λ other. same_netplay old c.facts.new.replica (c.in-Err.ensures.unchanged other))
    c.refuse.ensures.out
