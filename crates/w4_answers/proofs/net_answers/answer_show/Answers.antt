use Rattle.std.proofs.Common.{ap, sym, ◌∙◌}
use Rattle.std.specs.Prelude.{List, Option, Some, ℕ}
use Rattle.w4_editor.specs.Editor.{editing_setup}
use Rattle.w4_defs.specs.ScriptAnswers.{refused_line}
use Rattle.w4_defs.specs.Answers.{answer_text}
use Rattle.w4_defs.specs.LogAnswers.{if_passed, net_words, predicted_image}
use Rattle.w4_answers.specs.NetAnswers.{net_session}
use Rattle.w4_answers.proofs.NetAnswerLaws.{heard_on_text, net_refused_on_text, image_answered, not_passed}
use Rattle.w4_answers.proofs.NetAnswerLaws.{passed_text, same_netplay}
use Rattle.w4_answers.proofs.net_answers.answer_show.Goals as goal

pub returns-in-Ok-clause-heard : goal.returns-in-Ok-clause-heard
returns-in-Ok-clause-heard g c =
    let old = c.args.replica.now in
    let s = net_session old in
    let text = predicted_image (editing_setup old.editor) s c.args.p in
    let shown = rw c.in-Ok.is at c.show.follows.holds-at-none.0 in
    heard_on_text c.write_bytes.result (g.H.House.world c.args.house.now)
    (g.H.House.world c.write_bytes.new.house) old
    c.show.follows.lender-at-none c.as_slice.result.now (answer_text s (if_passed s c.args.p text))
    (ap (λ (out : Option (List ℕ)). answer_text s out)
    (passed_text old c.args.p text c.in-Ok.ensures.accepted
    ∙ image_answered old c.args.p c.in-Ok.state.now c.requires c.in-Ok.ensures.state
    ∙ ap (λ (out : List ℕ). Some out) (sym c.ppm_into.ensures ∙ sym c.as_slice.ensures)))
    c.write_bytes.ensures.out shown.netplay

pub returns-in-Err-clause-heard : goal.returns-in-Err-clause-heard
returns-in-Err-clause-heard g c =
    let old = c.args.replica.now in
    let s = net_session old in
    let text = predicted_image (editing_setup old.editor) s c.args.p in
    net_refused_on_text c.refuse.result (g.H.House.world c.args.house.now)
    (g.H.House.world c.refuse.new.house) old
    c.show.follows.lender-at-none (refused_line (net_words c.in-Err.refusal))
    (answer_text s (if_passed s c.args.p text))
    c.refuse.ensures.cause
    (λ other. not_passed old c.args.p text c.in-Err.refusal c.in-Err.ensures.refused other)
    (λ other. same_netplay old c.show.follows.lender-at-none
    ((rw c.in-Err.is at c.show.follows.holds-at-none.2) other))
    c.refuse.ensures.out
