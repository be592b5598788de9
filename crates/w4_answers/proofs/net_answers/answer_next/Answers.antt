use Rattle.w4_defs.specs.ScriptAnswers.{refused_line}
use Rattle.w4_defs.specs.LogAnswers.{answer_next, net_words}
use Rattle.w4_answers.specs.NetAnswers.{net_session}
use Rattle.w4_answers.proofs.NetAnswerLaws.{frame_passed, full_recording_refused, heard_alone, heard_on_text}
use Rattle.w4_answers.proofs.NetAnswerLaws.{same_netplay, same_rest, same_editor}
use Rattle.w4_answers.proofs.net_answers.answer_next.Goals as goal

pub returns-in-Ok-clause-heard : goal.returns-in-Ok-clause-heard
returns-in-Ok-clause-heard g c =
    let old = c.args.replica.now in
    let new = c.advance.new.self in
    heard_alone (g.H.House.world c.args.house.now) old new (answer_next (net_session old))
    (frame_passed old new c.in-Ok.ensures.accepted c.in-Ok.ensures.ok)
    (same_rest old new (same_editor old new c.in-Ok.ensures.ok))

pub returns-in-Err-clause-heard : goal.returns-in-Err-clause-heard
returns-in-Err-clause-heard g c =
    let old = c.args.replica.now in
    let new = c.advance.new.self in
    heard_on_text c.refuse.result (g.H.House.world c.args.house.now) (g.H.House.world c.refuse.new.house)
    old new
    (refused_line (net_words c.in-Err.refusal)) (answer_next (net_session old))
    (full_recording_refused old c.in-Err.refusal c.in-Err.ensures.refused.0 c.in-Err.ensures.refused.1)
    c.refuse.ensures.out (same_netplay old new c.in-Err.ensures.unchanged)
