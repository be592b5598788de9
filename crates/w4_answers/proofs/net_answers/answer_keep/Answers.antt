use Rattle.w4_defs.specs.Session.{keep_refusal, places_alone}
use Rattle.w4_netplay.specs.Replica.{predicted_draft}
use Rattle.w4_defs.specs.ScriptAnswers.{refused_line}
use Rattle.w4_defs.specs.LogAnswers.{answer_keep, net_words}
use Rattle.w4_answers.specs.NetAnswers.{net_session}
use Rattle.w4_answers.proofs.NetAnswerLaws.{heard_alone, net_refused_on_text, keep_refused, place_kept}
use Rattle.w4_answers.proofs.NetAnswerLaws.{rest_kept, same_netplay}
use Rattle.w4_answers.proofs.net_answers.answer_keep.Goals as goal

pub returns-in-Ok-clause-heard : goal.returns-in-Ok-clause-heard
returns-in-Ok-clause-heard g c =
    let old = c.args.replica.now in
    let new = c.keep.new.self in
    let ok = c.in-Ok.ensures.ok in
    let found = keep_refusal places_alone c.args.p (predicted_draft old) in
    heard_alone (g.H.House.world c.args.house.now) old new (answer_keep (net_session old) c.args.p found)
    (place_kept old new c.args.p found c.in-Ok.ensures.accepted ok.pads ok.frames ok.kept)
    (rest_kept c.args.p c.args.steps.now c.keep.new.steps old new ok)

pub returns-in-Err-clause-heard : goal.returns-in-Err-clause-heard
returns-in-Err-clause-heard g c =
    let old = c.args.replica.now in
    let new = c.keep.new.self in
    let found = keep_refusal places_alone c.args.p (predicted_draft old) in
    net_refused_on_text c.refuse.result (g.H.House.world c.args.house.now)
    (g.H.House.world c.refuse.new.house)
    old new
    (refused_line (net_words c.in-Err.refusal)) (answer_keep (net_session old) c.args.p found)
    c.refuse.ensures.cause
    (λ other. keep_refused old c.args.p found c.in-Err.refusal c.in-Err.ensures.refused other)
    (λ other. same_netplay old new (c.in-Err.ensures.unchanged other)) c.refuse.ensures.out
