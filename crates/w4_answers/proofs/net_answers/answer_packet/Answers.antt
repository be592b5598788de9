use Rattle.std.proofs.Common.{refl}
use Rattle.w4_defs.specs.Rollback.{packet_refusal}
use Rattle.w4_netplay.specs.Replica.{known_of}
use Rattle.w4_defs.specs.ScriptAnswers.{refused_line}
use Rattle.w4_defs.specs.LogAnswers.{answer_packet, net_words}
use Rattle.w4_answers.specs.NetAnswers.{net_session}
use Rattle.w4_answers.proofs.NetAnswerLaws.{heard_alone, heard_on_text, packet_heard, same_netplay, same_rest}
use Rattle.w4_answers.proofs.net_answers.answer_packet.Goals as goal

pub returns-in-Ok-clause-heard : goal.returns-in-Ok-clause-heard
returns-in-Ok-clause-heard g c =
    let old = c.args.replica.now in
    let new = c.deliver.new.self in
    let found = packet_refusal (known_of old) c.args.packet in
    heard_alone (g.H.House.world c.args.house.now) old new (answer_packet (net_session old) c.args.packet
    found)
    (packet_heard old new c.args.packet found c.in-Ok.ensures.accepted c.in-Ok.ensures.known
    c.in-Ok.ensures.frames c.in-Ok.ensures.editor)
    (same_rest old new c.in-Ok.ensures.editor)

pub returns-in-Err-clause-heard : goal.returns-in-Err-clause-heard
returns-in-Err-clause-heard g c =
    let old = c.args.replica.now in
    let new = c.deliver.new.self in
    heard_on_text c.refuse.result (g.H.House.world c.args.house.now) (g.H.House.world c.refuse.new.house)
    old new
    (refused_line (net_words c.in-Err.refusal))
    (answer_packet (net_session old) c.args.packet (packet_refusal (known_of old) c.args.packet))
    (rw c.in-Err.ensures.refused refl) c.refuse.ensures.out
    (same_netplay old new c.in-Err.ensures.unchanged)
