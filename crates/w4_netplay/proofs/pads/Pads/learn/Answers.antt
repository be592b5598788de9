use Rattle.std.proofs.Common.{◌≡◌, ◌<◌, true, length, ◌∙◌, ap, sym, subst, arith, set, List, ℕ, Option, Some}
use Rattle.std.proofs.lemmas.Option.{slice_get-get_or}
use Rattle.w4_defs.specs.Rollback.{is_accepted, learned}
use Rattle.w4_netplay.specs.Pads.{known_in}
use Rattle.w4_netplay.proofs.PadLaws.{learns, in_range}
use Rattle.w4_netplay.proofs.pads.Pads.learn.Goals as goal

pub returns : goal.returns
returns c =
    let frames = c.self.inside.frames.items in
    let packet = c.args.packet.now in
    let accepted = subst (λ (f : List (List (Option ℕ))). is_accepted (known_in f) packet ≡ true)
    (sym c.self.view_is) c.requires in
    let range = in_range (known_in frames) packet accepted in
    let frame_in : packet.frame < length frames = omega (arith, range.1, c.self.invariant) in
    ap (λ pads. known_in (set frames packet.frame pads)) c.put_known.ensures.put
    ∙ learns frames packet c.index_mut.result.now
    (slice_get-get_or frames packet.frame c.index_mut.result.now frame_in
    ∙ ap Some (sym c.index_mut.ensures.value))
    frame_in (omega (arith, range.0, c.put_known.ensures.four)) accepted
    ∙ ap (λ (f : List (List (Option ℕ))). learned (known_in f) packet) c.self.view_is
