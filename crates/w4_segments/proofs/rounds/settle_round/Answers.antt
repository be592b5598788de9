use Rattle.std.proofs.Common.{sym, subst, arith}
use Rattle.std.specs.List.{All}
use Rattle.w4_console.specs.Calls.{setup_of}
use Rattle.w4_defs.specs.Recording.{Recording}
use Rattle.w4_defs.specs.Reset.{Setup}
use Rattle.w4_segments.specs.Rounds.{CanPlay, HasPlayed}
use Rattle.w4_segments.specs.Worker.{EachDid}
use Rattle.w4_segments.proofs.RoundLaws.{all_before, idle_linked, dealt_can_play, dealt_computed}
use Rattle.w4_segments.proofs.RoundLaws.{front_lengthens}
use Rattle.w4_segments.proofs.rounds.settle_round.Goals as goal

pub returns-then-is_idle-clause-none : goal.returns-then-is_idle-clause-none
returns-then-is_idle-clause-none g c _ =
    let e = c.args.editor.now in
    let many = c.deal_segments.ensures.many in
    let some = c.requires.some in
    all_before e.session.current.kept c.args.last c.is_consistent.ensures.kept.first_linked
    (idle_linked e c.args.last c.args.worker_list.now c.deal_segments.new.worker_list c.deal_segments.ensures
    (omega (arith, many, some))
    (c.is_idle.ensures.idle c.if-is_idle.true))

pub play_all-requires-after_bounds : goal.play_all-requires-after_bounds
play_all-requires-after_bounds g c κs within =
    let e = c.args.editor.now in
    let dealt = c.deal_segments.new.worker_list in
    subst (λ (s : Setup). All (CanPlay s.cart c.recording.result.now.frames) dealt) (sym c.setup.ensures)
    (subst (λ (r : Recording). All (CanPlay e.cart r.frames) dealt) (sym c.recording.ensures)
    (dealt_can_play e.disk e c.args.last c.args.worker_list.now dealt c.is_consistent.ensures
    c.requires.there c.deal_segments.ensures))

pub take_all-requires-clause-played : goal.take_all-requires-clause-played
take_all-requires-clause-played g c =
    let e = c.args.editor.now in
    let dealt = c.deal_segments.new.worker_list in
    let played = c.play_all.new.worker_list in
    dealt_computed e c.args.last c.args.worker_list.now dealt played c.deal_segments.ensures
    (subst (λ (s : Setup). EachDid (HasPlayed s e.session.current.inputs) dealt played) c.setup.ensures
    (subst (λ (r : Recording). EachDid (HasPlayed (setup_of c.setup.result) r.frames) dealt played)
    c.recording.ensures c.play_all.ensures))

pub returns-clause-front : goal.returns-clause-front
returns-clause-front g c _ m lt linked =
    let e = c.args.editor.now in
    let many = c.deal_segments.ensures.many in
    let some = c.requires.some in
    let first = c.is_idle.ensures.busy c.if-is_idle.false in
    front_lengthens (setup_of c.setup.result) c.recording.result.now.frames e c.args.last
    c.args.worker_list.now c.deal_segments.new.worker_list c.play_all.new.worker_list c.take_all.new.editor
    c.deal_segments.ensures
    c.play_all.ensures
    c.in_ok-take_all.ensures.front
    (omega (arith, many, some)) first.0 first.1
    c.is_consistent.ensures.kept.first_linked m linked
