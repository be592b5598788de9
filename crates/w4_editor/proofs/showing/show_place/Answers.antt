use Rattle.std.proofs.Common.{ℕ, ◌≤◌, ap, subst, arith}
use Rattle.w4_defs.specs.Reset.{Setup}
use Rattle.w4_defs.specs.KeptList.{place_at}
use Rattle.w4_editor.specs.Player.{player_setup}
use Rattle.w4_editor.specs.Showing.{ShowsFrom}
use Rattle.w4_editor.proofs.PlayerLaws.{same_setup}
use Rattle.w4_editor.proofs.ShowingLaws.{last_within, last_below, run_shown}
use Rattle.w4_editor.proofs.showing.show_place.Goals as goal

pub settle-requires-clause-there : goal.settle-requires-clause-there
settle-requires-clause-there g c =
    let within = last_within c.args.p c.args.kept.now c.requires.some in
    let last = c.last_up_to-last.ensures in
    omega (arith, within, last)

pub returns-in_err-settle-clause-linked : goal.returns-in_err-settle-clause-linked
returns-in_err-settle-clause-linked g c all =
    let refused = c.in_err-settle.ensures.linked
    (λ i le. all i (subst (λ (n : ℕ). i ≤ n) c.last_up_to-last.ensures le)) in
    absurd cc

pub run_from_entry-requires-clause-from : goal.run_from_entry-requires-clause-from
run_from_entry-requires-clause-from g c =
    let below = last_below c.args.p c.args.kept.now c.requires.begin in
    let same = c.settle.ensures.places.places c.last_up_to-last.result in
    let there = ap (place_at c.args.kept.now) c.last_up_to-last.ensures in
    omega (arith, below, same, there)

pub returns-clause-state : goal.returns-clause-state
returns-clause-state g c disk is =
    let new = c.settle.new.kept in
    let last = c.last_up_to-last.result in
    let within = last_within c.args.p c.args.kept.now c.requires.some in
    let last_is = c.last_up_to-last.ensures in
    let long = c.settle.ensures.places.many in
    let below = last_below c.args.p c.args.kept.now c.requires.begin in
    let same = c.settle.ensures.places.places last in
    let there = ap (place_at c.args.kept.now) last_is in
    run_shown (player_setup c.args.player.now) disk c.args.inputs.now new last c.args.p
    c.run_from_entry.new.player.state
    (c.settle.ensures.consistent disk is)
    (omega (arith, within, last_is, long)) c.in_ok-settle.ensures.settled.linked
    (omega (arith, below, same, there))
    (subst (λ (s : Setup). ShowsFrom s c.args.inputs.now new last c.args.p c.run_from_entry.new.player.state)
    (same_setup c.args.player.now c.settle.new.player c.settle.ensures.same) c.run_from_entry.ensures.state)
