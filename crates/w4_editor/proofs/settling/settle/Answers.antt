use Rattle.std.proofs.Common.{◌≡◌, ◌+◌, ◌∙◌, ap, sym, subst, arith, refl}
use Rattle.w4_defs.specs.Reset.{Setup}
use Rattle.w4_defs.specs.KeptList.{Entry, IsConsistent, IsSettled, linked_at}
use Rattle.w4_editor.specs.Player.{player_setup}
use Rattle.w4_editor.specs.Settling.{IsComputed}
use Rattle.w4_editor.proofs.PlayerLaws.{same_setup, still_in_state}
use Rattle.w4_editor.proofs.SettlingLaws.{progress_none, progress_on, progress_more}
use Rattle.w4_editor.proofs.ShowingLaws.{progress_consistent}
use Rattle.w4_editor.proofs.settling.settle.Goals.{then-not-linked+in_ok-settle_one, else-not-linked}
use Rattle.w4_editor.proofs.settling.settle.Goals as goal

pub loop-i-init : goal.loop-i-init
loop-i-init g c = (
  progress_none (player_setup c.args.player.now) c.args.inputs.now c.args.last c.args.kept.now
      c.args.steps.now c.requires.kept c.requires.first,
  refl,
)

pub returns-in_err-settle_one-clause-consistent : goal.returns-in_err-settle_one-clause-consistent
returns-in_err-settle_one-clause-consistent g c disk is =
    subst (IsConsistent (player_setup c.args.player.now) disk c.args.inputs.now)
    (sym c.in_err-settle_one.ensures.err)
    (progress_consistent _ _ _ _ _ _ _ _ c.loop-i.invariant.0 disk is)

pub loop-i-preserved : goal.loop-i-preserved
loop-i-preserved g c =
    let setup = player_setup c.args.player.now in
    let now = c.loop-i.kept in
    let i = c.loop-i.i in
    let so_far = c.loop-i.invariant.0 in
    let same = c.loop-i.invariant.1 in
    let seen : c.linked.result ≡ linked_at now (i + 1) =
    c.linked.ensures ∙ ap (λ (e : Entry). e.linked) c.entry_at.ensures in
    elim c.if-not-linked.branch [
      | then-not-linked+in_ok-settle_one w ↦
          let computed = subst (λ (s : Setup). IsComputed s c.args.inputs.now i now w.settle_one.new.kept)
          (same_setup c.args.player.now c.loop-i.player same) w.in_ok-settle_one.ensures.ok in
          let long = so_far.settled.same.many in
          let below = c.loop-i-test.true in
          let few = c.requires.there in
          rw (w.player-is, w.kept-is, w.steps-is) (
            progress_more setup c.args.inputs.now c.args.last c.args.kept.now now i c.args.steps.now
                c.loop-i.steps
                so_far w.settle_one.new.kept w.settle_one.new.steps (omega (arith, long, below, few))
                (sym seen ∙ w.if-not-linked.true) computed w.settle_one.ensures.ticks (omega (arith, below)),
            still_in_state c.args.player.now c.loop-i.player w.settle_one.new.player same
                w.settle_one.ensures.same,
          )
      | else-not-linked w ↦ rw (w.player-is, w.kept-is, w.steps-is) (
        progress_on setup c.args.inputs.now c.args.last c.args.kept.now now i c.args.steps.now c.loop-i.steps
            so_far (sym seen ∙ w.if-not-linked.false),
        same,
      )
    ]

pub returns-clause-settled : goal.returns-clause-settled
returns-clause-settled g c =
    let past = c.loop-i-test.false in
    let within = c.loop-i.auto.i-end in
    subst (λ n. IsSettled n c.args.kept.now c.loop-i.kept)
    (omega (arith, past, within)) c.loop-i.invariant.0.settled
