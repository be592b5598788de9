use Rattle.std.proofs.Common.{◌≡◌, refl, subst, arith, None}
use Rattle.w4_defs.specs.declared.editing.EditRefusal.TheVariants as edit
use Rattle.w4_defs.specs.Session.{keep_refusal, places_alone}
use Rattle.w4_defs.specs.declared.net_refusal.NetRefusal.TheVariants.{NoFrame, Kept, FullSnapshots}
use Rattle.w4_netplay.specs.Replica.{Netplay, IsNetRefusal, predicted_draft}
use Rattle.w4_netplay.proofs.ReplicaLaws.{frame_beyond, already, too_many, may_be_kept, refused_for}
use Rattle.w4_netplay.proofs.ReplicaLaws.{netplay_view}
use Rattle.w4_netplay.proofs.replica.Replica.keep_refusal.Goals as goal

pub returns-then-p-self-clause-some : goal.returns-then-p-self-clause-some
returns-then-p-self-clause-some c =
    let p = c.args.p in
    let r = netplay_view c.self.inside.pads c.self.inside.frames c.self.inside.editor in
    subst (λ (r : Netplay). IsNetRefusal (keep_refusal places_alone p (predicted_draft r)) NoFrame)
    c.self.view_is
    (refused_for _ NoFrame edit.NoFrame refl (frame_beyond r p c.if-p-self.true))

pub returns-then-is_kept-clause-some : goal.returns-then-is_kept-clause-some
returns-then-is_kept-clause-some c =
    let p = c.args.p in
    let r = netplay_view c.self.inside.pads c.self.inside.frames c.self.inside.editor in
    subst (λ (r : Netplay). IsNetRefusal (keep_refusal places_alone p (predicted_draft r)) Kept)
    c.self.view_is
    (refused_for _ Kept edit.Kept refl
    (already r p c.if-p-self.false c.is_kept.result c.is_kept.ensures c.if-is_kept.true))

pub returns-then-kept_count-ge-MOST_KEPT-clause-some : goal.returns-then-kept_count-ge-MOST_KEPT-clause-some
returns-then-kept_count-ge-MOST_KEPT-clause-some c =
    let p = c.args.p in
    let r = netplay_view c.self.inside.pads c.self.inside.frames c.self.inside.editor in
    subst (λ (r : Netplay). IsNetRefusal (keep_refusal places_alone p (predicted_draft r)) FullSnapshots)
    c.self.view_is
    (refused_for _ FullSnapshots edit.FullSnapshots refl
    (too_many r p c.if-p-self.false c.is_kept.result c.is_kept.ensures c.if-is_kept.false
    (omega (arith, c.kept_count.ensures, c.if-kept_count-ge-MOST_KEPT.true))))

pub returns-clause-none : goal.returns-clause-none
returns-clause-none c _ =
    let p = c.args.p in
    let r = netplay_view c.self.inside.pads c.self.inside.frames c.self.inside.editor in
    subst (λ (r : Netplay). keep_refusal places_alone p (predicted_draft r) ≡ None) c.self.view_is
    (may_be_kept r p c.if-p-self.false c.is_kept.result c.is_kept.ensures c.if-is_kept.false
    (omega (arith, c.kept_count.ensures, c.if-kept_count-ge-MOST_KEPT.false)))
