use Rattle.std.proofs.Common.{refl, ◌∙◌, subst, arith}
use Rattle.std.specs.List.{All}
use Rattle.w4_editor.specs.Editor.{Editing}
use Rattle.w4_segments.specs.Worker.{HasCartTypes}
use Rattle.w4_segments.proofs.RoundLaws.{all_before, shown_keeps_same, keeps_both}
use Rattle.w4_segments.proofs.rounds.settle_rounds.Goals as goal

pub loop-init : goal.loop-init
loop-init g c = (
  all_before c.args.editor.now.session.current.kept 0 c.is_consistent.ensures.kept.first_linked
      (λ i lt. absurd (omega (arith, lt))),
  shown_keeps_same c.args.editor.now,
  refl,
  c.requires.types,
  omega arith,
)

pub loop-preserved : goal.loop-preserved
loop-preserved g c =
    let found = c.if-not-branch.false in
    let now = c.loop.editor in
    let before = c.loop.invariant.1 in
    let so_far = c.loop.invariant.4 in
    let counted = c.settle_round.ensures.round in (
      c.in_ok-settle_round.ensures.front found c.loop.counter c.loop-test.true c.loop.invariant.0,
      keeps_both c.args.editor.now now c.settle_round.new.editor before c.settle_round.ensures.keeps,
      c.settle_round.ensures.many ∙ c.loop.invariant.2,
      subst (λ (e : Editing). All (HasCartTypes e.cart) c.settle_round.new.worker_list) before.recording.same
          c.in_ok-settle_round.ensures.types,
      omega (arith, counted, so_far),
    )
