use Rattle.std.proofs.Common.{◌+◌, Some, arith}
use Rattle.w4_inspect.specs.Watching.{value_at}
use Rattle.w4_inspect.proofs.PlacePageLaws.{moved_on, moved_value}
use Rattle.w4_inspect.proofs.WatchingLaws.{one_more_value}
use Rattle.w4_inspect.proofs.watching.add_values.Goals as goal

pub loop-p-preserved : goal.loop-p-preserved
loop-p-preserved g c =
    let e = c.args.editor.now in
    let what = c.args.what in
    let p = c.loop-p.p in
    let next = c.next_value-value in
    let so_far = c.loop-p.invariant in (
      one_more_value (value_at e what.address what.width.bytes) c.args.values.now.items c.loop-p.values.items
          c.push.new.self.items next.result c.args.places.a p c.loop-p.auto.p so_far.0
          c.in_ok-push.ensures.items
          (moved_value e c.loop-p.editor (Some p) next.result what.address what.width.bytes (p + 1) so_far.1
          next.ensures.value),
      moved_on e c.loop-p.editor next.new.editor (Some p) (Some (p + 1)) so_far.1 next.ensures.same,
      omega (arith, next.ensures.ticks, so_far.2, c.loop-p.auto.p),
    )
