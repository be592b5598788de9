use Rattle.std.proofs.Common.{◌+◌, ◌-◌, ◌≡◌, map, Some, ap, ◌∙◌, arith}
use Rattle.std.specs.List.{range_with_len}
use Rattle.w4_defs.specs.AllThere.{all_some}
use Rattle.w4_editor.specs.Editor.{with_session}
use Rattle.w4_inspect.specs.PlacePages.{page_at}
use Rattle.w4_inspect.proofs.PlacePageLaws.{moved_on, moved_page}
use Rattle.w4_inspect.proofs.WatchingLaws.{one_more_page}
use Rattle.w4_inspect.proofs.place_pages.add_pages.Goals as goal

pub loop-p-init : goal.loop-p-init
loop-p-init g c =
    let e = c.args.editor.now in
    let a = c.args.places.a in
    let count : a + 1 - a ≡ 1 = omega arith in (
      ap (λ n. all_some (map (page_at e) (range_with_len a n))) count ∙ c.requires.first,
      ap (λ at. with_session e e.session at) c.requires.at,
      omega arith,
    )

pub loop-p-preserved : goal.loop-p-preserved
loop-p-preserved g c =
    let e = c.args.editor.now in
    let p = c.loop-p.p in
    let next = c.next_page in
    let so_far = c.loop-p.invariant in (
      one_more_page (page_at e) c.loop-p.pages.items c.push.new.self.items c.in_ok-page.page c.args.places.a p
          c.loop-p.auto.p so_far.0 c.in_ok-push.ensures.items
          (moved_page e c.loop-p.editor (Some p) c.in_ok-page.page (p + 1) so_far.1
          c.in_ok-page.ensures.page),
      moved_on e c.loop-p.editor next.new.editor (Some p) (Some (p + 1)) so_far.1 c.in_ok-page.ensures.same,
      omega (arith, c.in_ok-page.ensures.ticks, so_far.2, c.loop-p.auto.p),
    )
