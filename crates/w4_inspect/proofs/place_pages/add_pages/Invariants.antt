use Rattle.std.proofs.Common.{◌≡◌, ◌+◌, ◌-◌, map, Some}
use Rattle.std.specs.List.{range_with_len}
use Rattle.w4_defs.specs.AllThere.{all_some}
use Rattle.w4_editor.specs.Editor.{with_session}
use Rattle.w4_inspect.specs.PlacePages.{page_at}
use Rattle.w4_inspect.proofs.place_pages.add_pages.Given as goal

abbrev pub invariant-loop-p : goal.invariant-loop-p
invariant-loop-p g l =
    let e = l.initial.editor in
    (all_some (map (page_at e) (range_with_len l.fn.places.a (l.p + 1 - l.fn.places.a))) ≡ Some l.pages.items)
    × (l.editor ≡ with_session e e.session (Some l.p))
    × (l.steps ≡ l.initial.steps + (l.p - l.fn.places.a))
