use Rattle.std.proofs.Common.{◌≡◌, ◌+◌, ◌-◌, map, Some}
use Rattle.std.specs.List.{range_with_len}
use Rattle.w4_defs.specs.AllThere.{all_some, joined}
use Rattle.w4_editor.specs.Editor.{with_session}
use Rattle.w4_inspect.specs.Watching.{value_at}
use Rattle.w4_inspect.proofs.watching.add_values.Given as goal

abbrev pub invariant-loop-p : goal.invariant-loop-p
invariant-loop-p g l =
    let e = l.initial.editor in
    (joined (Some l.initial.values.items)
    (all_some (map (value_at e l.what.address l.what.width.bytes) (range_with_len (l.fn.places.a + 1)
    (l.p - l.fn.places.a))))
    ≡ Some l.values.items)
    × (l.editor ≡ with_session e e.session (Some l.p))
    × (l.steps ≡ l.initial.steps + (l.p - l.fn.places.a))
