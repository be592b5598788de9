use Rattle.std.proofs.Common.{ℕ, Option, option_map, ap}
use Rattle.w4_defs.specs.Bytes.{number_at}
use Rattle.w4_editor.specs.Editor.{Editing}
use Rattle.w4_inspect.specs.Watching.{value_at}
use Rattle.w4_inspect.proofs.PlacePageLaws.{same_pages}
use Rattle.w4_inspect.proofs.WatchingLaws.{first_and_more}
use Rattle.w4_inspect.proofs.watching.values.Goals as goal

pub returns-clause-values : goal.returns-clause-values
returns-clause-values g c =
    let old = c.args.editor.now in
    let shown = c.shown_value.new.editor in
    let what = c.args.what in
    let value : Editing → ℕ → Option ℕ = λ e. value_at e what.address what.width.bytes in
    let same = ap (λ pages. λ p. option_map (λ page. number_at page what.address what.width.bytes) (pages p))
    (same_pages old shown c.in_ok-first.ensures.shown.recording) in
    first_and_more (value old) (value shown) c.in_ok-values.values.items c.push.new.self.items
    c.add_values.new.values.items c.in_ok-first.first c.args.places.a c.args.places.b c.args.places.order same
    c.in_ok-values.ensures.items c.in_ok-push.ensures.items c.in_ok-first.ensures.value
    c.in_ok-add_values.ensures.values
