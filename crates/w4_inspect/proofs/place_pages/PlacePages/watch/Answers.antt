use Rattle.std.proofs.Common.{◌+◌, ◌-◌, List, map, ℕ, Some, ap, sym, ◌∙◌}
use Rattle.std.specs.List.{range_with_len}
use Rattle.w4_defs.specs.Bytes.{number_at}
use Rattle.w4_inspect.specs.PlacePages.{page_at, ReadPages}
use Rattle.w4_inspect.proofs.WatchingLaws.{value_of_each}
use Rattle.w4_inspect.proofs.place_pages.PlacePages.watch.Goals as goal

pub returns-clause-values : goal.returns-clause-values
returns-clause-values c = λ e of.
    let read = c.args.self.now in
    let value : List ℕ → ℕ = λ page. number_at page c.args.address c.args.width in
    value_of_each value (page_at e)
    (range_with_len read.first (read.last + 1 - read.first)) read.pages of.are
    ∙ ap (λ (pages : ReadPages). Some (map value pages.pages)) (sym c.self.view_is)
    ∙ ap (λ (pages : List (List ℕ)). Some (map value pages)) (sym c.as_slice.ensures.value)
    ∙ ap Some (sym (simp (c.of-width.ensures) at c.in_ok-values.ensures))
