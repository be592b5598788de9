use Rattle.std.proofs.Common.{◌≡◌, map, take}
use Rattle.w4_defs.specs.Bytes.{number_at}
use Rattle.w4_inspect.proofs.place_pages.values_in.Given as goal

abbrev pub invariant-loop-page : goal.invariant-loop-page
invariant-loop-page l =
    l.values.items ≡ map (λ page. number_at page l.what.address l.what.width.bytes) (take l.page-index
    l.pages)
