use Rattle.std.proofs.lemmas.List.Filters.{FiltersInPlace}
use Rattle.w4_defs.specs.Search.{test_holds_at}
use Rattle.w4_inspect.proofs.search.keep_first.Given as goal

abbrev pub invariant-loop-i : goal.invariant-loop-i
invariant-loop-i l =
    FiltersInPlace (test_holds_at l.width.bytes l.test l.page l.last) l.initial.candidates l.candidates
    l.kept l.i
