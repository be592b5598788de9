use Rattle.std.proofs.Common.{◌≡◌, ◌∙◌, ◌<◌, sym, length, get_or, refl, arith}
use Rattle.std.proofs.lemmas.List.{get_or_default}
use Rattle.std.proofs.lemmas.List.Filters.{FiltersInPlace-more_no, FiltersInPlace-more_set}
use Rattle.w4_defs.specs.Search.{test_holds_at}
use Rattle.w4_inspect.proofs.SearchLaws.{next_is_within}
use Rattle.w4_inspect.proofs.search.keep_first.Goals as goal
use Rattle.w4_inspect.proofs.search.keep_first.Goals.{then-test_holds, else-test_holds}

pub invariant_of-what : goal.invariant_of-what
invariant_of-what c = record {
  within = next_is_within c.args.width.bytes 0 c.loop-i.invariant c.loop-i-test.true c.requires;
}

pub loop-i-preserved : goal.loop-i-preserved
loop-i-preserved c =
    let held : c.test_holds.result ≡ test_holds_at c.args.width.bytes c.args.test c.args.page.now
    c.args.last.now
    (get_or c.loop-i.candidates c.loop-i.i 0) =
    rw (c.test_holds.ensures, c.value_in-new.ensures, c.value_in-old.ensures) refl in
    let address = get_or c.loop-i.candidates c.loop-i.i 0 in
    let there : c.loop-i.i < length c.loop-i.candidates =
    omega (arith, c.loop-i-test.true, c.loop-i.invariant.long) in
    let read = get_or_default c.loop-i.candidates c.loop-i.i 0 address there in
    elim c.if-test_holds.branch [
      | then-test_holds w ↦ rw (w.candidates-is, w.kept-is) (FiltersInPlace-more_set c.loop-i.invariant there
          (sym held ∙ w.if-test_holds.true) read)
      | else-test_holds w ↦ rw (w.candidates-is, w.kept-is) (FiltersInPlace-more_no c.loop-i.invariant there
          (sym held ∙ w.if-test_holds.false) read)
    ]
