use Rattle.std.proofs.Common.{◌≡◌, drop}
use Rattle.w4_defs.specs.Reset.{first_page, with_segments}
use Rattle.w4_console.proofs.page.put_start_page.Given as goal

abbrev pub invariant-loop-i : goal.invariant-loop-i
invariant-loop-i l =
    with_segments l.page (drop l.i l.cart.segments) ≡ with_segments first_page l.cart.segments
