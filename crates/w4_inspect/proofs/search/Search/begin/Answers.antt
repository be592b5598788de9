use Rattle.std.proofs.Common.{refl}
use Rattle.w4_defs.specs.Search.{begin}
use Rattle.w4_inspect.proofs.search.Search.begin.Goals as goal

pub returns : goal.returns
unfolding begin
returns c = rw (c.in_ok-copy_of.ensures, c.in_ok-addresses.ensures.value) refl
