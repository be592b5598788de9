use Rattle.std.proofs.Common.{◌≡◌, ◌-◌, IfOk, refl, arith}
use Rattle.std.proofs.lemmas.Iterator.{YieldsList-from_range, items_from_collect}
use Rattle.w4_defs.specs.Search.{addresses}
use Rattle.w4_inspect.proofs.search.addresses.Goals as goal

pub returns-clause-value : goal.returns-clause-value
returns-clause-value c =
    let all = YieldsList-from_range 0 (65537 - c.args.width.bytes) (65537 - c.args.width.bytes) refl (omega
    arith) in
    let addresses_are : IfOk c.collect.result (λ addresses_are. addresses_are.items ≡ addresses
    c.args.width.bytes)
    =
    items_from_collect c.collect.result c.collect.ensures.ran all in
    rw c.in_ok-all.was at addresses_are
