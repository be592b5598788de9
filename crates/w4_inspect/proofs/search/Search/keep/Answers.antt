use Rattle.std.proofs.Common.{◌+◌, ◌≤◌}
use Rattle.std.proofs.lemmas.List.Elements.{All-filter}
use Rattle.w4_inspect.proofs.search.Search.keep.Goals as goal

pub invariant_of-self : goal.invariant_of-self
invariant_of-self c = rw c.retain.ensures
    (All-filter _ (λ address. address + c.self.inside.width.bytes ≤ 65536) _ c.self.invariant)
