use Rattle.std.proofs.Common.{◌+◌, get_or, arith, ap, sym, ◌∙◌}
use Rattle.std.specs.Prelude.{slice_range, Some}
use Rattle.wasm_tree.proofs.PoolLaws.{pool_shown, length_begins, stretch}
use Rattle.wasm_tree.specs.Pool.{pool_of}
use Rattle.wasm_tree.proofs.marks.Marks.labels.Goals as goal

pub stretch-requires-clause-next : goal.stretch-requires-clause-next
stretch-requires-clause-next c =
    let ms = c.args.self.now in
    let begins = c.deref-2.ensures.value ∙ (pool_shown _ _ _ ms c.self.invariant c.self.view_is).1 in
    omega (arith, c.requires, length_begins _ ms begins)

pub stretch-requires-clause-rises : goal.stretch-requires-clause-rises
stretch-requires-clause-rises c =
    let ms = c.args.self.now in
    let begins = c.deref-2.ensures.value ∙ (pool_shown _ _ _ ms c.self.invariant c.self.view_is).1 in
    rw begins (stretch ms c.args.position 0 0 c.requires).rises

pub stretch-requires-clause-within : goal.stretch-requires-clause-within
stretch-requires-clause-within c =
    let ms = c.args.self.now in
    let begins = c.deref-2.ensures.value ∙ (pool_shown _ _ _ ms c.self.invariant c.self.view_is).1 in
    let pool = c.deref.ensures.value ∙ (pool_shown _ _ _ ms c.self.invariant c.self.view_is).2 in
    rw (begins, pool) (stretch ms c.args.position 0 0 c.requires).within

pub returns : goal.returns
returns c =
    let ms = c.args.self.now in
    let begins = c.deref-2.ensures.value ∙ (pool_shown _ _ _ ms c.self.invariant c.self.view_is).1 in
    let pool = c.deref.ensures.value ∙ (pool_shown _ _ _ ms c.self.invariant c.self.view_is).2 in
    let position = c.args.position in
    (stretch ms position 0 0 c.requires).labels
    ∙ ap Some
    (sym (c.stretch.ensures
    ∙ ap (λ xs. slice_range xs (get_or c.deref-2.result.now position 0)
    (get_or c.deref-2.result.now (position + 1) 0)) pool
    ∙ ap (λ bs. slice_range (pool_of ms) (get_or bs position 0) (get_or bs (position + 1) 0)) begins))
