use Rattle.std.proofs.Common.{arith, sym, ap, Some, length, get_or, ◌∙◌, subst}
use Rattle.std.specs.Prelude.{slice_get}
use Rattle.wasm_tree.specs.Layout.{Placed, StandsAt, laid_from}
use Rattle.wasm_tree.proofs.LayoutLaws.{layout_shown, placed_length, facts}
use Rattle.wasm_tree.proofs.bodies.Bodies.body_start.Goals as goal

pub index-requires : goal.index-requires
index-requires c =
    let fs = c.args.self.now in
    omega (
      arith,
      c.requires,
      c.self.inside.positions.ok,
      ap length (layout_shown _ _ fs c.self.invariant c.self.view_is).2,
      placed_length 0 fs,
    )

pub returns-clause-start : goal.returns-clause-start
returns-clause-start c =
    let fs = c.args.self.now in
    let p = c.index.result.now in
    let same = sym (c.behind-self.view_is ∙ c.index.ensures
    ∙ ap (λ ps. get_or ps c.args.func p) (layout_shown _ _ fs c.self.invariant c.self.view_is).2) in
    (facts fs c.args.func p c.requires).start ∙ ap (λ q. Some q.start) same

pub returns-clause-stands : goal.returns-clause-stands
returns-clause-stands c =
    let fs = c.args.self.now in
    let p = c.index.result.now in
    let same = sym (c.behind-self.view_is ∙ c.index.ensures
    ∙ ap (λ ps. get_or ps c.args.func p) (layout_shown _ _ fs c.self.invariant c.self.view_is).2) in
    subst (λ (q : Placed). StandsAt (laid_from 0 fs) q.start (slice_get fs c.args.func)) same
    (facts fs c.args.func p c.requires).stands
