use Rattle.std.proofs.Common.{arith, ap, length}
use Rattle.wasm_tree.proofs.LayoutLaws.{layout_shown, placed_length}
use Rattle.wasm_tree.proofs.bodies.Bodies.len.Goals as goal

pub returns : goal.returns
returns c =
    let fs = c.args.self.now in
    omega (
      arith,
      c.len.ensures,
      c.self.inside.positions.ok,
      ap length (layout_shown _ _ fs c.self.invariant c.self.view_is).2,
      placed_length 0 fs,
    )
