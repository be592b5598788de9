use Rattle.std.proofs.Common.{arith, ap, length}
use Rattle.wasm_tree.proofs.LayoutLaws.{layout_shown, placed_length}
use Rattle.wasm_tree.proofs.bodies.Bodies.runs.Goals as goal

pub index-requires : goal.index-requires
index-requires c =
    let fs = c.args.self.now in
    omega (
      arith,
      c.requires,
      c.self.inside.positions.ok,
      ap length (layout_shown _ _ fs c.self.invariant c.self.view_is).2,
      placed_length 0 fs,
    )
