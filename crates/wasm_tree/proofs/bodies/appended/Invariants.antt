use Rattle.std.proofs.Common.{◌≡◌, ◌++◌, map, take}
use Rattle.wasm_tree.specs.Shifting.{shifted_mark}
use Rattle.wasm_tree.proofs.bodies.appended.Given as goal

abbrev pub invariant-loop-position : goal.invariant-loop-position
invariant-loop-position l = l.marks ≡ l.fn.marks ++ map (shifted_mark l.start) (take l.position l.body)
