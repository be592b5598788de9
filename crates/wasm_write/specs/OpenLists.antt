-- Lists of instructions that are still to be written, each up to the byte that closes it; the last of them is
-- the innermost.
use Rattle.std.specs.Prelude.{ℕ, List, [], ◌∷◌, ◌++◌}
use Rattle.w4_defs.specs.View.{expression_of}
use Rattle.wasm_write.specs.declared.expression.OpenList.{OpenList}
use Rattle.w4_defs.specs.EncodeInstruction.{list_bytes}

abbrev pub open_bytes : List OpenList → List ℕ
open_bytes [] = []
open_bytes (o ∷ os) = open_bytes os ++ list_bytes o.close (expression_of o.rest.now)
