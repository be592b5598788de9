-- What is neither a constant nor of floats is encoded by its row.
use Rattle.std.proofs.Common.{◌∙◌, ℕ, ap}
use Rattle.w4_defs.specs.declared.instruction_table.Row.{Row}
use Rattle.w4_defs.specs.EncodeInstruction.{shaped_bytes}
use Rattle.wasm_write.proofs.ShapeLaws.{shape_encodes}
use Rattle.wasm_write.proofs.instruction_table.basic_encoding.Goals as goal

pub returns-in_default : goal.returns-in_default
returns-in_default c = record {
  bytes = c.shaped_encoding.ensures.bytes
      ∙ ap (λ (x : ℕ × Row). shaped_bytes x.0 x.1) c.table_row-code.ensures
      ∙ shape_encodes c.args.basic c.in_default.not-F32Const c.in_default.not-F64Const
      c.in_default.not-FloatMemory c.in_default.not-FloatPlain c.in_default.not-FloatCut;
  lists = c.shaped_encoding.ensures.lists;
}
