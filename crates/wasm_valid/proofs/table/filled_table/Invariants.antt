use Rattle.std.proofs.Common.{◌≡◌, drop, length}
use Rattle.w4_defs.specs.Program.{empty_table, fill_table, table_of}
use Rattle.wasm_valid.proofs.table.filled_table.Given as goal

abbrev pub invariant-loop-i : goal.invariant-loop-i
invariant-loop-i l = record {
  rest : fill_table l.table.items (drop l.i l.code.elements) ≡ table_of l.code;
  size : length l.table.items ≡ length (empty_table l.code.tables);
}
