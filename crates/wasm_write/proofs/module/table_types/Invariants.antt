use Rattle.std.proofs.Common.{◌≡◌, ◌++◌, take}
use Rattle.std.specs.Prelude.{flat_map}
use Rattle.w4_defs.specs.EncodeType.{table_type_bytes}
use Rattle.wasm_write.proofs.module.table_types.Given as goal

abbrev pub invariant-loop-limits : goal.invariant-loop-limits
invariant-loop-limits l = l.out.items ≡ l.initial.out.items
    ++ flat_map table_type_bytes (take l.limits-index l.tables)
