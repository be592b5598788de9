-- Control, parametric and variable instructions, and expressions (Core Specification, section 5.4,
-- with the table index of call_indirect of Core 2.0). Rows stand in the order of their codes; br_table
-- stands with its labels below, and the brackets of lists with the lists.
use Rattle.std.specs.Prelude.{◌≡◌, ℕ, List, [], ◌∷◌, ◌++◌}
use Rattle.w4_defs.specs.declared.operation.Op.{Op}
use Rattle.w4_defs.specs.declared.operation.Op.TheVariants.{Unreachable, Nop, Br, BrIf, BrTable, Return, Call, CallIndirect, Drop, Select, LocalGet, LocalSet, LocalTee, GlobalGet, GlobalSet, Basic}
use Rattle.w4_defs.specs.BinaryText.{Texts, ◌then◌, no_text, provided, byte}
use Rattle.w4_defs.specs.BinaryNumber.{unsigned}
use Rattle.w4_defs.specs.BinaryType.{vector, block_type}
use Rattle.w4_defs.specs.BinaryBasic.{basic}
use Rattle.w4_defs.specs.Tree.{Mark, Expr, done, plain, block, loop, if_then, if_else}

abbrev pub operation : Op → Texts
operation Unreachable = byte 0x00
operation Nop = byte 0x01
operation (Br label) = byte 0x0c then unsigned 32 label
operation (BrIf label) = byte 0x0d then unsigned 32 label
operation Return = byte 0x0f
operation (Call func) = byte 0x10 then unsigned 32 func
operation (CallIndirect signature table) = byte 0x11 then unsigned 32 signature then unsigned 32 table
operation Drop = byte 0x1a
operation Select = byte 0x1b
operation (LocalGet index) = byte 0x20 then unsigned 32 index
operation (LocalSet index) = byte 0x21 then unsigned 32 index
operation (LocalTee index) = byte 0x22 then unsigned 32 index
operation (GlobalGet index) = byte 0x23 then unsigned 32 index
operation (GlobalSet index) = byte 0x24 then unsigned 32 index
operation (Basic i) = basic i
operation _ = no_text

-- the labels of a br_table: a vector, and then the default, which is the last of them
abbrev pub table_labels : List ℕ → Texts
table_labels labels text =
    (others : List ℕ) × (last : ℕ) × (labels ≡ others ++ last ∷ [])
    × (vector (unsigned 32) others then unsigned 32 last) text

-- only a br_table has labels
abbrev pub with_labels : Op → List ℕ → Texts
with_labels BrTable labels = byte 0x0e then table_labels labels
with_labels op labels = provided (labels ≡ []) (operation op)

abbrev pub instruction : Mark → Texts
instruction m = with_labels m.0 m.1

-- a list of instructions, and the byte that closes it
abbrev pub list : ℕ → Expr → Texts
list close done = byte close
list close (plain m rest) = instruction m then list close rest
list close (block r inner rest) = byte 0x02 then block_type r then list 0x0b inner then list close rest
list close (loop r inner rest) = byte 0x03 then block_type r then list 0x0b inner then list close rest
list close (if_then r taken rest) = byte 0x04 then block_type r then list 0x0b taken then list close rest
list close (if_else r taken other rest) =
    byte 0x04 then block_type r then list 0x05 taken then list 0x0b other then list close rest

abbrev pub expression : Expr → Texts
expression e = list 0x0b e
