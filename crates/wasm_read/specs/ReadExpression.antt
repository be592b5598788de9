-- Reading of an expression (Core Specification, section 5.4), without recursion: first its marks, up to the
-- `end` that closes it; then, from the last mark to the first, the positions of the matching else and end.
use Rattle.std.specs.Prelude.{ℕ, zero, suc, ◌+◌, ◌-◌, ◌==◌, Bool, true, false, if◌then◌else◌, List, [], ◌∷◌}
use Rattle.std.specs.Prelude.{◌++◌, length, Option, Some, None}
use Rattle.w4_defs.specs.declared.value.ValType.{ValType}
use Rattle.w4_defs.specs.declared.operation.Op.{Op}
use Rattle.w4_defs.specs.declared.operation.Op.TheVariants.{Block, Loop, If, Else, End, BrTable}
use Rattle.w4_defs.specs.Tree.{Mark, mark, Expr}
use Rattle.w4_defs.specs.Flattening.{read_flat}
use Rattle.w4_defs.specs.Reading.{◌>>=◌}
use Rattle.wasm_read.specs.declared.brackets.Close.{Close}
use Rattle.wasm_read.specs.declared.brackets.Close.TheVariants.{Ends, Parts}
use Rattle.wasm_read.specs.Reader.{Reader}
use Rattle.wasm_read.specs.ReadNumber.{unsigned_at}
use Rattle.wasm_read.specs.Combine.{both_at, mapped_at, headed_at, vector_at}
use Rattle.wasm_read.specs.ReadType.{block_type_at}
use Rattle.wasm_read.specs.ReadOperation.{first_some, operation_at}

-- the positions of the matching else and end come later
abbrev pub block_of : Option ValType → Op
block_of r = Block r 0

abbrev pub loop_of : Option ValType → Op
loop_of r = Loop r 0

abbrev pub if_of : Option ValType → Op
if_of r = If r None 0

-- what opens, parts or ends a list, after its code
abbrev pub bracket_after : ℕ → Reader Op
bracket_after code bs =
    if code == 0x02 then mapped_at block_of block_type_at bs
    else (if code == 0x03 then mapped_at loop_of block_type_at bs
    else (if code == 0x04 then mapped_at if_of block_type_at bs
    else (if code == 0x05 then Some (Else, bs) else (if code == 0x0b then Some (End, bs) else None))))

abbrev pub bracket_at : Reader Op
bracket_at [] = None
bracket_at (code ∷ bs) = bracket_after code bs

-- a mark without labels
unfoldable pub unlabelled_at : Reader Op
unlabelled_at bytes = first_some (operation_at bytes) (bracket_at bytes)

-- the labels of a br_table, the default last
abbrev pub with_last : List ℕ × ℕ → List ℕ
with_last labels = labels.0 ++ labels.1 ∷ []

unfoldable pub table_at : Reader (List ℕ)
table_at = headed_at 0x0e (mapped_at with_last (both_at (vector_at (unsigned_at 32)) (unsigned_at 32)))

abbrev pub table_mark : List ℕ → Mark
table_mark labels = (BrTable, labels)

unfoldable pub mark_at : Reader Mark
mark_at bytes = first_some (mapped_at mark unlabelled_at bytes) (mapped_at table_mark table_at bytes)

-- how many lists are open after a mark
abbrev pub depth_after : Op → ℕ → ℕ
depth_after (Block r end) depth = depth + 1
depth_after (Loop r end) depth = depth + 1
depth_after (If r other end) depth = depth + 1
depth_after End depth = depth - 1
depth_after op depth = depth

-- marks until no list is open, at most so many
abbrev pub marks_at : ℕ → ℕ → Reader (List Mark)
marks_at zero depth bytes = None
marks_at (suc turns) depth bytes =
    mark_at bytes
    >>= λ x. if depth_after x.0.0 depth == 0 then Some (x.0 ∷ [], x.1)
    else (marks_at turns (depth_after x.0.0 depth) x.1 >>= λ y. Some (x.0 ∷ y.0, y.1))

-- the position of the `end` that stands next, where another list is still to be closed after it
abbrev pub ended_by : List Close → Option (ℕ × List Close)
ended_by (Ends position ∷ (c ∷ closes)) = Some (position, c ∷ closes)
ended_by closes = None

-- the position of the `else` that stands next, if one does, and the others
abbrev pub parted_by : List Close → Option ℕ × List Close
parted_by (Parts position ∷ closes) = (Some position, closes)
parted_by closes = (None, closes)

-- a mark with its positions, given the closing marks that stand after it and aren't matched yet
abbrev pub mark_with_positions : ℕ → Op → List Close → Option (Op × List Close)
mark_with_positions at End closes = Some (End, Ends at ∷ closes)
mark_with_positions at Else closes = Some (Else, Parts at ∷ closes)
mark_with_positions at (Block r end) closes = ended_by closes >>= λ c. Some (Block r c.0, c.1)
mark_with_positions at (Loop r end) closes = ended_by closes >>= λ c. Some (Loop r c.0, c.1)
mark_with_positions at (If r other end) closes =
    let parted = parted_by closes in ended_by parted.1 >>= λ c. Some (If r parted.0 c.0, c.1)
mark_with_positions at op [] = None
mark_with_positions at op (c ∷ closes) = Some (op, c ∷ closes)

-- the marks from this position on with their positions, and the closing ones that aren't matched
abbrev pub marks_with_positions : ℕ → List Mark → Option (List Mark × List Close)
marks_with_positions at [] = Some ([], [])
marks_with_positions at (m ∷ ms) =
    marks_with_positions (at + 1) ms >>= λ after. mark_with_positions at m.0 after.1
    >>= λ p. Some ((p.0, m.1) ∷ after.0, p.1)

abbrev pub is_one_end : List Close → Bool
is_one_end (Ends position ∷ []) = true
is_one_end closes = false

-- all lists are closed, the last mark's own apart
abbrev pub matched : List Mark → Option (List Mark)
matched ms = marks_with_positions 0 ms >>= λ f. if is_one_end f.1 then Some f.0 else None

abbrev pub flattening_at : Reader (List Mark)
flattening_at bytes = marks_at (length bytes) 1 bytes >>= λ x. matched x.0 >>= λ ms. Some (ms, x.1)

unfoldable pub expression_at : Reader Expr
expression_at = mapped_at read_flat flattening_at
