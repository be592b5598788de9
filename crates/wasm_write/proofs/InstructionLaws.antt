-- The bytes of instructions and of lists of them encode them.
use Rattle.std.proofs.Common.{◌≡◌, ℕ, ◌-◌, ◌^◌, ◌<◌, ◌≤◌, List, [], ◌∷◌, ◌++◌, length, Option, Some, None}
use Rattle.std.proofs.Common.{refl, ap, sym, subst, ◌∙◌, append_assoc, append-nil, length-append, arith}
use Rattle.std.specs.Prelude.{flat_map, All}
use Rattle.std.specs.List.{AllByRecursion}
use Rattle.std.proofs.lemmas.List.Elements.{All-from_recursion, recursion_from_All}
use Rattle.std.proofs.lemmas.Grind.{flat_map-append}
use Rattle.w4_defs.specs.declared.value.ValType.{ValType}
use Rattle.w4_defs.specs.declared.value.ValType.TheVariants.{I32, I64, F32, F64}
use Rattle.w4_defs.specs.declared.operation.Op.{Op}
use Rattle.w4_defs.specs.declared.operation.Op.TheVariants.{BrTable}
use Rattle.w4_defs.specs.BinaryText.{◌then◌, byte}
use Rattle.w4_defs.specs.BinaryNumber.{unsigned}
use Rattle.w4_defs.specs.BinaryType.{vector, value_type, block_type}
use Rattle.w4_defs.specs.BinaryInstruction.{table_labels, with_labels, instruction, list, expression}
use Rattle.w4_defs.specs.Tree.{Expr, done, plain, block, loop, if_then, if_else}
use Rattle.w4_defs.specs.EncodeNumber.{unsigned_bytes}
use Rattle.w4_defs.specs.EncodeType.{vector_bytes, value_type_bytes, block_type_code}
use Rattle.w4_defs.specs.EncodeInstruction.{labels_bytes, labelled_bytes, instruction_bytes, list_bytes}
use Rattle.w4_defs.specs.EncodeInstruction.{expression_bytes}
use Rattle.wasm_write.specs.Fits.{IndexFits, LabelledFits, ExpressionFits}
use Rattle.wasm_write.proofs.NumberLaws.{unsigned_encodes}
use Rattle.wasm_write.proofs.CombineLaws.{two_in_turn, after_byte, vector_encodes}
use Rattle.wasm_write.proofs.OperationLaws.{operation_encodes}

-- ---- the labels of a br_table

split_last : (xs : List ℕ) → 0 < length xs → (ys : List ℕ) × (y : ℕ) × (xs ≡ ys ++ y ∷ [])
split_last [] h = absurd (omega arith)
split_last (x ∷ []) h = ([], x, refl)
split_last (x ∷ y ∷ ys) h =
    let s = split_last (y ∷ ys) (omega arith) in
    (x ∷ s.0, s.1, ap (λ zs. x ∷ zs) s.2)

front_and_last : (P : ℕ → Type 0) (xs : List ℕ) (y : ℕ) → AllByRecursion P (xs ++ y ∷ [])
    → AllByRecursion P xs × P y
front_and_last P [] y h = (tt, h.0)
front_and_last P (x ∷ xs) y h =
    let s = front_and_last P xs y h.1 in
    ((h.0, s.0), s.1)

labels_in_parts : (others : List ℕ) (last : ℕ)
    → labels_bytes (others ++ last ∷ []) ≡ vector_bytes unsigned_bytes others ++ unsigned_bytes last
labels_in_parts others last =
    let count : length (others ++ last ∷ []) - 1 ≡ length others =
    omega (arith, length-append others (last ∷ [])) in
    ap (λ n. unsigned_bytes n ++ flat_map unsigned_bytes (others ++ last ∷ [])) count
    ∙ ap (λ t. unsigned_bytes (length others) ++ t)
    (flat_map-append unsigned_bytes others (last ∷ [])
    ∙ ap (λ t. flat_map unsigned_bytes others ++ t) (append-nil (unsigned_bytes last)))
    ∙ sym (append_assoc (unsigned_bytes (length others)) (flat_map unsigned_bytes others)
    (unsigned_bytes last))

labels_encode : (labels : List ℕ) → 0 < length labels → length labels ≤ 2 ^ 32 → All IndexFits labels
    → table_labels labels (labels_bytes labels)
labels_encode labels some few all =
    let s = split_last labels some in
    let Fit : List ℕ → Type 0 = λ xs. AllByRecursion IndexFits xs in
    let f = front_and_last IndexFits s.0 s.1 (subst Fit s.2 (recursion_from_All IndexFits labels all)) in
    let count : length s.0 < 2 ^ 32 = omega (arith, ap length s.2, length-append s.0 (s.1 ∷ [])) in
    let others : vector (unsigned 32) s.0 (vector_bytes unsigned_bytes s.0) =
    vector_encodes (unsigned 32) unsigned_bytes IndexFits (unsigned_encodes 32) s.0
    (count, All-from_recursion IndexFits s.0 f.0) in
    let parts : (vector (unsigned 32) s.0 then unsigned 32 s.1)
    (vector_bytes unsigned_bytes s.0 ++ unsigned_bytes s.1) =
    two_in_turn (vector (unsigned 32) s.0) (unsigned 32 s.1) (vector_bytes unsigned_bytes s.0)
    (unsigned_bytes s.1) others (unsigned_encodes 32 s.1 f.1) in
    let Text : List ℕ → Type 0 = λ t. (vector (unsigned 32) s.0 then unsigned 32 s.1) t in
    (s.0, s.1, s.2, subst Text (sym (ap labels_bytes s.2 ∙ labels_in_parts s.0 s.1)) parts)

-- ---- instructions

labelled_encodes : (op : Op) (labels : List ℕ) → LabelledFits op labels
    → with_labels op labels (labelled_bytes op labels)
labelled_encodes BrTable labels h =
    after_byte 0x0e (table_labels labels) (labels_bytes labels) (labels_encode labels h.0 h.1 h.2)
labelled_encodes op labels h = (h.0, operation_encodes op h.1)

pub value_type_encodes : (t : ValType) → value_type t (value_type_bytes t)
value_type_encodes I32 = refl
value_type_encodes I64 = refl
value_type_encodes F32 = refl
value_type_encodes F64 = refl

block_type_encodes : (r : Option ValType) → block_type r (block_type_code r ∷ [])
block_type_encodes None = refl
block_type_encodes (Some t) = value_type_encodes t

-- ---- lists

after_head : (close code : ℕ) (r : Option ValType) (inner rest : Expr)
    → list 0x0b inner (list_bytes 0x0b inner) → list close rest (list_bytes close rest)
    → (byte code then block_type r then list 0x0b inner then list close rest)
    (code ∷ block_type_code r ∷ (list_bytes 0x0b inner ++ list_bytes close rest))
after_head close code r inner rest p q =
    after_byte
    code
    (block_type r then list 0x0b inner then list close rest)
    (block_type_code r ∷ (list_bytes 0x0b inner ++ list_bytes close rest))
    (two_in_turn
    (block_type r)
    (list 0x0b inner then list close rest)
    (block_type_code r ∷ [])
    (list_bytes 0x0b inner ++ list_bytes close rest)
    (block_type_encodes r)
    (two_in_turn (list 0x0b inner) (list close rest) (list_bytes 0x0b inner) (list_bytes close rest) p q))

list_encodes : (close : ℕ) (e : Expr) → ExpressionFits e → list close e (list_bytes close e)
unfolding list_bytes
list_encodes close done h = refl
list_encodes close (plain m rest) h =
    two_in_turn (instruction m) (list close rest) (instruction_bytes m) (list_bytes close rest)
    (labelled_encodes m.0 m.1 h.0) (list_encodes close rest h.1)
list_encodes close (block r inner rest) h =
    after_head close 0x02 r inner rest (list_encodes 0x0b inner h.0) (list_encodes close rest h.1)
list_encodes close (loop r inner rest) h =
    after_head close 0x03 r inner rest (list_encodes 0x0b inner h.0) (list_encodes close rest h.1)
list_encodes close (if_then r taken rest) h =
    after_head close 0x04 r taken rest (list_encodes 0x0b taken h.0) (list_encodes close rest h.1)
list_encodes close (if_else r taken other rest) h =
    after_byte
    0x04
    (block_type r then list 0x05 taken then list 0x0b other then list close rest)
    _
    (two_in_turn
    (block_type r)
    (list 0x05 taken then list 0x0b other then list close rest)
    (block_type_code r ∷ [])
    _
    (block_type_encodes r)
    (two_in_turn
    (list 0x05 taken)
    (list 0x0b other then list close rest)
    (list_bytes 0x05 taken)
    _
    (list_encodes 0x05 taken h.0)
    (two_in_turn (list 0x0b other) (list close rest) (list_bytes 0x0b other) (list_bytes close rest)
    (list_encodes 0x0b other h.1.0) (list_encodes close rest h.1.1))))

pub expression_encodes : (e : Expr) → ExpressionFits e → expression e (expression_bytes e)
expression_encodes e h = list_encodes 0x0b e h
