-- A mark of a flattening is read exactly, but for the positions, which are 0 at first.
use Rattle.std.proofs.Common.{◌≡◌, ℕ, ◌≤◌, eqb, if◌then◌else◌, ◌⊎◌, inl, inr, List, [], ◌∷◌, ◌++◌, length}
use Rattle.std.proofs.Common.{Option, Some, None, refl, ap, sym, ◌∙◌, arith}
use Rattle.std.proofs.lemmas.Bool.{eqb-true}
use Rattle.std.proofs.lemmas.List.{length-append}
use Rattle.w4_defs.specs.declared.value.ValType.{ValType}
use Rattle.w4_defs.specs.declared.operation.Op.{Op}
use Rattle.w4_defs.specs.declared.operation.Op.TheVariants.{Block, Loop, If, Else, End, BrTable}
use Rattle.w4_defs.specs.BinaryText.{Texts, ◌then◌, provided, byte, items}
use Rattle.w4_defs.specs.BinaryNumber.{unsigned}
use Rattle.w4_defs.specs.BinaryType.{vector, block_type}
use Rattle.w4_defs.specs.BinaryInstruction.{operation, table_labels, with_labels}
use Rattle.w4_defs.specs.Tree.{Mark, mark}
use Rattle.w4_defs.specs.Flattening.{IsLeaf}
use Rattle.w4_defs.proofs.OptionLaws.{bind_some, held_if}
use Rattle.wasm_read.specs.Reader.{read_as, Takes, Reads}
use Rattle.wasm_read.specs.ReadNumber.{unsigned_at}
use Rattle.wasm_read.specs.Combine.{both_at, mapped_at, vector_at}
use Rattle.wasm_read.specs.ReadType.{block_type_at}
use Rattle.wasm_read.specs.ReadOperation.{first_some, operation_at}
use Rattle.wasm_read.specs.ReadExpression.{block_of, loop_of, if_of, bracket_at, unlabelled_at, with_last}
use Rattle.wasm_read.specs.ReadExpression.{table_at, table_mark, mark_at}
use Rattle.wasm_read.proofs.Basics.{split_if, takes_as_read}
use Rattle.wasm_read.proofs.NumberLaws.{unsigned_reads}
use Rattle.wasm_read.proofs.CombineLaws.{both_reads, vector_reads}
use Rattle.wasm_read.proofs.TypeLaws.{block_type_reads}
use Rattle.wasm_read.proofs.OperationLaws.{operation_reads}

-- the texts of a mark
abbrev pub mark_texts : Op → List ℕ → Texts
mark_texts (Block r end) labels = provided ((labels ≡ []) × (end ≡ 0)) (byte 0x02 then block_type r)
mark_texts (Loop r end) labels = provided ((labels ≡ []) × (end ≡ 0)) (byte 0x03 then block_type r)
mark_texts (If r other end) labels =
    provided ((labels ≡ []) × (other ≡ None) × (end ≡ 0)) (byte 0x04 then block_type r)
mark_texts Else labels = provided (labels ≡ []) (byte 0x05)
mark_texts End labels = provided (labels ≡ []) (byte 0x0b)
mark_texts op labels = with_labels op labels

abbrev pub mark_encoding : Mark → Texts
mark_encoding m = mark_texts m.0 m.1

first_cases : {A : Type 0} (o other : Option A) (x : A) → first_some o other ≡ Some x → (o ≡ Some x)
    ⊎ ((o ≡ None) × (other ≡ Some x))
first_cases (Some y) other x e = inl e
first_cases None other x e = inr (refl, e)

operation_mark : (op : Op) (text : List ℕ) → operation op text → mark_texts op [] text
operation_mark (Block r end) text h = absurd h
operation_mark (Loop r end) text h = absurd h
operation_mark (If r other end) text h = absurd h
operation_mark Else text h = absurd h
operation_mark End text h = absurd h
operation_mark BrTable text h = absurd h
operation_mark op text h = (refl, h)

pub instruction_mark : (op : Op) (labels text : List ℕ) → with_labels op labels text
    → mark_texts op labels text
instruction_mark (Block r end) labels text h = absurd h.1
instruction_mark (Loop r end) labels text h = absurd h.1
instruction_mark (If r other end) labels text h = absurd h.1
instruction_mark Else labels text h = absurd h.1
instruction_mark End labels text h = absurd h.1
instruction_mark op labels text h = h

pub instruction_leaf : (op : Op) (labels text : List ℕ) → with_labels op labels text → IsLeaf op
instruction_leaf (Block r end) labels text h = absurd h.1
instruction_leaf (Loop r end) labels text h = absurd h.1
instruction_leaf (If r other end) labels text h = absurd h.1
instruction_leaf Else labels text h = absurd h.1
instruction_leaf End labels text h = absurd h.1
instruction_leaf op labels text h = tt

-- texts of a mark without labels
abbrev Unlabelled : Op → Texts
Unlabelled op text = mark_texts op [] text

opener_sound : (f : Option ValType → Op) (code : ℕ)
    → ((r : Option ValType) (text : List ℕ) → block_type r text → Unlabelled (f r) (code ∷ text))
    → (b : ℕ) (bs : List ℕ) (op : Op) (rest : List ℕ) → b ≡ code
    → mapped_at f block_type_at bs ≡ Some (op, rest) → Takes Unlabelled (b ∷ bs) op rest
opener_sound f code spelled b bs op rest same e =
    let s = bind_some (block_type_at bs) (λ (r : Option ValType × List ℕ). read_as (f r.0) r.1) (op, rest) e
    in
    let t = block_type_reads.sound bs s.0.0 s.0.1 s.1 in
    takes_as_read Unlabelled (b ∷ bs) (f s.0.0) op s.0.1 rest
    (code ∷ t.0, ap (λ k. k ∷ bs) same ∙ ap (λ xs. code ∷ xs) t.1, spelled s.0.0 t.0 t.2) s.2

byte_sound : (x : Op) (code : ℕ) → Unlabelled x (code ∷ []) → (b : ℕ) (bs : List ℕ) (op : Op) (rest : List ℕ)
    → b ≡ code → read_as x bs ≡ Some (op, rest) → Takes Unlabelled (b ∷ bs) op rest
byte_sound x code h b bs op rest same e =
    takes_as_read Unlabelled (b ∷ bs) x op bs rest (code ∷ [], ap (λ k. k ∷ bs) same, h) e

bracket_sound : (bytes : List ℕ) (op : Op) (rest : List ℕ) → bracket_at bytes ≡ Some (op, rest)
    → Takes Unlabelled bytes op rest
bracket_sound [] op rest e = absurd cc
bracket_sound (b ∷ bs) op rest e =
    let fourth : Option (Op × List ℕ) = if eqb b 0x0b then read_as End bs else None in
    let third : Option (Op × List ℕ) = if eqb b 0x05 then read_as Else bs else fourth in
    let second : Option (Op × List ℕ) = if eqb b 0x04 then mapped_at if_of block_type_at bs else third in
    let first : Option (Op × List ℕ) = if eqb b 0x03 then mapped_at loop_of block_type_at bs else second in
    elim (split_if (eqb b 0x02) (mapped_at block_of block_type_at bs) first (read_as op rest) e) [
      | inl h ↦ opener_sound block_of 0x02 (λ r text p. ((refl, refl), (0x02 ∷ [], text, refl, refl, p))) b
          bs op rest (eqb-true b 0x02 h.0) h.1
      | inr h ↦ elim (split_if (eqb b 0x03) (mapped_at loop_of block_type_at bs) second (read_as op rest)
          h.1) [
            | inl k ↦ opener_sound loop_of 0x03
                (λ r text p. ((refl, refl), (0x03 ∷ [], text, refl, refl, p))) b
                bs op rest (eqb-true b 0x03 k.0) k.1
            | inr k ↦ elim (split_if (eqb b 0x04) (mapped_at if_of block_type_at bs) third (read_as op rest)
                k.1) [
                  | inl m ↦ opener_sound if_of 0x04
                      (λ r text p. ((refl, refl, refl), (0x04 ∷ [], text, refl, refl, p))) b bs op rest
                      (eqb-true b 0x04 m.0) m.1
                  | inr m ↦ elim (split_if (eqb b 0x05) (read_as Else bs) fourth (read_as op rest) m.1) [
                    | inl p ↦ byte_sound Else 0x05 (refl, refl) b bs op rest (eqb-true b 0x05 p.0) p.1
                    | inr p ↦
                        let i = held_if (eqb b 0x0b) (read_as End bs) (op, rest) p.1 in
                        byte_sound End 0x0b (refl, refl) b bs op rest (eqb-true b 0x0b i.0) i.1
                  ]
                ]
          ]
    ]

unlabelled_sound : (bytes : List ℕ) (op : Op) (rest : List ℕ) → unlabelled_at bytes ≡ Some (op, rest)
    → Takes Unlabelled bytes op rest
unfolding unlabelled_at
unlabelled_sound bytes op rest e =
    elim (first_cases (operation_at bytes) (bracket_at bytes) (op, rest) e) [
      | inl h ↦
          let t = operation_reads.sound bytes op rest h in
          (t.0, t.1, operation_mark op t.0 t.2)
      | inr h ↦ bracket_sound bytes op rest h.1
    ]

labels_reads : Reads (λ (x : List ℕ × ℕ). vector (unsigned 32) x.0 then unsigned 32 x.1)
    (both_at (vector_at (unsigned_at 32)) (unsigned_at 32))
labels_reads = both_reads (vector (unsigned 32)) (unsigned 32) (vector_at (unsigned_at 32)) (unsigned_at 32)
    (vector_reads (unsigned 32) (unsigned_at 32) (unsigned_reads 32)) (unsigned_reads 32)

-- a br_table whose labels these bytes encode
table_taken : (b : ℕ) (bs : List ℕ) (x : List ℕ × ℕ) (after labels rest : List ℕ) → b ≡ 0x0e
    → Takes (λ (y : List ℕ × ℕ). vector (unsigned 32) y.0 then unsigned 32 y.1) bs x after
    → read_as (with_last x) after ≡ Some (labels, rest)
    → Takes (λ ls. mark_texts BrTable ls) (b ∷ bs) labels rest
table_taken b bs x after labels rest same t e =
    takes_as_read (λ ls. mark_texts BrTable ls) (b ∷ bs) (with_last x) labels after rest (
      0x0e ∷ t.0,
      ap (λ k. k ∷ bs) same ∙ ap (λ xs. 0x0e ∷ xs) t.1,
      (0x0e ∷ [], t.0, refl, refl, (x.0, x.1, refl, t.2)),
    ) e

table_sound : (bytes labels rest : List ℕ) → table_at bytes ≡ Some (labels, rest)
    → Takes (λ ls. mark_texts BrTable ls) bytes labels rest
unfolding table_at
table_sound [] labels rest e = absurd cc
table_sound (b ∷ bs) labels rest e =
    let i = held_if (eqb b 0x0e)
    (mapped_at with_last (both_at (vector_at (unsigned_at 32)) (unsigned_at 32)) bs) (labels, rest) e
    in
    let s = bind_some (both_at (vector_at (unsigned_at 32)) (unsigned_at 32) bs)
    (λ (x : (List ℕ × ℕ) × List ℕ). read_as (with_last x.0) x.1) (labels, rest) i.1 in
    table_taken b bs s.0.0 s.0.1 labels rest (eqb-true b 0x0e i.0) (labels_reads.sound bs s.0.0 s.0.1 s.1) s.2

mark_sound : (bytes : List ℕ) (m : Mark) (rest : List ℕ) → mark_at bytes ≡ Some (m, rest)
    → Takes mark_encoding bytes m rest
unfolding mark_at
mark_sound bytes m rest e =
    elim (first_cases (mapped_at mark unlabelled_at bytes) (mapped_at table_mark table_at bytes) (m, rest)
    e) [
      | inl h ↦
          let s = bind_some (unlabelled_at bytes) (λ (x : Op × List ℕ). read_as (mark x.0) x.1) (m, rest) h in
          takes_as_read mark_encoding bytes (mark s.0.0) m s.0.1 rest (unlabelled_sound bytes s.0.0 s.0.1 s.1)
          s.2
      | inr h ↦
          let s = bind_some (table_at bytes) (λ (x : List ℕ × List ℕ). read_as (table_mark x.0) x.1)
          (m, rest) h.1 in
          takes_as_read mark_encoding bytes (table_mark s.0.0) m s.0.1 rest
          (table_sound bytes s.0.0 s.0.1 s.1) s.2
    ]

-- the other way
opener_found : (f : Option ValType → Op) (code : ℕ)
    → ((bs : List ℕ) → mark_at (code ∷ bs) ≡ first_some (mapped_at mark (mapped_at f block_type_at) bs)
    (mapped_at table_mark table_at (code ∷ bs)))
    → (r : Option ValType) (text rest : List ℕ) → (byte code then block_type r) text
    → mark_at (text ++ rest) ≡ Some (mark (f r), rest)
opener_found f code goes r text rest h =
    let e = block_type_reads.complete h.1 rest r h.4 in
    ap (λ t. mark_at (t ++ rest)) (h.2 ∙ ap (λ a. a ++ h.1) h.3) ∙ goes (h.1 ++ rest) ∙ (rw e refl)

abbrev mark_as : Op → List ℕ → List ℕ → Option (Mark × List ℕ)
mark_as op labels rest = Some ((op, labels), rest)

marked_as : (x y : Op) (ks ls rest : List ℕ) → x ≡ y → ks ≡ ls → mark_as x ks rest ≡ mark_as y ls rest
marked_as x y ks ls rest e f = ap (λ o. mark_as o ks rest) e ∙ ap (λ k. mark_as y k rest) f

operation_marked : (op : Op) (labels text rest : List ℕ) → labels ≡ [] → operation op text
    → mark_at (text ++ rest) ≡ Some ((op, labels), rest)
unfolding mark_at unlabelled_at
operation_marked op labels text rest none h =
    let e = operation_reads.complete text rest op h in
    (rw e refl) ∙ ap (λ k. mark_as op k rest) (sym none)

table_found : (labels text rest : List ℕ) → (byte 0x0e then table_labels labels) text
    → mark_at (text ++ rest) ≡ Some ((BrTable, labels), rest)
unfolding mark_at unlabelled_at table_at operation_at
table_found labels text rest h =
    let t = h.4 in
    let e = labels_reads.complete h.1 rest (t.0, t.1) t.3 in
    ap (λ t. mark_at (t ++ rest)) (h.2 ∙ ap (λ a. a ++ h.1) h.3) ∙ (rw e refl)
    ∙ ap (λ k. mark_as BrTable k rest) (sym t.2)

pub mark_found : (op : Op) (labels text rest : List ℕ) → mark_texts op labels text
    → mark_at (text ++ rest) ≡ Some ((op, labels), rest)
unfolding mark_at unlabelled_at operation_at
mark_found (Block r end) labels text rest h = opener_found block_of 0x02 (λ bs. refl) r text rest h.1
    ∙ marked_as (Block r 0) (Block r end) [] labels rest (ap (λ k. Block r k) (sym h.0.1)) (sym h.0.0)
mark_found (Loop r end) labels text rest h = opener_found loop_of 0x03 (λ bs. refl) r text rest h.1
    ∙ marked_as (Loop r 0) (Loop r end) [] labels rest (ap (λ k. Loop r k) (sym h.0.1)) (sym h.0.0)
mark_found (If r other end) labels text rest h =
    opener_found if_of 0x04 (λ bs. refl) r text rest h.1
    ∙ marked_as (If r None 0) (If r other end) [] labels rest
    (ap (λ k. If r None k) (sym h.0.2) ∙ ap (λ o. If r o end) (sym h.0.1)) (sym h.0.0)
mark_found Else labels text rest h = ap (λ t. mark_at (t ++ rest)) h.1
    ∙ ap (λ k. mark_as Else k rest) (sym h.0)
mark_found End labels text rest h = ap (λ t. mark_at (t ++ rest)) h.1
    ∙ ap (λ k. mark_as End k rest) (sym h.0)
mark_found BrTable labels text rest h = table_found labels text rest h
mark_found op labels text rest h = operation_marked op labels text rest h.0 h.1

pub mark_reads : Reads mark_encoding mark_at
mark_reads = record { sound = mark_sound; complete = λ text rest m h. mark_found m.0 m.1 text rest h }

-- a mark has a byte
pub mark_long : (op : Op) (labels text : List ℕ) → mark_texts op labels text → 1 ≤ length text
unfolding mark_at unlabelled_at operation_at table_at
mark_long op labels [] h = let e : mark_as op labels [] ≡ None = sym (mark_found op labels [] [] h) in
    absurd cc
mark_long op labels (b ∷ text) h = omega arith

pub marks_long : (ms : List Mark) (text : List ℕ) → items mark_encoding ms text → length ms ≤ length text
marks_long [] text h = omega arith
marks_long (m ∷ ms) text h =
    omega (
      arith,
      ap (λ t. length t) h.2,
      length-append h.0 h.1,
      mark_long m.0 m.1 h.0 h.3,
      marks_long ms h.1 h.4,
    )
