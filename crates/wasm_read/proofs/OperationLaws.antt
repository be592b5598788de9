-- Every encoding of an instruction is read.
use Rattle.std.proofs.Common.{◌≡◌, ℕ, ◌≤◌, Bool, true, false, ◌||◌, nat_le, inl, inr, List, [], ◌∷◌, ◌++◌}
use Rattle.std.proofs.Common.{Some, refl, ap, sym, ◌∙◌, subst, append_assoc}
use Rattle.std.specs.Int.{w32, w64}
use Rattle.std.proofs.lemmas.Bool.{le-leb}
use Rattle.w4_defs.specs.declared.operation.Op.{Op}
use Rattle.w4_defs.specs.declared.operation.Op.TheVariants.{Block, Loop, If, Else, End, BrTable, Br, BrIf}
use Rattle.w4_defs.specs.declared.operation.Op.TheVariants.{Call, LocalGet, LocalSet, LocalTee, GlobalGet}
use Rattle.w4_defs.specs.declared.operation.Op.TheVariants.{GlobalSet, CallIndirect, Basic}
use Rattle.w4_defs.specs.declared.basic.Basic as basics
use Rattle.w4_defs.specs.declared.basic.Basic.TheVariants.{I32Load, I64Load, I32Load8S, I32Load8U, I32Load16S}
use Rattle.w4_defs.specs.declared.basic.Basic.TheVariants.{I32Load16U, I64Load8S, I64Load8U, I64Load16S}
use Rattle.w4_defs.specs.declared.basic.Basic.TheVariants.{I64Load16U, I64Load32S, I64Load32U, I32Store}
use Rattle.w4_defs.specs.declared.basic.Basic.TheVariants.{I64Store, I32Store8, I32Store16, I64Store8}
use Rattle.w4_defs.specs.declared.basic.Basic.TheVariants.{I64Store16, I64Store32, FloatMemory, MemorySize}
use Rattle.w4_defs.specs.declared.basic.Basic.TheVariants.{MemoryGrow, MemoryCopy, MemoryFill, I32Const}
use Rattle.w4_defs.specs.declared.basic.Basic.TheVariants.{I64Const, F32Const, F64Const, FloatPlain, FloatCut}
use Rattle.w4_defs.specs.InstructionTable.{opcode}
use Rattle.w4_defs.specs.BinaryText.{Texts, ◌then◌, byte}
use Rattle.w4_defs.specs.BinaryNumber.{unsigned, signed, little_endian}
use Rattle.w4_defs.specs.BinaryBasic.{immediate, IsFloatCode, IsFloatAccess}
use Rattle.w4_defs.specs.BinaryInstruction.{operation}
use Rattle.w4_defs.specs.Reading.{◌>>=◌, little_endian_at}
use Rattle.wasm_read.specs.Reader.{Reader, read_as, Reads, row_of}
use Rattle.wasm_read.specs.ReadNumber.{unsigned_at, signed_at}
use Rattle.wasm_read.specs.Combine.{mapped_at}
use Rattle.wasm_read.specs.InstructionTable.{index_rows}
use Rattle.wasm_read.specs.ReadOperation.{is_between, is_float_code, access_of, indexed_at, indices_at}
use Rattle.wasm_read.specs.ReadOperation.{access_at, indirect_of, operation_after, operation_at}
use Rattle.wasm_read.proofs.NumberLaws.{unsigned_reads, signed_reads}
use Rattle.wasm_read.proofs.OperationSound.{number_reads, indices_reads, operation_sound}

-- a text that begins with this byte
headed_text : (code : ℕ) (P : Texts) (text rest : List ℕ) → (h : (byte code then P) text)
    → text ++ rest ≡ code ∷ (h.1 ++ rest)
headed_text code P text rest h = ap (λ t. t ++ rest) (h.2 ∙ ap (λ a. a ++ h.1) h.3)

mapped_found : {A : Type 0} (P : A → Texts) (p : Reader A) (f : A → Op) (code : ℕ) → Reads P p
    → (x : A) (text rest : List ℕ) → (byte code then P x) text
    → ((bs : List ℕ) → operation_after code bs ≡ mapped_at f p bs)
    → operation_at (text ++ rest) ≡ Some (f x, rest)
unfolding operation_at
mapped_found P p f code r x text rest h goes =
    let e = r.complete h.1 rest x h.4 in
    ap operation_at (headed_text code (P x) text rest h) ∙ goes (h.1 ++ rest)
    ∙ ap (λ o. o >>= λ a. read_as (f a.0) a.1) e

indexed_found : (code index : ℕ) (op : Op) (text rest : List ℕ) → (byte code then unsigned 32 index) text
    → row_of (index_rows index) code ≡ Some op
    → ((bs : List ℕ) → operation_after code bs ≡ indexed_at code bs)
    → operation_at (text ++ rest) ≡ Some (op, rest)
unfolding operation_at
indexed_found code index op text rest h row goes =
    let e = (unsigned_reads 32).complete h.1 rest index h.4 in
    ap operation_at (headed_text code (unsigned 32 index) text rest h) ∙ goes (h.1 ++ rest)
    ∙ ap (λ o. o >>= λ n. row_of (index_rows n.0) code >>= λ x. read_as x n.1) e
    ∙ ap (λ o. o >>= λ x. read_as x rest) row

access_found : (align offset : ℕ) (i : basics.Basic) (text rest : List ℕ)
    → (byte (opcode i) then immediate align offset) text → access_of (opcode i) align offset ≡ Some i
    → ((bs : List ℕ) → operation_after (opcode i) bs ≡ access_at (opcode i) bs)
    → operation_at (text ++ rest) ≡ Some (Basic i, rest)
unfolding operation_at
access_found align offset i text rest h row goes =
    let e = indices_reads.complete h.1 rest (align, offset) h.4 in
    ap operation_at (headed_text (opcode i) (immediate align offset) text rest h) ∙ goes (h.1 ++ rest)
    ∙ ap (λ o. o >>= λ n. access_of (opcode i) n.0.0 n.0.1 >>= λ x. read_as (Basic x) n.1) e
    ∙ ap (λ o. o >>= λ x. read_as (Basic x) rest) row

-- a code after which nothing stands
byte_found : (code : ℕ) (op : Op) (text rest : List ℕ) → text ≡ code ∷ []
    → ((bs : List ℕ) → operation_after code bs ≡ Some (op, bs))
    → operation_at (text ++ rest) ≡ Some (op, rest)
unfolding operation_at
byte_found code op text rest h goes = ap (λ t. operation_at (t ++ rest)) h ∙ goes rest

-- a float access, by its four codes
float_access_found : (k code align offset : ℕ) (text rest : List ℕ) → code ≡ k
    → (byte code then immediate align offset) text
    → access_of k align offset ≡ Some (FloatMemory k align offset)
    → ((bs : List ℕ) → operation_after k bs ≡ access_at k bs)
    → operation_at (text ++ rest) ≡ Some (Basic (FloatMemory code align offset), rest)
float_access_found k code align offset text rest e h row goes =
    let P : ℕ → Type 0 = λ c. (byte c then immediate align offset) text in
    access_found align offset (FloatMemory k align offset) text rest (subst P e h) row goes
    ∙ ap (λ c. read_as (Basic (FloatMemory c align offset)) rest) (sym e)

float_memory_found : (code align offset : ℕ) (text rest : List ℕ) → IsFloatAccess code
    → (byte code then immediate align offset) text
    → operation_at (text ++ rest) ≡ Some (Basic (FloatMemory code align offset), rest)
float_memory_found code align offset text rest (inl e) h =
    float_access_found 0x2a code align offset text rest e h refl (λ bs. refl)
float_memory_found code align offset text rest (inr (inl e)) h =
    float_access_found 0x2b code align offset text rest e h refl (λ bs. refl)
float_memory_found code align offset text rest (inr (inr (inl e))) h =
    float_access_found 0x38 code align offset text rest e h refl (λ bs. refl)
float_memory_found code align offset text rest (inr (inr (inr e))) h =
    float_access_found 0x39 code align offset text rest e h refl (λ bs. refl)

or_right : (a b : Bool) → b ≡ true → (a || b) ≡ true
or_right true b e = refl
or_right false b e = e

or_left : (a b : Bool) → a ≡ true → (a || b) ≡ true
or_left true b e = refl
or_left false b e = absurd cc

within_is_between : (low high code : ℕ) → low ≤ code → code ≤ high → is_between low high code ≡ true
within_is_between low high code l h =
    let first : nat_le low code ≡ true = le-leb low code l in
    let second : nat_le code high ≡ true = le-leb code high h in
    rw (first, second) refl

float_tested : (code : ℕ) → IsFloatCode code → is_float_code code ≡ true
float_tested code (inl (l, h)) = or_left (is_between 0x5b 0x66 code) _ (within_is_between 0x5b 0x66 code l h)
float_tested code (inr (inl (l, h))) =
    or_right (is_between 0x5b 0x66 code) _
    (or_left (is_between 0x8b 0xa6 code) _ (within_is_between 0x8b 0xa6 code l h))
float_tested code (inr (inr (inl (l, h)))) =
    or_right (is_between 0x5b 0x66 code) _
    (or_right (is_between 0x8b 0xa6 code) _
    (or_left (is_between 0xa8 0xab code) _ (within_is_between 0xa8 0xab code l h)))
float_tested code (inr (inr (inr (l, h)))) =
    or_right (is_between 0x5b 0x66 code) _
    (or_right (is_between 0x8b 0xa6 code) _
    (or_right (is_between 0xa8 0xab code) _ (within_is_between 0xae 0xbf code l h)))

float_plain_found : (code : ℕ) (text rest : List ℕ) → IsFloatCode code → text ≡ code ∷ []
    → operation_at (text ++ rest) ≡ Some (Basic (FloatPlain code), rest)
unfolding operation_at
float_plain_found code text rest is h =
    let test = float_tested code is in
    ap (λ t. operation_at (t ++ rest)) h ∙ (rw test refl)

float_cut_found : (code : ℕ) (text rest : List ℕ) → code ≤ 7 → (byte 0xfc then unsigned 32 code) text
    → operation_at (text ++ rest) ≡ Some (Basic (FloatCut code), rest)
unfolding operation_at
float_cut_found code text rest low h =
    let e = (unsigned_reads 32).complete h.1 rest code h.4 in
    let test : nat_le code 7 ≡ true = le-leb code 7 low in
    ap operation_at (headed_text 0xfc (unsigned 32 code) text rest h) ∙ (rw (e, test) refl)

-- a zero byte, or two
zero_found : (code : ℕ) (op : Op) (text rest : List ℕ) → (byte code then byte 0) text
    → ((bs : List ℕ) → operation_after code (0 ∷ bs) ≡ Some (op, bs))
    → operation_at (text ++ rest) ≡ Some (op, rest)
unfolding operation_at
zero_found code op text rest h goes =
    ap operation_at (headed_text code (byte 0) text rest h ∙ ap (λ t. code ∷ (t ++ rest)) h.4) ∙ goes rest

-- after the prefix and this number stand these other bytes
prefixed_found : (n : ℕ) (others : List ℕ) (op : Op) (text rest : List ℕ)
    → (byte 0xfc then unsigned 32 n then (λ t. t ≡ others)) text
    → ((bs : List ℕ) → unsigned_at 32 bs ≡ Some (n, others ++ rest)
    → operation_after 0xfc bs ≡ Some (op, rest))
    → operation_at (text ++ rest) ≡ Some (op, rest)
unfolding operation_at
prefixed_found n others op text rest h goes =
    let tail = h.4 in
    let e = (unsigned_reads 32).complete tail.0 (tail.1 ++ rest) n tail.3 in
    let split : h.1 ++ rest ≡ tail.0 ++ (tail.1 ++ rest) = ap (λ t. t ++ rest) tail.2
    ∙ append_assoc tail.0 tail.1 rest in
    ap operation_at (headed_text 0xfc (unsigned 32 n then (λ t. t ≡ others)) text rest h)
    ∙ goes (h.1 ++ rest) (ap (unsigned_at 32) split ∙ e ∙ ap (λ t. read_as n (t ++ rest)) tail.4)

-- two zero bytes
two_zeros : (text : List ℕ) → (byte 0 then byte 0) text → text ≡ 0 ∷ 0 ∷ []
two_zeros text h = h.2 ∙ ap (λ a. a ++ h.1) h.3 ∙ ap (λ b. 0 ∷ b) h.4

copy_text : (text : List ℕ) → (byte 0xfc then unsigned 32 10 then byte 0 then byte 0) text
    → (byte 0xfc then unsigned 32 10 then (λ t. t ≡ 0 ∷ 0 ∷ [])) text
copy_text text h = (h.0, h.1, h.2, h.3, (h.4.0, h.4.1, h.4.2, h.4.3, two_zeros h.4.1 h.4.4))

copy_after : (rest bs : List ℕ) → unsigned_at 32 bs ≡ Some (10, 0 ∷ 0 ∷ rest)
    → operation_after 0xfc bs ≡ Some (Basic MemoryCopy, rest)
copy_after rest bs e = rw e refl

fill_after : (rest bs : List ℕ) → unsigned_at 32 bs ≡ Some (11, 0 ∷ rest)
    → operation_after 0xfc bs ≡ Some (Basic MemoryFill, rest)
fill_after rest bs e = rw e refl

operation_found : (op : Op) (text rest : List ℕ) → operation op text
    → operation_at (text ++ rest) ≡ Some (op, rest)
operation_found (Block r end) text rest h = absurd h
operation_found (Loop r end) text rest h = absurd h
operation_found (If r other end) text rest h = absurd h
operation_found Else text rest h = absurd h
operation_found End text rest h = absurd h
operation_found BrTable text rest h = absurd h
operation_found (Br i) text rest h = indexed_found 0x0c i (Br i) text rest h refl (λ bs. refl)
operation_found (BrIf i) text rest h = indexed_found 0x0d i (BrIf i) text rest h refl (λ bs. refl)
operation_found (Call i) text rest h = indexed_found 0x10 i (Call i) text rest h refl (λ bs. refl)
operation_found (LocalGet i) text rest h = indexed_found 0x20 i (LocalGet i) text rest h refl (λ bs. refl)
operation_found (LocalSet i) text rest h = indexed_found 0x21 i (LocalSet i) text rest h refl (λ bs. refl)
operation_found (LocalTee i) text rest h = indexed_found 0x22 i (LocalTee i) text rest h refl (λ bs. refl)
operation_found (GlobalGet i) text rest h = indexed_found 0x23 i (GlobalGet i) text rest h refl (λ bs. refl)
operation_found (GlobalSet i) text rest h = indexed_found 0x24 i (GlobalSet i) text rest h refl (λ bs. refl)
operation_found (CallIndirect s t) text rest h =
    mapped_found (λ (n : ℕ × ℕ). unsigned 32 n.0 then unsigned 32 n.1) indices_at indirect_of 0x11
    indices_reads (s, t) text rest h (λ bs. refl)
operation_found (Basic (I32Load a o)) text rest h = access_found a o _ text rest h refl (λ bs. refl)
operation_found (Basic (I64Load a o)) text rest h = access_found a o _ text rest h refl (λ bs. refl)
operation_found (Basic (I32Load8S a o)) text rest h = access_found a o _ text rest h refl (λ bs. refl)
operation_found (Basic (I32Load8U a o)) text rest h = access_found a o _ text rest h refl (λ bs. refl)
operation_found (Basic (I32Load16S a o)) text rest h = access_found a o _ text rest h refl (λ bs. refl)
operation_found (Basic (I32Load16U a o)) text rest h = access_found a o _ text rest h refl (λ bs. refl)
operation_found (Basic (I64Load8S a o)) text rest h = access_found a o _ text rest h refl (λ bs. refl)
operation_found (Basic (I64Load8U a o)) text rest h = access_found a o _ text rest h refl (λ bs. refl)
operation_found (Basic (I64Load16S a o)) text rest h = access_found a o _ text rest h refl (λ bs. refl)
operation_found (Basic (I64Load16U a o)) text rest h = access_found a o _ text rest h refl (λ bs. refl)
operation_found (Basic (I64Load32S a o)) text rest h = access_found a o _ text rest h refl (λ bs. refl)
operation_found (Basic (I64Load32U a o)) text rest h = access_found a o _ text rest h refl (λ bs. refl)
operation_found (Basic (I32Store a o)) text rest h = access_found a o _ text rest h refl (λ bs. refl)
operation_found (Basic (I64Store a o)) text rest h = access_found a o _ text rest h refl (λ bs. refl)
operation_found (Basic (I32Store8 a o)) text rest h = access_found a o _ text rest h refl (λ bs. refl)
operation_found (Basic (I32Store16 a o)) text rest h = access_found a o _ text rest h refl (λ bs. refl)
operation_found (Basic (I64Store8 a o)) text rest h = access_found a o _ text rest h refl (λ bs. refl)
operation_found (Basic (I64Store16 a o)) text rest h = access_found a o _ text rest h refl (λ bs. refl)
operation_found (Basic (I64Store32 a o)) text rest h = access_found a o _ text rest h refl (λ bs. refl)
operation_found (Basic (FloatMemory code a o)) text rest h = float_memory_found code a o text rest h.0 h.1
operation_found (Basic MemorySize) text rest h = zero_found 0x3f (Basic MemorySize) text rest h (λ bs. refl)
operation_found (Basic MemoryGrow) text rest h = zero_found 0x40 (Basic MemoryGrow) text rest h (λ bs. refl)
operation_found (Basic MemoryCopy) text rest h =
    prefixed_found 10 (0 ∷ 0 ∷ []) (Basic MemoryCopy) text rest (copy_text text h) (copy_after rest)
operation_found (Basic MemoryFill) text rest h =
    prefixed_found 11 (0 ∷ []) (Basic MemoryFill) text rest h (fill_after rest)
operation_found (Basic (I32Const value)) text rest h =
    mapped_found (signed 32) (signed_at 32) (λ n. Basic (I32Const n)) 0x41 (signed_reads 32) value text rest h
    (λ bs. refl)
operation_found (Basic (I64Const value)) text rest h =
    mapped_found (signed 64) (signed_at 64) (λ n. Basic (I64Const n)) 0x42 (signed_reads 64) value text rest h
    (λ bs. refl)
operation_found (Basic (F32Const bits)) text rest h =
    mapped_found (little_endian w32) (little_endian_at w32) (λ n. Basic (F32Const n)) 0x43 (number_reads w32)
    bits text rest h (λ bs. refl)
operation_found (Basic (F64Const bits)) text rest h =
    mapped_found (little_endian w64) (little_endian_at w64) (λ n. Basic (F64Const n)) 0x44 (number_reads w64)
    bits text rest h (λ bs. refl)
operation_found (Basic (FloatPlain code)) text rest h = float_plain_found code text rest h.0 h.1
operation_found (Basic (FloatCut code)) text rest h = float_cut_found code text rest h.0 h.1
operation_found op text rest h = byte_found _ op text rest h (λ bs. refl)

pub operation_reads : Reads operation operation_at
operation_reads = record {
  sound = operation_sound;
  complete =
      λ text rest op h. operation_found op text rest h;
}
