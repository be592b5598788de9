-- An instruction that is read is encoded by the bytes that were taken.
use Rattle.std.proofs.Common.{◌≡◌, ℕ, ◌≤◌, true, false, ◌||◌, eqb, nat_le, ltb, if◌then◌else◌, ◌⊎◌, inl}
use Rattle.std.proofs.Common.{inr, List, [], ◌∷◌, ◌++◌, length, take, drop, Option, Some, None, refl, ap, sym}
use Rattle.std.proofs.Common.{◌∙◌, subst, append_assoc, append-nil, arith}
use Rattle.std.specs.Int.{Width, w32, w64, byte_len, from_le_bytes}
use Rattle.std.proofs.lemmas.Bool.{eqb-true, leb-true}
use Rattle.std.proofs.lemmas.Bool.Decides.{nat_tests}
use Rattle.std.proofs.lemmas.List.{length-take-le, take-append-drop}
use Rattle.w4_defs.specs.declared.operation.Op.{Op}
use Rattle.w4_defs.specs.declared.operation.Op.TheVariants.{Basic}
use Rattle.w4_defs.specs.declared.basic.Basic.TheVariants.{I32Const, I64Const, F32Const, F64Const, FloatPlain}
use Rattle.w4_defs.specs.declared.basic.Basic.TheVariants.{FloatCut, MemorySize, MemoryGrow, MemoryCopy}
use Rattle.w4_defs.specs.declared.basic.Basic.TheVariants.{MemoryFill}
use Rattle.w4_defs.specs.BinaryText.{Texts, ◌then◌}
use Rattle.w4_defs.specs.BinaryNumber.{unsigned, signed, little_endian}
use Rattle.w4_defs.specs.BinaryBasic.{IsFloatCode}
use Rattle.w4_defs.specs.BinaryInstruction.{operation}
use Rattle.w4_defs.specs.Reading.{◌>>=◌, little_endian_at}
use Rattle.w4_defs.proofs.ReadingLaws.{number_again}
use Rattle.w4_defs.proofs.OptionLaws.{bind_some, held_if}
use Rattle.wasm_read.specs.Reader.{Reader, read_as, Takes, Reads, row_of}
use Rattle.wasm_read.specs.ReadNumber.{unsigned_at, signed_at}
use Rattle.wasm_read.specs.Combine.{mapped_at, headed_at}
use Rattle.wasm_read.specs.InstructionTable.{index_rows}
use Rattle.wasm_read.specs.ReadOperation.{always_at, is_between, is_float_code, has_index, plain_of}
use Rattle.wasm_read.specs.ReadOperation.{access_of, indexed_at, indices_at, access_at, indirect_of}
use Rattle.wasm_read.specs.ReadOperation.{constant_at, prefixed_of, prefixed_at, special_after}
use Rattle.wasm_read.specs.ReadOperation.{operation_after, operation_at}
use Rattle.wasm_read.proofs.Basics.{split_if, same_read, takes_as_read, and_true, or_true, numbers_differ}
use Rattle.wasm_read.proofs.NumberLaws.{unsigned_reads, signed_reads}
use Rattle.wasm_read.proofs.CombineLaws.{both_reads}
use Rattle.wasm_read.proofs.InstructionTableLaws.{headed, plain_spelled, indexed_spelled, access_spelled}

number_sound : (w : Width) (bytes : List ℕ) (n : ℕ) (rest : List ℕ)
    → little_endian_at w bytes ≡ Some (n, rest) → Takes (little_endian w) bytes n rest
number_sound w bytes n rest e =
    elim (split_if (ltb (length bytes) (byte_len w)) None
    (read_as (from_le_bytes w (take (byte_len w) bytes)) (drop (byte_len w) bytes)) (read_as n rest)
    e) [
      | inl h ↦ absurd cc
      | inr h ↦
          let long : byte_len w ≤ length bytes = grind (arith, nat_tests) in
          takes_as_read (little_endian w) bytes (from_le_bytes w (take (byte_len w) bytes)) n
          (drop (byte_len w) bytes) rest (
            take (byte_len w) bytes,
            sym (take-append-drop (byte_len w) bytes),
            (length-take-le (byte_len w) bytes long, refl),
          ) h.1
    ]

pub number_reads : (w : Width) → Reads (little_endian w) (little_endian_at w)
number_reads w = record {
  sound = number_sound w;
  complete =
      λ text rest n h. number_again w text rest n h.0 (sym h.1);
}

pub indices_reads : Reads (λ (n : ℕ × ℕ). unsigned 32 n.0 then unsigned 32 n.1) indices_at
indices_reads = both_reads (unsigned 32) (unsigned 32) (unsigned_at 32) (unsigned_at 32) (unsigned_reads 32)
    (unsigned_reads 32)

takes_operation : (code : ℕ) (bs text rest : List ℕ) (op : Op) → bs ≡ text ++ rest
    → operation op (code ∷ text)
    → Takes operation (code ∷ bs) op rest
takes_operation code bs text rest op e h = (code ∷ text, ap (λ t. code ∷ t) e, h)

at_code : (k code : ℕ) (bs : List ℕ) (op : Op) (rest : List ℕ) → code ≡ k → Takes operation (k ∷ bs) op rest
    → Takes operation (code ∷ bs) op rest
at_code k code bs op rest e t =
    let P : ℕ → Type 0 = λ c. Takes operation (c ∷ bs) op rest in
    subst P (sym e) t

mapped_sound : {A : Type 0} (P : A → Texts) (p : Reader A) (f : A → Op) (code : ℕ) → Reads P p
    → ((x : A) (text : List ℕ) → P x text → operation (f x) (code ∷ text))
    → (bs : List ℕ) (op : Op) (rest : List ℕ) → mapped_at f p bs ≡ Some (op, rest)
    → Takes operation (code ∷ bs) op rest
mapped_sound {A} P p f code r spelled bs op rest e =
    let s = bind_some (p bs) (λ (a : A × List ℕ). read_as (f a.0) a.1) (op, rest) e in
    let t = r.sound bs s.0.0 s.0.1 s.1 in
    takes_as_read operation (code ∷ bs) (f s.0.0) op s.0.1 rest
    (takes_operation code bs t.0 s.0.1 (f s.0.0) t.1 (spelled s.0.0 t.0 t.2)) s.2

zero_sound : (x op : Op) (bs rest : List ℕ) → headed_at 0 (always_at x) bs ≡ Some (op, rest)
    → (bs ≡ 0 ∷ rest) × (x ≡ op)
zero_sound x op [] rest e = absurd cc
zero_sound x op (b ∷ bs) rest e =
    let i = held_if (eqb b 0) (read_as x bs) (op, rest) e in
    let same = same_read x op bs rest i.1 in
    (ap (λ k. k ∷ bs) (eqb-true b 0 i.0) ∙ ap (λ r. 0 ∷ r) same.1, same.0)

zeros_sound : (x op : Op) (bs rest : List ℕ) → headed_at 0 (headed_at 0 (always_at x)) bs ≡ Some (op, rest)
    → (bs ≡ 0 ∷ 0 ∷ rest) × (x ≡ op)
zeros_sound x op [] rest e = absurd cc
zeros_sound x op (b ∷ bs) rest e =
    let i = held_if (eqb b 0) (headed_at 0 (always_at x) bs) (op, rest) e in
    let z = zero_sound x op bs rest i.1 in
    (ap (λ k. k ∷ bs) (eqb-true b 0 i.0) ∙ ap (λ r. 0 ∷ r) z.0, z.1)

-- an instruction whose code one zero byte follows
zero_taken : (code : ℕ) (x op : Op) (bs rest : List ℕ) → operation x (code ∷ 0 ∷ [])
    → headed_at 0 (always_at x) bs ≡ Some (op, rest) → Takes operation (code ∷ bs) op rest
zero_taken code x op bs rest h e =
    let z = zero_sound x op bs rest e in
    let P : Op → Type 0 = λ o. Takes operation (code ∷ bs) o rest in
    subst P z.1 (takes_operation code bs (0 ∷ []) rest x z.0 h)

-- what follows the number after the prefix
abbrev Prefixed : ℕ → List ℕ → Op → List ℕ → Type 0
Prefixed n bs op rest =
    (text : List ℕ) × (bs ≡ text ++ rest)
    × ((size : List ℕ) → unsigned 32 n size → operation op (0xfc ∷ (size ++ text)))

cut_spelled : (n : ℕ) → n ≤ 7 → (size : List ℕ) → unsigned 32 n size
    → operation (Basic (FloatCut n)) (0xfc ∷ (size ++ []))
cut_spelled n low size u =
    let P : List ℕ → Type 0 = λ t. unsigned 32 n t in
    (low, headed (unsigned 32 n) 0xfc (size ++ []) (subst P (sym (append-nil size)) u))

copy_spelled : (n : ℕ) → n ≡ 10 → (size : List ℕ) → unsigned 32 n size
    → operation (Basic MemoryCopy) (0xfc ∷ (size ++ 0 ∷ 0 ∷ []))
copy_spelled n e size u =
    let P : ℕ → Type 0 = λ k. unsigned 32 k size in (
      0xfc ∷ [],
      size ++ 0 ∷ 0 ∷ [],
      refl,
      refl,
      (size, 0 ∷ 0 ∷ [], refl, subst P e u, (0 ∷ [], 0 ∷ [], refl, refl, refl)),
    )

fill_spelled : (n : ℕ) → n ≡ 11 → (size : List ℕ) → unsigned 32 n size
    → operation (Basic MemoryFill) (0xfc ∷ (size ++ 0 ∷ []))
fill_spelled n e size u =
    let P : ℕ → Type 0 = λ k. unsigned 32 k size in
    (0xfc ∷ [], size ++ 0 ∷ [], refl, refl, (size, 0 ∷ [], refl, subst P e u, refl))

prefixed_moved : (n : ℕ) (bs : List ℕ) (x op : Op) (rest : List ℕ) → x ≡ op → Prefixed n bs x rest
    → Prefixed n bs op rest
prefixed_moved n bs x op rest e p =
    let P : Op → Type 0 = λ o. Prefixed n bs o rest in
    subst P e p

prefixed_of_sound : (n : ℕ) (bs : List ℕ) (op : Op) (rest : List ℕ) → prefixed_of n bs ≡ Some (op, rest)
    → Prefixed n bs op rest
prefixed_of_sound n bs op rest e =
    let third : Option (Op × List ℕ) =
    if eqb n 11 then headed_at 0 (always_at (Basic MemoryFill)) bs else None in
    let second : Option (Op × List ℕ) =
    if eqb n 10 then headed_at 0 (headed_at 0 (always_at (Basic MemoryCopy))) bs else third in
    elim (split_if (nat_le n 7) (read_as (Basic (FloatCut n)) bs) second (read_as op rest) e) [
      | inl h ↦
          let same = same_read (Basic (FloatCut n)) op bs rest h.1 in
          prefixed_moved n bs (Basic (FloatCut n)) op rest same.0
          ([], same.1, cut_spelled n (leb-true n 7 h.0))
      | inr h ↦ elim (split_if (eqb n 10) (headed_at 0 (headed_at 0 (always_at (Basic MemoryCopy))) bs) third
          (read_as op rest) h.1) [
            | inl k ↦
                let z = zeros_sound (Basic MemoryCopy) op bs rest k.1 in
                prefixed_moved n bs (Basic MemoryCopy) op rest z.1
                (0 ∷ 0 ∷ [], z.0, copy_spelled n (eqb-true n 10 k.0))
            | inr k ↦
                let i = held_if (eqb n 11) (headed_at 0 (always_at (Basic MemoryFill)) bs) (op, rest) k.1 in
                let z = zero_sound (Basic MemoryFill) op bs rest i.1 in
                prefixed_moved n bs (Basic MemoryFill) op rest z.1
                (0 ∷ [], z.0, fill_spelled n (eqb-true n 11 i.0))
          ]
    ]

prefixed_sound : (bs : List ℕ) (op : Op) (rest : List ℕ) → prefixed_at bs ≡ Some (op, rest)
    → Takes operation (0xfc ∷ bs) op rest
prefixed_sound bs op rest e =
    let s = bind_some (unsigned_at 32 bs) (λ (n : ℕ × List ℕ). prefixed_of n.0 n.1) (op, rest) e in
    let t = (unsigned_reads 32).sound bs s.0.0 s.0.1 s.1 in
    let p = prefixed_of_sound s.0.0 s.0.1 op rest s.2 in
    takes_operation 0xfc bs (t.0 ++ p.0) rest op (t.1 ∙ ap (λ m. t.0 ++ m) p.1
    ∙ sym (append_assoc t.0 p.0 rest))
    (p.2 t.0 t.2)

plain_sound : (code : ℕ) (bs : List ℕ) (op : Op) (rest : List ℕ)
    → (plain_of code >>= λ o. read_as o bs) ≡ Some (op, rest) → Takes operation (code ∷ bs) op rest
plain_sound code bs op rest e =
    let s = bind_some (plain_of code) (λ o. read_as o bs) (op, rest) e in
    takes_as_read operation (code ∷ bs) s.0 op bs rest
    (code ∷ [], refl, plain_spelled code s.0 [] s.1 refl) s.2

special_sound : (code : ℕ) (bs : List ℕ) (op : Op) (rest : List ℕ) → special_after code bs ≡ Some (op, rest)
    → Takes operation (code ∷ bs) op rest
special_sound code bs op rest e =
    let fourth : Option (Op × List ℕ) =
    if eqb code 0xfc then prefixed_at bs else (plain_of code >>= λ o. read_as o bs) in
    let third : Option (Op × List ℕ) =
    if eqb code 0x40 then headed_at 0 (always_at (Basic MemoryGrow)) bs else fourth in
    let second : Option (Op × List ℕ) =
    if eqb code 0x3f then headed_at 0 (always_at (Basic MemorySize)) bs else third in
    elim (split_if (eqb code 0x11) (mapped_at indirect_of indices_at bs) second (read_as op rest) e) [
      | inl h ↦ at_code 0x11 code bs op rest (eqb-true code 0x11 h.0)
          (mapped_sound (λ (n : ℕ × ℕ). unsigned 32 n.0 then unsigned 32 n.1) indices_at indirect_of 0x11
          indices_reads (λ x text p. (0x11 ∷ [], text, refl, refl, p)) bs op rest h.1)
      | inr h ↦ elim (split_if (eqb code 0x3f) (headed_at 0 (always_at (Basic MemorySize)) bs) third
          (read_as op rest) h.1) [
            | inl k ↦ at_code 0x3f code bs op rest (eqb-true code 0x3f k.0)
                (zero_taken 0x3f (Basic MemorySize) op bs rest (0x3f ∷ [], 0 ∷ [], refl, refl, refl) k.1)
            | inr k ↦ elim (split_if (eqb code 0x40) (headed_at 0 (always_at (Basic MemoryGrow)) bs) fourth
                (read_as op rest) k.1) [
                  | inl m ↦ at_code 0x40 code bs op rest (eqb-true code 0x40 m.0)
                      (zero_taken 0x40 (Basic MemoryGrow) op bs rest
                      (0x40 ∷ [], 0 ∷ [], refl, refl, refl) m.1)
                  | inr m ↦ elim (split_if (eqb code 0xfc) (prefixed_at bs)
                      (plain_of code >>= λ o. read_as o bs)
                      (read_as op rest) m.1) [
                        | inl p ↦ at_code 0xfc code bs op rest (eqb-true code 0xfc p.0)
                            (prefixed_sound bs op rest p.1)
                        | inr p ↦ plain_sound code bs op rest p.1
                      ]
                ]
          ]
    ]

between : (low high code : ℕ) → is_between low high code ≡ true → (low ≤ code) × (code ≤ high)
between low high code e =
    let h = and_true (nat_le low code) (nat_le code high) e in
    (leb-true low code h.0, leb-true code high h.1)

is_float_code_sound : (code : ℕ) → is_float_code code ≡ true → IsFloatCode code
is_float_code_sound code e =
    elim (or_true (is_between 0x5b 0x66 code)
    (is_between 0x8b 0xa6 code || (is_between 0xa8 0xab code || is_between 0xae 0xbf code)) e) [
      | inl h ↦ inl (between 0x5b 0x66 code h)
      | inr h ↦ elim (or_true (is_between 0x8b 0xa6 code)
          (is_between 0xa8 0xab code || is_between 0xae 0xbf code) h) [
            | inl k ↦ inr (inl (between 0x8b 0xa6 code k))
            | inr k ↦ elim (or_true (is_between 0xa8 0xab code) (is_between 0xae 0xbf code) k) [
              | inl m ↦ inr (inr (inl (between 0xa8 0xab code m)))
              | inr m ↦ inr (inr (inr (between 0xae 0xbf code m)))
            ]
          ]
    ]

-- the fourth of the constants' codes
last_constant : (code : ℕ) → is_between 0x41 0x44 code ≡ true → eqb code 0x41 ≡ false → eqb code 0x42 ≡ false
    → eqb code 0x43 ≡ false → code ≡ 0x44
last_constant code within a b c =
    let h = between 0x41 0x44 code within in
    omega (
      arith,
      h.0,
      h.1,
      numbers_differ code 0x41 a,
      numbers_differ code 0x42 b,
      numbers_differ code 0x43 c,
    )

constant_sound : (code : ℕ) (bs : List ℕ) (op : Op) (rest : List ℕ) → is_between 0x41 0x44 code ≡ true
    → constant_at code bs ≡ Some (op, rest) → Takes operation (code ∷ bs) op rest
constant_sound code bs op rest within e =
    let i32 : Option (Op × List ℕ) = mapped_at (λ n. Basic (I32Const n)) (signed_at 32) bs in
    let i64 : Option (Op × List ℕ) = mapped_at (λ n. Basic (I64Const n)) (signed_at 64) bs in
    let f32 : Option (Op × List ℕ) = mapped_at (λ n. Basic (F32Const n)) (little_endian_at w32) bs in
    let f64 : Option (Op × List ℕ) = mapped_at (λ n. Basic (F64Const n)) (little_endian_at w64) bs in
    let third : Option (Op × List ℕ) = if eqb code 0x43 then f32 else f64 in
    let second : Option (Op × List ℕ) = if eqb code 0x42 then i64 else third in
    elim (split_if (eqb code 0x41) i32 second (read_as op rest) e) [
      | inl h ↦ at_code 0x41 code bs op rest (eqb-true code 0x41 h.0)
          (mapped_sound (signed 32) (signed_at 32) (λ n. Basic (I32Const n)) 0x41 (signed_reads 32)
          (λ x text p. (0x41 ∷ [], text, refl, refl, p)) bs op rest h.1)
      | inr h ↦ elim (split_if (eqb code 0x42) i64 third (read_as op rest) h.1) [
        | inl k ↦ at_code 0x42 code bs op rest (eqb-true code 0x42 k.0)
            (mapped_sound (signed 64) (signed_at 64) (λ n. Basic (I64Const n)) 0x42 (signed_reads 64)
            (λ x text p. (0x42 ∷ [], text, refl, refl, p)) bs op rest k.1)
        | inr k ↦ elim (split_if (eqb code 0x43) f32 f64 (read_as op rest) k.1) [
          | inl m ↦ at_code 0x43 code bs op rest (eqb-true code 0x43 m.0)
              (mapped_sound (little_endian w32) (little_endian_at w32) (λ n. Basic (F32Const n)) 0x43
              (number_reads w32)
              (λ x text p. (0x43 ∷ [], text, refl, refl, p)) bs op rest m.1)
          | inr m ↦ at_code 0x44 code bs op rest (last_constant code within h.0 k.0 m.0)
              (mapped_sound (little_endian w64) (little_endian_at w64) (λ n. Basic (F64Const n)) 0x44
              (number_reads w64)
              (λ x text p. (0x44 ∷ [], text, refl, refl, p)) bs op rest m.1)
        ]
      ]
    ]

indexed_sound : (code : ℕ) (bs : List ℕ) (op : Op) (rest : List ℕ) → indexed_at code bs ≡ Some (op, rest)
    → Takes operation (code ∷ bs) op rest
indexed_sound code bs op rest e =
    let s = bind_some (unsigned_at 32 bs)
    (λ (n : ℕ × List ℕ). row_of (index_rows n.0) code >>= λ o. read_as o n.1) (op, rest) e in
    let t = (unsigned_reads 32).sound bs s.0.0 s.0.1 s.1 in
    let o = bind_some (row_of (index_rows s.0.0) code) (λ x. read_as x s.0.1) (op, rest) s.2 in
    takes_as_read operation (code ∷ bs) o.0 op s.0.1 rest
    (takes_operation code bs t.0 s.0.1 o.0 t.1 (indexed_spelled s.0.0 code o.0 t.0 o.1 t.2)) o.2

access_sound : (code : ℕ) (bs : List ℕ) (op : Op) (rest : List ℕ) → access_at code bs ≡ Some (op, rest)
    → Takes operation (code ∷ bs) op rest
access_sound code bs op rest e =
    let s = bind_some (indices_at bs)
    (λ (n : (ℕ × ℕ) × List ℕ). access_of code n.0.0 n.0.1 >>= λ i. read_as (Basic i) n.1) (op, rest) e in
    let t = indices_reads.sound bs s.0.0 s.0.1 s.1 in
    let o = bind_some (access_of code s.0.0.0 s.0.0.1) (λ i. read_as (Basic i) s.0.1) (op, rest) s.2 in
    takes_as_read operation (code ∷ bs) (Basic o.0) op s.0.1 rest
    (takes_operation code bs t.0 s.0.1 (Basic o.0) t.1
    (access_spelled s.0.0.0 s.0.0.1 code o.0 t.0 o.1 t.2)) o.2

float_sound : (code : ℕ) (bs : List ℕ) (op : Op) (rest : List ℕ) → is_float_code code ≡ true
    → read_as (Basic (FloatPlain code)) bs ≡ Some (op, rest) → Takes operation (code ∷ bs) op rest
float_sound code bs op rest is e =
    takes_as_read operation (code ∷ bs) (Basic (FloatPlain code)) op bs rest
    (code ∷ [], refl, (is_float_code_sound code is, refl)) e

after_sound : (code : ℕ) (bs : List ℕ) (op : Op) (rest : List ℕ) → operation_after code bs ≡ Some (op, rest)
    → Takes operation (code ∷ bs) op rest
after_sound code bs op rest e =
    let fourth : Option (Op × List ℕ) =
    if is_between 0x41 0x44 code then constant_at code bs else special_after code bs in
    let third : Option (Op × List ℕ) = if is_between 0x28 0x3e code then access_at code bs else fourth in
    let second : Option (Op × List ℕ) = if has_index code then indexed_at code bs else third in
    elim (split_if (is_float_code code) (read_as (Basic (FloatPlain code)) bs) second (read_as op rest) e) [
      | inl h ↦ float_sound code bs op rest h.0 h.1
      | inr h ↦ elim (split_if (has_index code) (indexed_at code bs) third (read_as op rest) h.1) [
        | inl k ↦ indexed_sound code bs op rest k.1
        | inr k ↦ elim (split_if (is_between 0x28 0x3e code) (access_at code bs) fourth (read_as op rest)
            k.1) [
              | inl m ↦ access_sound code bs op rest m.1
              | inr m ↦ elim (split_if (is_between 0x41 0x44 code) (constant_at code bs)
                  (special_after code bs)
                  (read_as op rest) m.1) [
                    | inl p ↦ constant_sound code bs op rest p.0 p.1
                    | inr p ↦ special_sound code bs op rest p.1
                  ]
            ]
      ]
    ]

pub operation_sound : (bytes : List ℕ) (op : Op) (rest : List ℕ) → operation_at bytes ≡ Some (op, rest)
    → Takes operation bytes op rest
unfolding operation_at
operation_sound [] op rest e = absurd cc
operation_sound (code ∷ bs) op rest e = after_sound code bs op rest e
