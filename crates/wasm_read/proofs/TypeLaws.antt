-- Names and types are read exactly.
use Rattle.std.proofs.Common.{◌≡◌, ℕ, ◌≤◌, Bool, true, false, eqb, if◌then◌else◌, nat_le, inl, inr, List, []}
use Rattle.std.proofs.Common.{◌∷◌, ◌++◌, length, Option, Some, None, refl, ap, sym, ◌∙◌, subst}
use Rattle.std.specs.Prelude.{IsUtf8}
use Rattle.std.specs.Str.{is_utf8}
use Rattle.std.proofs.lemmas.Bool.{eqb-true, leb-true, le-leb}
use Rattle.std.proofs.lemmas.Str.{IsUtf8-from_is_utf8, is_utf8-from_IsUtf8}
use Rattle.w4_defs.specs.declared.value.ValType.{ValType}
use Rattle.w4_defs.specs.declared.value.ValType.TheVariants.{I32, I64, F32, F64}
use Rattle.w4_defs.specs.declared.value.Limits.{Limits}
use Rattle.w4_defs.specs.Module.{Signature}
use Rattle.w4_defs.specs.BinaryText.{Texts, ◌then◌, byte}
use Rattle.w4_defs.specs.BinaryNumber.{unsigned}
use Rattle.w4_defs.specs.BinaryType.{vector, utf8, name, value_type, func_type, sizes, limits, table_type}
use Rattle.w4_defs.specs.BinaryType.{mutability, global_type, block_type}
use Rattle.w4_defs.proofs.OptionLaws.{bind_some, held_if}
use Rattle.wasm_read.specs.Reader.{read_as, Takes, Reads, ReadsWhole, row_of, coded_at}
use Rattle.wasm_read.specs.ReadNumber.{unsigned_at}
use Rattle.wasm_read.specs.Combine.{both_at, mapped_at, headed_at, vector_at}
use Rattle.wasm_read.specs.ReadType.{utf8_at, name_at, value_type_codes, value_type_at, block_type_codes}
use Rattle.wasm_read.specs.ReadType.{block_type_at, mutability_codes, global_type_of, global_type_at}
use Rattle.wasm_read.specs.ReadType.{open_limits, closed_limits, limits_at, table_type_at, func_type_of}
use Rattle.wasm_read.specs.ReadType.{func_type_at}
use Rattle.wasm_read.proofs.Basics.{split_if, takes_as_read}
use Rattle.wasm_read.proofs.NumberLaws.{unsigned_reads}
use Rattle.wasm_read.proofs.CombineLaws.{both_reads, mapped_reads, tested_reads, headed_reads, vector_reads}
use Rattle.wasm_read.proofs.CombineLaws.{sized_reads, coded_reads}

value_type_found : (t : ValType) (text : List ℕ) → value_type t text → (b : ℕ) × (text ≡ b ∷ [])
    × (row_of value_type_codes b ≡ Some t)
value_type_found I32 text h = (0x7f, h, refl)
value_type_found I64 text h = (0x7e, h, refl)
value_type_found F32 text h = (0x7d, h, refl)
value_type_found F64 text h = (0x7c, h, refl)

pub value_type_reads : Reads value_type value_type_at
value_type_reads = coded_reads value_type value_type_codes (refl, (refl, (refl, (refl, tt)))) value_type_found

block_type_found : (r : Option ValType) (text : List ℕ) → block_type r text → (b : ℕ) × (text ≡ b ∷ [])
    × (row_of block_type_codes b ≡ Some r)
block_type_found None text h = (0x40, h, refl)
block_type_found (Some I32) text h = (0x7f, h, refl)
block_type_found (Some I64) text h = (0x7e, h, refl)
block_type_found (Some F32) text h = (0x7d, h, refl)
block_type_found (Some F64) text h = (0x7c, h, refl)

pub block_type_reads : Reads block_type block_type_at
block_type_reads = coded_reads block_type block_type_codes (refl, (refl, (refl, (refl, (refl, tt)))))
    block_type_found

mutability_found : (m : Bool) (text : List ℕ) → mutability m text → (b : ℕ) × (text ≡ b ∷ [])
    × (row_of mutability_codes b ≡ Some m)
mutability_found false text h = (0x00, h, refl)
mutability_found true text h = (0x01, h, refl)

mutability_reads : Reads mutability (coded_at mutability_codes)
mutability_reads = coded_reads mutability mutability_codes (refl, (refl, tt)) mutability_found

pub global_type_reads : Reads global_type global_type_at
global_type_reads =
    let pair = both_reads value_type mutability value_type_at (coded_at mutability_codes) value_type_reads
    mutability_reads in
    mapped_reads (λ (g : ValType × Bool). value_type g.0 then mutability g.1)
    (both_at value_type_at (coded_at mutability_codes)) global_type_of (λ g. (g.value, g.mutable))
    (λ a. refl) (λ b. refl) pair

two_numbers : Reads (λ (x : ℕ × ℕ). unsigned 32 x.0 then unsigned 32 x.1)
    (both_at (unsigned_at 32) (unsigned_at 32))
two_numbers = both_reads (unsigned 32) (unsigned 32) (unsigned_at 32) (unsigned_at 32) (unsigned_reads 32)
    (unsigned_reads 32)

-- limits after their first byte
open_sound : (b : ℕ) (bs : List ℕ) (x : Limits) (rest : List ℕ) → b ≡ 0
    → mapped_at open_limits (unsigned_at 32) bs ≡ Some (x, rest) → Takes limits (b ∷ bs) x rest
open_sound b bs x rest zero e =
    let s = bind_some (unsigned_at 32 bs) (λ (n : ℕ × List ℕ). read_as (open_limits n.0) n.1) (x, rest) e in
    let t = (unsigned_reads 32).sound bs s.0.0 s.0.1 s.1 in
    takes_as_read limits (b ∷ bs) (open_limits s.0.0) x s.0.1 rest
    (0 ∷ t.0, ap (λ k. k ∷ bs) zero ∙ ap (λ xs. 0 ∷ xs) t.1, (0 ∷ [], t.0, refl, refl, t.2)) s.2

closed_sound : (b : ℕ) (bs : List ℕ) (x : Limits) (rest : List ℕ) → b ≡ 1
    → mapped_at closed_limits (both_at (unsigned_at 32) (unsigned_at 32)) bs ≡ Some (x, rest)
    → Takes limits (b ∷ bs) x rest
closed_sound b bs x rest one e =
    let s = bind_some (both_at (unsigned_at 32) (unsigned_at 32) bs)
    (λ (n : (ℕ × ℕ) × List ℕ). read_as (closed_limits n.0) n.1) (x, rest) e in
    let t = two_numbers.sound bs s.0.0 s.0.1 s.1 in
    takes_as_read limits (b ∷ bs) (closed_limits s.0.0) x s.0.1 rest
    (1 ∷ t.0, ap (λ k. k ∷ bs) one ∙ ap (λ xs. 1 ∷ xs) t.1, (1 ∷ [], t.0, refl, refl, t.2)) s.2

limits_sound : (bytes : List ℕ) (x : Limits) (rest : List ℕ) → limits_at bytes ≡ Some (x, rest)
    → Takes limits bytes x rest
limits_sound [] x rest e = absurd cc
limits_sound (b ∷ bs) x rest e =
    elim (split_if (eqb b 0) (mapped_at open_limits (unsigned_at 32) bs)
    (if eqb b 1 then mapped_at closed_limits (both_at (unsigned_at 32) (unsigned_at 32)) bs
    else None) (Some (x, rest)) e) [
      | inl h ↦ open_sound b bs x rest (eqb-true b 0 h.0) h.1
      | inr h ↦
          let i = held_if (eqb b 1) (mapped_at closed_limits (both_at (unsigned_at 32) (unsigned_at 32)) bs)
          (x, rest) h.1 in
          closed_sound b bs x rest (eqb-true b 1 i.0) i.1
    ]

limits_complete : (text rest : List ℕ) (least : ℕ) (greatest : Option ℕ) → sizes least greatest text
    → limits_at (text ++ rest) ≡ read_as (record { least = least; greatest = greatest }) rest
limits_complete text rest least None h =
    let same : text ≡ 0 ∷ h.1 = h.2 ∙ ap (λ a. a ++ h.1) h.3 in
    let e = (unsigned_reads 32).complete h.1 rest least h.4 in
    ap (λ t. limits_at (t ++ rest)) same ∙ (rw e refl)
limits_complete text rest least (Some greatest) h =
    let same : text ≡ 1 ∷ h.1 = h.2 ∙ ap (λ a. a ++ h.1) h.3 in
    let e = two_numbers.complete h.1 rest (least, greatest) h.4 in
    ap (λ t. limits_at (t ++ rest)) same ∙ (rw e refl)

pub limits_reads : Reads limits limits_at
limits_reads = record
    { sound = limits_sound; complete = λ text rest x h. limits_complete text rest x.least x.greatest h }

pub table_type_reads : Reads table_type table_type_at
table_type_reads = headed_reads limits limits_at 0x70 limits_reads

pub func_type_reads : Reads func_type func_type_at
func_type_reads =
    let types = vector_reads value_type value_type_at value_type_reads in
    let P : List ValType × List ValType → Texts = λ s. vector value_type s.0 then vector value_type s.1 in
    let both = both_reads (vector value_type) (vector value_type) (vector_at value_type_at)
    (vector_at value_type_at) types types in
    let headed = headed_reads P (both_at (vector_at value_type_at) (vector_at value_type_at)) 0x60 both in
    let Q : Signature → Texts =
    λ s. byte 0x60 then vector value_type s.params then vector value_type s.results in
    let mapped = mapped_reads (λ s. byte 0x60 then P s)
    (headed_at 0x60 (both_at (vector_at value_type_at) (vector_at value_type_at))) func_type_of
    (λ s. (s.params, s.results)) (λ a. refl) (λ b. refl) headed in
    tested_reads Q (mapped_at func_type_of
    (headed_at 0x60 (both_at (vector_at value_type_at) (vector_at value_type_at))))
    (λ s. length s.results ≤ 1) (λ s. nat_le (length s.results) 1)
    (λ s. (leb-true (length s.results) 1, le-leb (length s.results) 1)) mapped

utf8_reads : ReadsWhole utf8 utf8_at
utf8_reads = record {
  sound = λ bytes x e.
      let i = held_if (is_utf8 bytes) (Some bytes) x e in
      let same : bytes ≡ x = cc in
      let Q : List ℕ → Type 0 = λ m. utf8 m bytes in
      subst Q same (IsUtf8-from_is_utf8 bytes i.0, refl);
  complete = λ bytes x h.
      let Q : List ℕ → Type 0 = λ m. IsUtf8 m in
      let test = is_utf8-from_IsUtf8 bytes (subst Q (sym h.1) h.0) in
      rw test (ap (λ m. Some m) h.1);
}

pub name_reads : Reads name name_at
name_reads = sized_reads utf8 utf8_at utf8_reads
