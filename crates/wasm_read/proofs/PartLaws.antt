-- What the sections hold is read exactly.
use Rattle.std.proofs.Common.{◌≡◌, ℕ, ◌^◌, ◌<◌, eqb, nat_lt, if◌then◌else◌, inl, inr, List, [], ◌∷◌, ◌++◌}
use Rattle.std.proofs.Common.{Option, Some, None, refl, ap, ◌∙◌}
use Rattle.std.proofs.lemmas.Bool.{eqb-true, ltb-true, lt-ltb}
use Rattle.w4_defs.specs.declared.value.ValType.{ValType}
use Rattle.w4_defs.specs.declared.value.GlobalType.{GlobalType}
use Rattle.w4_defs.specs.declared.module.ImportKind.{ImportKind}
use Rattle.w4_defs.specs.declared.module.ImportKind.TheVariants as imports
use Rattle.w4_defs.specs.declared.module.ExportKind.{ExportKind}
use Rattle.w4_defs.specs.declared.module.ExportKind.TheVariants as exports
use Rattle.w4_defs.specs.declared.module.Locals.{Locals}
use Rattle.w4_defs.specs.Lookup.{local_count}
use Rattle.w4_defs.specs.Module.{Function}
use Rattle.w4_defs.specs.Tree.{Expr}
use Rattle.w4_defs.specs.BinaryText.{Texts, ◌then◌, byte}
use Rattle.w4_defs.specs.BinaryNumber.{unsigned}
use Rattle.w4_defs.specs.BinaryType.{vector, bytes, name, value_type, limits, table_type, global_type}
use Rattle.w4_defs.specs.BinaryInstruction.{expression}
use Rattle.w4_defs.specs.BinaryModule.{import_kind, imported, global, export_kind, exported, element}
use Rattle.w4_defs.specs.BinaryModule.{locals_run, function, body, segment}
use Rattle.w4_defs.specs.Reading.{◌>>=◌}
use Rattle.w4_defs.proofs.OptionLaws.{bind_some, held_if}
use Rattle.wasm_read.specs.Reader.{Reader, read_as, Takes, Reads, row_of}
use Rattle.wasm_read.specs.ReadNumber.{unsigned_at}
use Rattle.wasm_read.specs.Combine.{both_at, mapped_at, vector_at, whole_at, sized_bytes_at}
use Rattle.wasm_read.specs.ReadType.{name_at, value_type_at, limits_at, table_type_at, global_type_at}
use Rattle.wasm_read.specs.ReadExpression.{expression_at}
use Rattle.wasm_read.specs.ReadPart.{import_kind_at, imported_of, import_at, global_of, global_at}
use Rattle.wasm_read.specs.ReadPart.{export_kinds, export_kind_at, exported_of, export_at, element_of}
use Rattle.wasm_read.specs.ReadPart.{element_at, locals_of, run_at, function_of, function_at, body_at}
use Rattle.wasm_read.specs.ReadPart.{segment_of, segment_at}
use Rattle.wasm_read.proofs.Basics.{split_if, takes_as_read}
use Rattle.wasm_read.proofs.NumberLaws.{unsigned_reads}
use Rattle.wasm_read.proofs.CombineLaws.{both_reads, mapped_reads, tested_reads, vector_reads, whole_reads}
use Rattle.wasm_read.proofs.CombineLaws.{cut_reads, sized_reads, coded_reads}
use Rattle.wasm_read.proofs.TypeLaws.{value_type_reads, limits_reads, table_type_reads, global_type_reads}
use Rattle.wasm_read.proofs.TypeLaws.{name_reads}
use Rattle.wasm_read.proofs.ExpressionLaws.{expression_reads}

-- a value after its code
coded_sound : {A B : Type 0} (P : A → Texts) (Q : B → Texts) (p : Reader A) (f : A → B) (code : ℕ)
    → Reads P p → ((x : A) (text : List ℕ) → P x text → Q (f x) (code ∷ text))
    → (b : ℕ) (bs : List ℕ) (y : B) (rest : List ℕ) → b ≡ code → mapped_at f p bs ≡ Some (y, rest)
    → Takes Q (b ∷ bs) y rest
coded_sound {A} P Q p f code r spelled b bs y rest same e =
    let s = bind_some (p bs) (λ (x : A × List ℕ). read_as (f x.0) x.1) (y, rest) e in
    let t = r.sound bs s.0.0 s.0.1 s.1 in
    takes_as_read Q (b ∷ bs) (f s.0.0) y s.0.1 rest
    (code ∷ t.0, ap (λ k. k ∷ bs) same ∙ ap (λ xs. code ∷ xs) t.1, spelled s.0.0 t.0 t.2) s.2

import_kind_sound : (bs : List ℕ) (k : ImportKind) (rest : List ℕ) → import_kind_at bs ≡ Some (k, rest)
    → Takes import_kind bs k rest
import_kind_sound [] k rest e = absurd cc
import_kind_sound (b ∷ bs) k rest e =
    let third : Option (ImportKind × List ℕ) =
    if eqb b 3 then mapped_at imports.Global global_type_at bs else None in
    let second : Option (ImportKind × List ℕ) =
    if eqb b 2 then mapped_at imports.Memory limits_at bs else third in
    let first : Option (ImportKind × List ℕ) =
    if eqb b 1 then mapped_at imports.Table table_type_at bs else second in
    elim (split_if (eqb b 0) (mapped_at imports.Func (unsigned_at 32) bs) first (read_as k rest) e) [
      | inl h ↦ coded_sound (unsigned 32) import_kind (unsigned_at 32) imports.Func 0 (unsigned_reads 32)
          (λ x text p. (0 ∷ [], text, refl, refl, p)) b bs k rest (eqb-true b 0 h.0) h.1
      | inr h ↦ elim (split_if (eqb b 1) (mapped_at imports.Table table_type_at bs) second (read_as k rest)
          h.1) [
            | inl j ↦ coded_sound table_type import_kind table_type_at imports.Table 1 table_type_reads
                (λ x text p. (1 ∷ [], text, refl, refl, p)) b bs k rest (eqb-true b 1 j.0) j.1
            | inr j ↦ elim (split_if (eqb b 2) (mapped_at imports.Memory limits_at bs) third (read_as k rest)
                j.1) [
                  | inl m ↦ coded_sound limits import_kind limits_at imports.Memory 2 limits_reads
                      (λ x text p. (2 ∷ [], text, refl, refl, p)) b bs k rest (eqb-true b 2 m.0) m.1
                  | inr m ↦
                      let i = held_if (eqb b 3) (mapped_at imports.Global global_type_at bs) (k, rest) m.1 in
                      coded_sound global_type import_kind global_type_at imports.Global 3 global_type_reads
                      (λ x text p. (3 ∷ [], text, refl, refl, p)) b bs k rest (eqb-true b 3 i.0) i.1
                ]
          ]
    ]

coded_found : {A : Type 0} (P : A → Texts) (p : Reader A) (f : A → ImportKind) (code : ℕ) → Reads P p
    → ((bs : List ℕ) → import_kind_at (code ∷ bs) ≡ mapped_at f p bs)
    → (x : A) (text rest : List ℕ) → (byte code then P x) text
    → import_kind_at (text ++ rest) ≡ Some (f x, rest)
coded_found P p f code r goes x text rest h =
    let e = r.complete h.1 rest x h.4 in
    ap (λ t. import_kind_at (t ++ rest)) (h.2 ∙ ap (λ a. a ++ h.1) h.3) ∙ goes (h.1 ++ rest)
    ∙ ap (λ o. o >>= λ y. read_as (f y.0) y.1) e

import_kind_found : (k : ImportKind) (text rest : List ℕ) → import_kind k text
    → import_kind_at (text ++ rest) ≡ Some (k, rest)
import_kind_found (imports.Func index) text rest h =
    coded_found (unsigned 32) (unsigned_at 32) imports.Func 0 (unsigned_reads 32) (λ bs. refl) index text
    rest h
import_kind_found (imports.Table l) text rest h =
    coded_found table_type table_type_at imports.Table 1 table_type_reads (λ bs. refl) l text rest h
import_kind_found (imports.Memory l) text rest h =
    coded_found limits limits_at imports.Memory 2 limits_reads (λ bs. refl) l text rest h
import_kind_found (imports.Global g) text rest h =
    coded_found global_type global_type_at imports.Global 3 global_type_reads (λ bs. refl) g text rest h

import_kind_reads : Reads import_kind import_kind_at
import_kind_reads =
    record { sound = import_kind_sound; complete = λ text rest k h. import_kind_found k text rest h }

pub import_reads : Reads imported import_at
unfolding import_at
import_reads =
    let P : List ℕ × ImportKind → Texts = λ x. name x.0 then import_kind x.1 in
    let second = both_reads name import_kind name_at import_kind_at name_reads import_kind_reads in
    let first = both_reads name P name_at (both_at name_at import_kind_at) name_reads second in
    mapped_reads (λ (x : List ℕ × (List ℕ × ImportKind)). name x.0 then P x.1)
    (both_at name_at (both_at name_at import_kind_at)) imported_of
    (λ i. (i.module_name, (i.name, i.kind))) (λ a. refl) (λ b. refl) first

pub global_reads : Reads global global_at
unfolding global_at
global_reads =
    let pair = both_reads global_type expression global_type_at expression_at global_type_reads
    expression_reads in
    mapped_reads (λ (x : GlobalType × Expr). global_type x.0 then expression x.1)
    (both_at global_type_at expression_at) global_of (λ g. (g.global, g.first)) (λ a. refl)
    (λ b. refl) pair

export_kind_found : (k : ExportKind) (text : List ℕ) → export_kind k text → (b : ℕ) × (text ≡ b ∷ [])
    × (row_of export_kinds b ≡ Some k)
export_kind_found exports.Func text h = (0, h, refl)
export_kind_found exports.Table text h = (1, h, refl)
export_kind_found exports.Memory text h = (2, h, refl)
export_kind_found exports.Global text h = (3, h, refl)

export_kind_reads : Reads export_kind export_kind_at
export_kind_reads = coded_reads export_kind export_kinds (refl, (refl, (refl, (refl, tt)))) export_kind_found

pub export_reads : Reads exported export_at
unfolding export_at
export_reads =
    let P : ExportKind × ℕ → Texts = λ x. export_kind x.0 then unsigned 32 x.1 in
    let second = both_reads export_kind (unsigned 32) export_kind_at (unsigned_at 32) export_kind_reads
    (unsigned_reads 32) in
    let first = both_reads name P name_at (both_at export_kind_at (unsigned_at 32)) name_reads second in
    mapped_reads (λ (x : List ℕ × (ExportKind × ℕ)). name x.0 then P x.1)
    (both_at name_at (both_at export_kind_at (unsigned_at 32))) exported_of
    (λ e. (e.name, (e.kind, e.index))) (λ a. refl) (λ b. refl) first

pub element_reads : Reads element element_at
unfolding element_at
element_reads =
    let P : Expr × List ℕ → Texts = λ x. expression x.0 then vector (unsigned 32) x.1 in
    let functions = vector_reads (unsigned 32) (unsigned_at 32) (unsigned_reads 32) in
    let second = both_reads expression (vector (unsigned 32)) expression_at (vector_at (unsigned_at 32))
    expression_reads functions in
    let first = both_reads (unsigned 32) P (unsigned_at 32)
    (both_at expression_at (vector_at (unsigned_at 32))) (unsigned_reads 32) second in
    mapped_reads (λ (x : ℕ × (Expr × List ℕ)). unsigned 32 x.0 then P x.1)
    (both_at (unsigned_at 32) (both_at expression_at (vector_at (unsigned_at 32)))) element_of
    (λ s. (s.table, (s.offset, s.functions))) (λ a. refl) (λ b. refl) first

run_reads : Reads locals_run run_at
unfolding run_at
run_reads =
    let pair = both_reads (unsigned 32) value_type (unsigned_at 32) value_type_at (unsigned_reads 32)
    value_type_reads in
    mapped_reads (λ (x : ℕ × ValType). unsigned 32 x.0 then value_type x.1)
    (both_at (unsigned_at 32) value_type_at) locals_of (λ l. (l.count, l.kind)) (λ a. refl)
    (λ b. refl) pair

function_reads : Reads function function_at
unfolding function_at
function_reads =
    let runs = vector_reads locals_run run_at run_reads in
    let pair = both_reads (vector locals_run) expression (vector_at run_at) expression_at runs
    expression_reads in
    let Q : Function → Texts = λ f. vector locals_run f.runs then expression f.list in
    let mapped = mapped_reads (λ (x : List Locals × Expr). vector locals_run x.0 then expression x.1)
    (both_at (vector_at run_at) expression_at) function_of (λ f. (f.runs, f.list)) (λ a. refl)
    (λ b. refl) pair in
    tested_reads Q (mapped_at function_of (both_at (vector_at run_at) expression_at))
    (λ f. local_count f.runs < 2 ^ 32) (λ f. nat_lt (local_count f.runs) (2 ^ 32))
    (λ f. (ltb-true (local_count f.runs) (2 ^ 32), lt-ltb (local_count f.runs) (2 ^ 32))) mapped

pub body_reads : Reads body body_at
unfolding body_at
body_reads = sized_reads function (whole_at function_at) (whole_reads function function_at function_reads)

pub segment_reads : Reads segment segment_at
unfolding segment_at
segment_reads =
    let P : Expr × List ℕ → Texts = λ x. expression x.0 then bytes x.1 in
    let second = both_reads expression bytes expression_at sized_bytes_at expression_reads cut_reads in
    let first = both_reads (unsigned 32) P (unsigned_at 32) (both_at expression_at sized_bytes_at)
    (unsigned_reads 32) second in
    mapped_reads (λ (x : ℕ × (Expr × List ℕ)). unsigned 32 x.0 then P x.1)
    (both_at (unsigned_at 32) (both_at expression_at sized_bytes_at)) segment_of
    (λ s. (s.memory, (s.offset, s.bytes))) (λ a. refl) (λ b. refl) first
