-- The abstract stack decides the typing of the bodies of a module without floats.
use Rattle.std.proofs.Common.{◌≡◌, ℕ, zero, suc, false, ◌||◌, List, [], ◌∷◌, replicate, Some, sym, ◌∙◌, subst}
use Rattle.std.specs.Prelude.{slice_get}
use Rattle.std.specs.List.{list_any}
use Rattle.std.proofs.lemmas.Bool.{or_parts}
use Rattle.std.proofs.lemmas.List.Elements.{All-nil, All-cons}
use Rattle.w4_defs.specs.declared.value.ValType.{ValType}
use Rattle.w4_defs.specs.declared.value.ValType.TheVariants.{I32, I64, F32, F64}
use Rattle.w4_defs.specs.declared.module.Locals.{Locals}
use Rattle.w4_defs.specs.Module.{Signature, Function, WasmModule}
use Rattle.w4_defs.specs.Lookup.{global_types, local_types}
use Rattle.w4_defs.specs.Floats.{is_float, has_float, signature_has_float, function_has_float}
use Rattle.w4_defs.specs.Floats.{module_has_float}
use Rattle.w4_defs.specs.Typing.{IsInt, AreInt, HasType, body_context}
use Rattle.wasm_valid.specs.AbstractStackLaw.{HasNoFloat, StackDecidesBodies}
use Rattle.wasm_valid.proofs.IntLaws.{joined_int}
use Rattle.wasm_valid.proofs.NoneLaws.{none_at, none_all}
use Rattle.wasm_valid.proofs.AbstractStackLaws.{stack_decides}

int_type : (t : ValType) → is_float t ≡ false → IsInt t
int_type I32 h = tt
int_type I64 h = tt
int_type F32 h = absurd (cc h)
int_type F64 h = absurd (cc h)

int_types : (ts : List ValType) → list_any is_float ts ≡ false → AreInt ts
int_types [] h = tt
int_types (t ∷ ts) h =
    let q = or_parts (is_float t) (list_any is_float ts) h in (int_type t q.0, int_types ts q.1)

int_signature : (s : Signature) → signature_has_float s ≡ false → AreInt s.params × AreInt s.results
int_signature s h =
    let q = or_parts (list_any is_float s.params) (list_any is_float s.results) h in
    (int_types s.params q.0, int_types s.results q.1)

repeated_int : (n : ℕ) (t : ValType) → IsInt t → AreInt (replicate n t)
repeated_int zero t i = tt
repeated_int (suc n) t i = (i, repeated_int n t i)

locals_int : (runs : List Locals) → list_any (λ run. is_float run.kind) runs ≡ false
    → AreInt (local_types runs)
locals_int [] h = tt
locals_int (run ∷ runs) h =
    let q = or_parts (is_float run.kind) (list_any (λ run. is_float run.kind) runs) h in
    joined_int (replicate run.count run.kind) (local_types runs)
    (repeated_int run.count run.kind (int_type run.kind q.0)) (locals_int runs q.1)

-- the three parts of a module that typing looks at
pub record Free (m : WasmModule) : Type 0 where
  pub types : list_any signature_has_float m.types ≡ false
  pub globals : list_any (λ g. is_float g.value) (global_types m) ≡ false
  pub bodies : list_any function_has_float m.bodies ≡ false

pub free : (m : WasmModule) → module_has_float m ≡ false → Free m
free m h =
    let types = list_any signature_has_float m.types in
    let globals = list_any (λ g. is_float g.value) (global_types m) in
    let firsts = list_any (λ g. has_float g.first) m.globals in
    let elements = list_any (λ s. has_float s.offset) m.elements in
    let bodies = list_any function_has_float m.bodies in
    let a =
    or_parts (types || globals || firsts || elements || bodies)
    (list_any (λ s. has_float s.offset) m.segments) h in
    let b = or_parts (types || globals || firsts || elements) bodies a.0 in
    let d = or_parts (types || globals || firsts) elements b.0 in
    let e = or_parts (types || globals) firsts d.0 in
    let f = or_parts types globals e.0 in
    record { types = f.0; globals = f.1; bodies = b.1 }

body_free : (m : WasmModule) (index k : ℕ) (s : Signature) (f : Function) → Free m
    → slice_get m.types index ≡ Some s → slice_get m.bodies k ≡ Some f
    → HasNoFloat (body_context m s f) × (has_float f.list ≡ false) × AreInt s.results
body_free m index k s f w e g =
    let ints = int_signature s (none_at signature_has_float m.types index s w.types e) in
    let q =
    or_parts (list_any (λ run. is_float run.kind) f.runs) (has_float f.list)
    (none_at function_has_float m.bodies k f w.bodies g) in (
      record {
        locals = joined_int s.params (local_types f.runs) ints.0 (locals_int f.runs q.0);
        labels = All-cons AreInt s.results [] ints.1 (All-nil AreInt);
        results = ints.1;
        signatures =
            none_all signature_has_float (λ s. AreInt s.params × AreInt s.results) m.types int_signature
            w.types;
        globals =
            none_all (λ g. is_float g.value) (λ g. IsInt g.value) (global_types m) (λ g h. int_type g.value h)
            w.globals;
      },
      q.1,
      ints.1,
    )

pub stack_decides_bodies : StackDecidesBodies
stack_decides_bodies m index k s f h e g =
    let p = body_free m index k s f (free m h) e g in
    let law = stack_decides (body_context m s f) f.list s.results p.0 p.1 p.2 in (
      (λ t. let same : t.0 ≡ s = cc (sym t.1 ∙ e) in
          law.0 (subst (λ x. HasType (body_context m x f) f.list [] x.results) same t.2)),
      (λ b. (s, e, law.1 b)),
    )
