-- The types of lists of values: joined, cut, reversed, read and written.
use Rattle.std.proofs.Common.{◌≡◌, ℕ, zero, suc, true, false, nat_le, List, [], ◌∷◌, ◌++◌, length, take, drop}
use Rattle.std.proofs.Common.{reverse, replicate, Some, slice_set, refl, sym, ap, ◌∙◌, subst, arith}
use Rattle.std.specs.Prelude.{slice_get}
use Rattle.std.specs.List.{list_any}
use Rattle.std.proofs.lemmas.Bool.{and_from, or_parts, le-leb}
use Rattle.std.proofs.lemmas.List.{reverse-append, take_at, drop_at, length-append, length-reverse}
use Rattle.w4_defs.specs.declared.value.Val.{Val}
use Rattle.w4_defs.specs.declared.value.ValType.{ValType}
use Rattle.w4_defs.specs.declared.value.ValType.TheVariants.{I32, I64, F32, F64}
use Rattle.w4_defs.specs.declared.module.Locals.{Locals}
use Rattle.w4_defs.specs.ValueTypes.{type_of, same_type, same_value_type, have_types}
use Rattle.w4_defs.specs.Lookup.{local_types}
use Rattle.w4_defs.specs.Floats.{is_float}
use Rattle.w4_defs.specs.Program.{value_of, zeros}
use Rattle.w4_defs.specs.RunLaws.{types_of}
use Rattle.wasm_valid.proofs.OperandTypeLaws.{same_type_self}

pub types_joined : (vs ws : List Val) → types_of (vs ++ ws) ≡ types_of vs ++ types_of ws
types_joined [] ws = refl
types_joined (v ∷ vs) ws = ap (λ ts. type_of v ∷ ts) (types_joined vs ws)

pub types_reversed : (vs : List Val) → types_of (reverse vs) ≡ reverse (types_of vs)
types_reversed [] = refl
types_reversed (v ∷ vs) =
    ap types_of (reverse-append (v ∷ []) vs) ∙ types_joined (reverse vs) (v ∷ [])
    ∙ ap (λ ts. ts ++ type_of v ∷ []) (types_reversed vs)
    ∙ sym (reverse-append (type_of v ∷ []) (types_of vs))

pub types_counted : (vs : List Val) → length (types_of vs) ≡ length vs
types_counted [] = refl
types_counted (v ∷ vs) = ap suc (types_counted vs)

pub types_taken : (n : ℕ) (vs : List Val) → types_of (take n vs) ≡ take n (types_of vs)
types_taken zero vs = refl
types_taken (suc n) [] = refl
types_taken (suc n) (v ∷ vs) = ap (λ ts. type_of v ∷ ts) (types_taken n vs)

pub types_dropped : (n : ℕ) (vs : List Val) → types_of (drop n vs) ≡ drop n (types_of vs)
types_dropped zero vs = refl
types_dropped (suc n) [] = refl
types_dropped (suc n) (v ∷ vs) = types_dropped n vs

pub types_repeated : (n : ℕ) (v : Val) → types_of (replicate n v) ≡ replicate n (type_of v)
types_repeated zero v = refl
types_repeated (suc n) v = ap (λ ts. type_of v ∷ ts) (types_repeated n v)

-- operands of the reverse of these types, with others below: there are enough, and the two parts have
-- their types
pub record Split (ts below : List ValType) (ops : List Val) : Type 0 where
  pub enough : nat_le (length ts) (length ops) ≡ true
  pub top : types_of (take (length ts) ops) ≡ reverse ts
  pub rest : types_of (drop (length ts) ops) ≡ below

pub split : (ts below : List ValType) (ops : List Val) → types_of ops ≡ reverse ts ++ below
    → Split ts below ops
split ts below ops h =
    let n = length ts in
    let m : length (reverse ts) ≡ n = length-reverse ts in
    record {
      enough =
          le-leb n (length ops)
          (omega (arith, m, types_counted ops, ap length h, length-append (reverse ts) below));
      top = types_taken n ops ∙ ap (take n) h ∙ take_at (reverse ts) below n m;
      rest = types_dropped n ops ∙ ap (drop n) h ∙ drop_at (reverse ts) below n m;
    }

-- ---- values of a list of types

pub are_of_own : (vs : List Val) → have_types (types_of vs) vs ≡ true
are_of_own [] = refl
are_of_own (v ∷ vs) =
    and_from (same_type (type_of v) (type_of v)) (have_types (types_of vs) vs) (same_type_self (type_of v))
    (are_of_own vs)

pub are_of_typed : (ts : List ValType) (vs : List Val) → types_of vs ≡ ts → have_types ts vs ≡ true
are_of_typed ts vs h = subst (λ ts. have_types ts vs ≡ true) h (are_of_own vs)

pub same_kinds : (v w : Val) → type_of v ≡ type_of w → same_value_type v w ≡ true
same_kinds v w h = subst (λ t. same_type (type_of v) t ≡ true) h (same_type_self (type_of v))

-- ---- one value by its position

-- a value of this type stands there
pub record Typed (vs : List Val) (i : ℕ) (t : ValType) : Type 0 where
  pub value : Val
  pub found : slice_get vs i ≡ Some value
  pub typed : type_of value ≡ t

pub typed_at : (vs : List Val) (i : ℕ) (t : ValType) → slice_get (types_of vs) i ≡ Some t → Typed vs i t
typed_at [] i t h = absurd (cc h)
typed_at (v ∷ vs) zero t h = record { value = v; found = refl; typed = cc h }
typed_at (v ∷ vs) (suc i) t h =
    let p = typed_at vs i t h in record { value = p.value; found = p.found; typed = p.typed }

pub types_set : (vs : List Val) (i : ℕ) (t : ValType) (v : Val) → slice_get (types_of vs) i ≡ Some t
    → type_of v ≡ t → types_of (slice_set vs i v) ≡ types_of vs
types_set [] i t v h e = refl
types_set (w ∷ vs) zero t v h e = ap (λ x. x ∷ types_of vs) (cc (h, e))
types_set (w ∷ vs) (suc i) t v h e = ap (λ ts. type_of w ∷ ts) (types_set vs i t v h e)

-- ---- the locals that begin with 0

type_of_value : (t : ValType) (n : ℕ) → is_float t ≡ false → type_of (value_of t n) ≡ t
type_of_value I32 n h = refl
type_of_value I64 n h = refl
type_of_value F32 n h = absurd (cc h)
type_of_value F64 n h = absurd (cc h)

pub zeros_typed : (runs : List Locals) → list_any (λ run. is_float run.kind) runs ≡ false
    → types_of (zeros runs) ≡ local_types runs
zeros_typed [] h = refl
zeros_typed (run ∷ runs) h =
    let q = or_parts (is_float run.kind) (list_any (λ run. is_float run.kind) runs) h in
    let zero_value = value_of run.kind 0 in
    types_joined (replicate run.count zero_value) (zeros runs)
    ∙ ap (λ ts. ts ++ types_of (zeros runs))
    (types_repeated run.count zero_value ∙ ap (replicate run.count) (type_of_value run.kind 0 q.0))
    ∙ ap (λ ts. replicate run.count run.kind ++ ts) (zeros_typed runs q.1)
