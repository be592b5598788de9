-- Values by their types (Core Specification, sections 2.3.1 and 4.2.1): which type a value has, and whether
-- values are of the types of a list.
use Rattle.std.specs.Prelude.{ℕ, List, [], ◌∷◌, Bool, true, false, ◌&&◌, Option, length, option_to_list}
use Rattle.w4_defs.specs.declared.value.Val.{Val}
use Rattle.w4_defs.specs.declared.value.Val.TheVariants as val
use Rattle.w4_defs.specs.declared.value.ValType.{ValType}
use Rattle.w4_defs.specs.declared.value.ValType.TheVariants.{I32, I64, F32, F64}
use Rattle.w4_defs.specs.Module.{Signature}

abbrev pub type_of : Val → ValType
type_of (val.I32 n) = I32
type_of (val.I64 n) = I64

abbrev pub integer_of : Val → ℕ
integer_of (val.I32 n) = n
integer_of (val.I64 n) = n

abbrev pub integers_of : List Val → List ℕ
integers_of [] = []
integers_of (v ∷ vs) = integer_of v ∷ integers_of vs

abbrev pub same_type : ValType → ValType → Bool
same_type I32 I32 = true
same_type I64 I64 = true
same_type F32 F32 = true
same_type F64 F64 = true
same_type a b = false

abbrev pub same_types : List ValType → List ValType → Bool
same_types [] [] = true
same_types (s ∷ ss) (t ∷ ts) = same_type s t && same_types ss ts
same_types ss ts = false

abbrev pub same_signature : Signature → Signature → Bool
same_signature s t = same_types s.params t.params && same_types s.results t.results

-- as many values as types, each of its type
abbrev pub have_types : List ValType → List Val → Bool
have_types [] [] = true
have_types (t ∷ ts) (v ∷ vs) = same_type t (type_of v) && have_types ts vs
have_types ts vs = false

abbrev pub same_value_type : Val → Val → Bool
same_value_type v w = same_type (type_of v) (type_of w)

-- the types of a block's result, and how many they are
abbrev pub result_types : Option ValType → List ValType
result_types r = option_to_list r

abbrev pub result_arity : Option ValType → ℕ
result_arity r = length (result_types r)
