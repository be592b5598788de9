-- A single constant, by the operations of its flattening.
use Rattle.std.proofs.Common.{◌≡◌, ◌+◌, ◌<◌, List, [], ◌∷◌, length, Bool, Option, Some, None, refl, sym, ◌∙◌}
use Rattle.std.proofs.Common.{ap, arith}
use Rattle.std.specs.Bool.{Decides}
use Rattle.std.proofs.lemmas.Bool.Decides.{Decides-like}
use Rattle.std.proofs.lemmas.List.{length-map}
use Rattle.w4_defs.specs.declared.operation.Op.{Op}
use Rattle.w4_defs.specs.declared.value.ValType.{ValType}
use Rattle.w4_defs.specs.Tree.{Expr, done, plain, block, loop, if_then, if_else, span, flat}
use Rattle.w4_defs.specs.declared.operation.Op.TheVariants.{End}
use Rattle.w4_defs.specs.Validity.{IsConstant}
use Rattle.wasm_tree.specs.Pool.{operations_of}
use Rattle.wasm_valid.specs.Constants.{only_constant}
use Rattle.wasm_tree.proofs.ShiftLaws.{length_flat}

-- three operations or more aren't one constant
longer : (ops : List Op) → 2 < length ops → only_constant ops ≡ None
longer [] h = refl
longer (a ∷ []) h = refl
longer (a ∷ (b ∷ [])) h = absurd (omega arith)
longer (a ∷ (b ∷ (c ∷ ops))) h = refl

flat_length : (e : Expr) → length (operations_of (flat e)) ≡ span e + 1
flat_length e = length-map (flat e) (λ m. m.0) ∙ length_flat End 0 e

-- a list of more than one instruction
not_one : (t : ValType) (e : Expr) → 1 < span e → only_constant (operations_of (flat e)) ≡ Some t → ⊥
not_one t e h is =
    let none = longer (operations_of (flat e)) (omega (arith, flat_length e)) in cc

pub constant_to : (t : ValType) (e : Expr) → only_constant (operations_of (flat e)) ≡ Some t → IsConstant t e
constant_to t done is = absurd cc
constant_to t (plain m done) is = is
constant_to t (plain m (plain n rest)) is = absurd (not_one t (plain m (plain n rest)) (omega arith) is)
constant_to t (plain m (block r inner rest)) is =
    absurd (not_one t (plain m (block r inner rest)) (omega arith) is)
constant_to t (plain m (loop r inner rest)) is =
    absurd (not_one t (plain m (loop r inner rest)) (omega arith) is)
constant_to t (plain m (if_then r taken rest)) is =
    absurd (not_one t (plain m (if_then r taken rest)) (omega arith) is)
constant_to t (plain m (if_else r taken other rest)) is =
    absurd (not_one t (plain m (if_else r taken other rest)) (omega arith) is)
constant_to t (block r inner rest) is = absurd (not_one t (block r inner rest) (omega arith) is)
constant_to t (loop r inner rest) is = absurd (not_one t (loop r inner rest) (omega arith) is)
constant_to t (if_then r taken rest) is = absurd (not_one t (if_then r taken rest) (omega arith) is)
constant_to t (if_else r taken other rest) is =
    absurd (not_one t (if_else r taken other rest) (omega arith) is)

pub constant_from : (t : ValType) (e : Expr) → IsConstant t e
    → only_constant (operations_of (flat e)) ≡ Some t
constant_from t done h = absurd (cc h)
constant_from t (plain m done) h = h
constant_from t (plain m (plain n rest)) h = absurd (cc h)
constant_from t (plain m (block r inner rest)) h = absurd (cc h)
constant_from t (plain m (loop r inner rest)) h = absurd (cc h)
constant_from t (plain m (if_then r taken rest)) h = absurd (cc h)
constant_from t (plain m (if_else r taken other rest)) h = absurd (cc h)
constant_from t (block r inner rest) h = absurd (cc h)
constant_from t (loop r inner rest) h = absurd (cc h)
constant_from t (if_then r taken rest) h = absurd (cc h)
constant_from t (if_else r taken other rest) h = absurd (cc h)

pub constant_decided : (r : Bool) (t : ValType) (e : Expr) (ops : List Op) (found : Option ValType)
    → ops ≡ operations_of (flat e) → found ≡ only_constant ops → Decides r (found ≡ Some t)
    → Decides r (IsConstant t e)
constant_decided r t e ops found eo ef d =
    let is : found ≡ only_constant (operations_of (flat e)) = ef ∙ ap only_constant eo in
    Decides-like {P = found ≡ Some t} {Q = IsConstant t e} r (λ h. constant_to t e (sym is ∙ h))
    (λ h. is ∙ constant_from t e h) d
