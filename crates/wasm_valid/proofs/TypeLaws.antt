-- Types of different lengths, and types that are the same.
use Rattle.std.proofs.Common.{◌≡◌, suc, List, [], ◌∷◌, length, Bool, true, false, refl, ◌∙◌, ap}
use Rattle.std.specs.Prelude.{◌&&◌}
use Rattle.w4_defs.specs.declared.value.ValType.{ValType}
use Rattle.w4_defs.specs.ValueTypes.{same_type, same_types, same_signature}
use Rattle.w4_defs.specs.Module.{Signature}
use Rattle.std.proofs.lemmas.Bool.{and_parts}
use Rattle.wasm_valid.proofs.OperandTypeLaws.{same_types_are}

both_false : (b c : Bool) → false ≡ c → false ≡ (b && c)
both_false true c e = e
both_false false c e = refl

pub other_length : (ss ts : List ValType) → (length ss ≡ length ts → ⊥) → false ≡ same_types ss ts
other_length [] [] h = absurd (h refl)
other_length [] (t ∷ ts) h = refl
other_length (s ∷ ss) [] h = refl
other_length (s ∷ ss) (t ∷ ts) h =
    both_false (same_type s t) (same_types ss ts) (other_length ss ts (λ e. h (ap suc e)))

pub same_signature_is : (s t : Signature) → same_signature s t ≡ true → s ≡ t
same_signature_is s t e =
    let h = and_parts (same_types s.params t.params) (same_types s.results t.results) e in
    ap (λ ps. record { params = ps; results = s.results }) (same_types_are s.params t.params h.0)
    ∙ ap (λ rs. record { params = t.params; results = rs }) (same_types_are s.results t.results h.1)
