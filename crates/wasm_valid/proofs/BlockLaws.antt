-- A list is finished where its results are taken and nothing is left; and what each step is.
use Rattle.std.proofs.Common.{◌≡◌, Bool, true, false, cond, ◌&&◌, List, [], ◌∷◌, reverse, Option, Some, None}
use Rattle.std.proofs.Common.{option_map, option_and_then, refl, sym, ap, ◌∙◌}
use Rattle.std.specs.Prelude.{slice_get}
use Rattle.std.proofs.lemmas.Option.{same_Some}
use Rattle.w4_defs.specs.declared.value.ValType.{ValType}
use Rattle.w4_defs.specs.AbstractStack.{OperandType, agrees, agree, below_all, with_operands, taken}
use Rattle.wasm_valid.specs.Pass.{OpenBlock, with_stack}
use Rattle.wasm_valid.specs.ControlStack.{at_top, is_nil, has_no_operands, finishes}
use Rattle.wasm_valid.proofs.OperandTypeLaws.{anything_agrees}

abbrev none_left : Option (List OperandType) → Bool
none_left None = false
none_left (Some ks) = is_nil ks

-- the results are taken where the topmost operand type agrees or not
agreed : (ts : List ValType) (unreachable : Bool) (ks : List OperandType) (b : Bool)
    → agree ks unreachable ts ≡ none_left (below_all ts unreachable ks)
    → (b && agree ks unreachable ts)
    ≡ none_left (option_and_then (below_all ts unreachable) (cond b (Some ks) None))
agreed ts unreachable ks true h = h
agreed ts unreachable ks false h = refl

agree_taken : (ts : List ValType) (unreachable : Bool) (ks : List OperandType)
    → agree ks unreachable ts ≡ none_left (below_all ts unreachable ks)
agree_taken [] unreachable [] = refl
agree_taken [] unreachable (k ∷ ks) = refl
agree_taken (t ∷ ts) true [] = sym (anything_agrees ts) ∙ agree_taken ts true []
agree_taken (t ∷ ts) false [] = refl
agree_taken (t ∷ ts) true (k ∷ ks) = agreed ts true ks (agrees k t) (agree_taken ts true ks)
agree_taken (t ∷ ts) false (k ∷ ks) = agreed ts false ks (agrees k t) (agree_taken ts false ks)

abbrev pub bare_left : Option (List OpenBlock) → Bool
bare_left None = false
bare_left (Some os) = has_no_operands os

left_stack : (o : OpenBlock) (os : List OpenBlock) (x : Option (List OperandType))
    → none_left x ≡ bare_left (option_map (λ s. with_stack o s ∷ os) (option_map (with_operands o.stack) x))
left_stack o os None = refl
left_stack o os (Some ks) = refl

pub finished : (old : List OpenBlock) (ts : List ValType)
    → Some ts ≡ option_map (λ o. o.result) (slice_get old 0)
    → finishes old ≡ bare_left (at_top (taken ts) old)
finished [] ts h = absurd (cc h)
finished (o ∷ os) ts h =
    agree_taken (reverse o.result) o.stack.unreachable o.stack.operands
    ∙ left_stack o os (below_all (reverse o.result) o.stack.unreachable o.stack.operands)
    ∙ ap (λ us. bare_left (at_top (taken us) (o ∷ os))) (sym (same_Some _ _ h))
