-- What is asked of the innermost list, one operand type after the other.
use Rattle.std.proofs.Common.{◌≡◌, ℕ, zero, suc, ◌+◌, ◌-◌, ◌<◌, Bool, true, cond, List, [], ◌∷◌, ◌++◌, length}
use Rattle.std.proofs.Common.{take, reverse, get_or, Option, Some, None, option_map, option_and_then, refl}
use Rattle.std.proofs.Common.{sym, ap, ◌∙◌, arith}
use Rattle.std.proofs.lemmas.List.{reverse-append}
use Rattle.w4_defs.specs.declared.value.ValType.{ValType}
use Rattle.w4_defs.specs.AbstractStack.{OperandType, AbstractStack, below, below_all, with_operands, taken}
use Rattle.wasm_valid.specs.Pass.{OpenBlock, with_stack}
use Rattle.wasm_valid.specs.ControlStack.{at_top, on_top}

pub at_same : (f g : AbstractStack → Option AbstractStack) (os : List OpenBlock)
    → ((s : AbstractStack) → f s ≡ g s)
    → at_top f os ≡ at_top g os
at_same f g [] h = refl
at_same f g (o ∷ os) h = ap (option_map (λ s. with_stack o s ∷ os)) (h o.stack)

mapped_stack : (o : OpenBlock) (os : List OpenBlock) (f : AbstractStack → AbstractStack)
    (x : Option AbstractStack)
    → option_map (λ s. with_stack o s ∷ os) (option_map f x)
    ≡ option_map (on_top f) (option_map (λ s. with_stack o s ∷ os) x)
mapped_stack o os f None = refl
mapped_stack o os f (Some s) = refl

pub at_map : (f : AbstractStack → AbstractStack) (g : AbstractStack → Option AbstractStack)
    (os : List OpenBlock)
    → at_top (λ s. option_map f (g s)) os ≡ option_map (on_top f) (at_top g os)
at_map f g [] = refl
at_map f g (o ∷ os) = mapped_stack o os f (g o.stack)

then_stack : (o : OpenBlock) (os : List OpenBlock) (f : AbstractStack → Option AbstractStack)
    (x : Option AbstractStack)
    → option_map (λ s. with_stack o s ∷ os) (option_and_then f x)
    ≡ option_and_then (at_top f) (option_map (λ s. with_stack o s ∷ os) x)
then_stack o os f None = refl
then_stack o os f (Some s) = refl

pub at_then : (f g : AbstractStack → Option AbstractStack) (os : List OpenBlock)
    → at_top (λ s. option_and_then f (g s)) os ≡ option_and_then (at_top f) (at_top g os)
at_then f g [] = refl
at_then f g (o ∷ os) = then_stack o os f (g o.stack)

pub on_both : (f g : AbstractStack → AbstractStack) (os : List OpenBlock)
    → on_top f (on_top g os) ≡ on_top (λ s. f (g s)) os
on_both f g [] = refl
on_both f g (o ∷ os) = refl

pub on_same : (f g : AbstractStack → AbstractStack) (os : List OpenBlock) → ((s : AbstractStack) → f s ≡ g s)
    → on_top f os ≡ on_top g os
on_same f g [] h = refl
on_same f g (o ∷ os) h = ap (λ s. with_stack o s ∷ os) (h o.stack)

-- ---- several types are taken, the last first

below_then : (ts : List ValType) (s : AbstractStack) (x : Option (List OperandType))
    → option_map (with_operands s) (option_and_then (below_all (reverse ts) s.unreachable) x)
    ≡ option_and_then (taken ts)
    (option_map (with_operands s) (option_and_then (below_all [] s.unreachable) x))
below_then ts s None = refl
below_then ts s (Some ks) = refl

taken_stack : (ts : List ValType) (t : ValType) (s : AbstractStack)
    → taken (ts ++ t ∷ []) s ≡ option_and_then (taken ts) (taken (t ∷ []) s)
taken_stack ts t s =
    ap (λ us. option_map (with_operands s) (below_all us s.unreachable s.operands))
    (reverse-append ts (t ∷ []))
    ∙ below_then ts s (below t s.unreachable s.operands)

pub taken_last : (ts : List ValType) (t : ValType) (os : List OpenBlock)
    → at_top (taken (ts ++ t ∷ [])) os ≡ option_and_then (at_top (taken ts)) (at_top (taken (t ∷ [])) os)
taken_last ts t os =
    at_same (taken (ts ++ t ∷ [])) (λ s. option_and_then (taken ts) (taken (t ∷ []) s)) os (taken_stack ts t)
    ∙ at_then (taken ts) (taken (t ∷ [])) os

-- the first types up to and with one
up_to : {A : Type 0} (xs : List A) (k : ℕ) (d : A) → k < length xs
    → take (suc k) xs ≡ take k xs ++ get_or xs k d ∷ []
up_to [] k d h = absurd (omega (arith, h))
up_to (x ∷ xs) zero d h = refl
up_to (x ∷ xs) (suc k) d h = ap (λ zs. x ∷ zs) (up_to xs k d (omega (arith, h)))

pub taken_step : (ts : List ValType) (i : ℕ) (d : ValType) (old new : List OpenBlock) (b : Bool)
    → i < length ts
    → at_top (taken (get_or ts (length ts - 1 - i) d ∷ [])) old ≡ cond b (Some new) None → b ≡ true
    → at_top (taken (take (length ts - (i + 1)) ts)) new ≡ at_top (taken (take (length ts - i) ts)) old
taken_step ts i d old new b h went eb =
    let k : ℕ = length ts - 1 - i in
    sym (ap (λ n. at_top (taken (take n ts)) old) {y = suc k} (omega (arith, h))
    ∙ ap (λ us. at_top (taken us) old) (up_to ts k d (omega (arith, h)))
    ∙ taken_last (take k ts) (get_or ts k d) old
    ∙ ap (option_and_then (at_top (taken (take k ts)))) (went ∙ ap (λ x. cond x (Some new) None) eb)
    ∙ ap (λ n. at_top (taken (take n ts)) new) {x = k} (omega (arith, h)))
