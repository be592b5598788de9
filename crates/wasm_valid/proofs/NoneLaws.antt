-- Lists of which no item passes a test, and lists of which all keep a rule.
use Rattle.std.proofs.Common.{◌≡◌, ℕ, zero, suc, ◌+◌, List, [], ◌∷◌, map, cond, Bool, true, false, Option}
use Rattle.std.proofs.Common.{Some, None, refl, sym, subst, ◌∙◌, ap}
use Rattle.std.specs.Prelude.{◌||◌, slice_get, position, All, IfSome}
use Rattle.std.specs.List.{list_any, position_from}
use Rattle.std.proofs.lemmas.Bool.{or_parts, or_from}
use Rattle.std.proofs.lemmas.Iterator.Adapters.{position_from-zero}
use Rattle.std.proofs.lemmas.List.Elements.{All-nil, All-cons}
use Rattle.std.proofs.lemmas.Option.{same_Some}
use Rattle.wasm_tree.proofs.MarkLaws.{got_all}

failed : (b : Bool) (i : ℕ) (o : Option ℕ) → cond b (Some i) o ≡ None → (b ≡ false) × (o ≡ None)
failed true i o e = absurd cc
failed false i o e = (refl, e)

none_from : {X : Type 0} (p : X → Bool) (i : ℕ) (xs : List X) → position_from p i xs ≡ None
    → list_any p xs ≡ false
none_from p i [] e = refl
none_from p i (x ∷ xs) e =
    let h = failed (p x) i (position_from p (i + 1) xs) e in
    or_from (p x) (list_any p xs) h.0 (none_from p (i + 1) xs h.1)

pub none_by_position : {X : Type 0} (p : X → Bool) (xs : List X) → position p xs ≡ None
    → list_any p xs ≡ false
none_by_position p xs e = none_from p 0 xs (sym (position_from-zero p xs) ∙ e)

-- the flags of a list
pub any_mapped : {X : Type 0} (f : X → Bool) (xs : List X) → list_any (λ b. b) (map f xs) ≡ list_any f xs
any_mapped f [] = refl
any_mapped f (x ∷ xs) = ap (λ b. f x || b) (any_mapped f xs)

pub none_at : {X : Type 0} (p : X → Bool) (xs : List X) (k : ℕ) (x : X)
    → list_any p xs ≡ false → slice_get xs k ≡ Some x → p x ≡ false
none_at p [] k x h e = absurd (cc e)
none_at p (y ∷ xs) zero x h e =
    subst (λ z. p z ≡ false) (same_Some y x e) (or_parts (p y) (list_any p xs) h).0
none_at p (y ∷ xs) (suc k) x h e = none_at p xs k x (or_parts (p y) (list_any p xs) h).1 e

-- what no item has, all lack
pub none_all : {X : Type 0} (p : X → Bool) (P : X → Type 0) (xs : List X)
    → ((x : X) → p x ≡ false → P x) → list_any p xs ≡ false → All P xs
none_all p P [] g h = All-nil P
none_all p P (x ∷ xs) g h =
    let q = or_parts (p x) (list_any p xs) h in All-cons P x xs (g x q.0) (none_all p P xs g q.1)

pub all_at : {X : Type 0} (P : X → Type 0) (xs : List X) (k : ℕ) (x : X) → All P xs
    → slice_get xs k ≡ Some x → P x
all_at P xs k x h e = subst (λ o. IfSome o P) e (got_all P xs k h)
