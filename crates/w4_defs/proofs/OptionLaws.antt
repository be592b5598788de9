-- What is known where an option is there.
use Rattle.std.proofs.Common.{◌≡◌, Bool, true, false, cond, Option, Some, None, refl, ap}
use Rattle.w4_defs.specs.Reading.{◌>>=◌}

-- a reader of two steps that reads has read both
pub bind_some : {A B : Type 0} (o : Option A) (f : A → Option B) (y : B) → (o >>= f) ≡ Some y
    → (x : A) × (o ≡ Some x) × (f x ≡ Some y)
bind_some (Some x) f y e = (x, refl, e)
bind_some None f y e = absurd cc

pub held_if : {A : Type 0} (c : Bool) (o : Option A) (z : A) → cond c o None ≡ Some z
    → (c ≡ true) × (o ≡ Some z)
held_if true o z e = (refl, e)
held_if false o z e = absurd cc

pub some_same : {A : Type 0} (a b : A) → Some a ≡ Some b → a ≡ b
some_same {A} a b e = let inside : Option A → A = λ o. elim o [ Some x ↦ x | None ↦ a ] in ap inside e

pub no_none : {A : Type 0} (a : A) → None ≡ Some a → ⊥
no_none a e = cc
