-- Steps of a reader taken apart.
use Rattle.std.proofs.Common.{◌≡◌, ◌≢◌, ℕ, Bool, true, false, ◌&&◌, ◌||◌, eqb, if◌then◌else◌, ◌⊎◌, inl, inr}
use Rattle.std.proofs.Common.{List, Some, None, refl, ap, subst, arith}
use Rattle.std.proofs.lemmas.Bool.Decides.{nat_tests}
use Rattle.w4_defs.specs.BinaryText.{Texts}
use Rattle.wasm_read.specs.Reader.{read_as, Takes}

pub split_if : {A : Type 0} (c : Bool) (x y z : A) → (if c then x else y) ≡ z → ((c ≡ true) × (x ≡ z))
    ⊎ ((c ≡ false) × (y ≡ z))
split_if true x y z e = inl (refl, e)
split_if false x y z e = inr (refl, e)

-- a value that was read, and the rest
pub same_read : {A : Type 0} (x y : A) (r s : List ℕ) → read_as x r ≡ read_as y s → (x ≡ y) × (r ≡ s)
same_read x y r s e =
    (ap (λ o. elim o [ Some p ↦ p.0 | None ↦ x ]) e, ap (λ o. elim o [ Some p ↦ p.1 | None ↦ r ]) e)

pub takes_as_read : {A : Type 0} (spelled : A → Texts) (bytes : List ℕ) (x y : A) (r s : List ℕ)
    → Takes spelled bytes x r → read_as x r ≡ read_as y s → Takes spelled bytes y s
takes_as_read {A} spelled bytes x y r s t e =
    let same = same_read x y r s e in
    let P : A → Type 0 = λ z. Takes spelled bytes z r in
    let Q : List ℕ → Type 0 = λ z. Takes spelled bytes y z in
    subst Q same.1 (subst P same.0 t)

pub and_true : (a b : Bool) → (a && b) ≡ true → (a ≡ true) × (b ≡ true)
and_true true b e = (refl, e)
and_true false b e = absurd cc

pub or_true : (a b : Bool) → (a || b) ≡ true → (a ≡ true) ⊎ (b ≡ true)
or_true true b e = inl refl
or_true false b e = inr e

pub numbers_differ : (a b : ℕ) → eqb a b ≡ false → a ≢ b
numbers_differ a b e = grind (arith, nat_tests)

pub numbers_differ_tested : (a b : ℕ) → a ≢ b → eqb a b ≡ false
numbers_differ_tested a b h = grind (arith, nat_tests)
