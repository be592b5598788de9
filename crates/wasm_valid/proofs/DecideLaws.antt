-- Tests that are made one after the other, and lists in two parts.
use Rattle.std.proofs.Common.{◌≡◌, List, [], ◌∷◌, ◌++◌, Bool, true, false, Option, Some, None, refl, sym}
use Rattle.std.proofs.Common.{subst, ◌∙◌}
use Rattle.std.specs.Prelude.{All, IfSome, filter_map}
use Rattle.std.specs.List.{cons_option}
use Rattle.std.specs.Bool.{Decides}
use Rattle.std.proofs.lemmas.Bool.{false≢true}
use Rattle.std.proofs.lemmas.List.Elements.{All-nil, All-cons, All-head, All-tail}

-- the first test passes, and so the second decides
pub second_decides : {A B C : Type 0} (a b : Bool) → Decides a A → a ≡ true → Decides b B → (A → B → C)
    → (C → B) → Decides b C
second_decides a b da ea db to from = (λ e. to (da.0 ea) (db.0 e), λ c. db.1 (from c))

-- a test fails whose fact the whole would give
pub first_decides_against : {A C : Type 0} (a : Bool) → Decides a A → a ≡ false → (C → A) → Decides a C
first_decides_against a da ea from = (λ e. absurd (false≢true (sym ea ∙ e)), λ c. da.1 (from c))

joined_option : {Y : Type 0} (o : Option Y) (xs ys : List Y)
    → cons_option o (xs ++ ys) ≡ cons_option o xs ++ ys
joined_option None xs ys = refl
joined_option (Some y) xs ys = refl

-- all items that a list of options gives, and all of another list
given_all : {Y : Type 0} (P : Y → Type 0) (o : Option Y) (xs : List Y) → IfSome o P → All P xs
    → All P (cons_option o xs)
given_all P None xs h k = k
given_all P (Some y) xs h k = All-cons P y xs h k

given_first : {Y : Type 0} (P : Y → Type 0) (o : Option Y) (xs : List Y) → All P (cons_option o xs)
    → IfSome o P × All P xs
given_first P None xs h = (tt, h)
given_first P (Some y) xs h = (All-head P y xs h, All-tail P y xs h)

pub all_joined : {X Y : Type 0} (f : X → Option Y) (P : Y → Type 0) (xs : List X) (ys : List Y)
    → All (λ x. IfSome (f x) P) xs → All P ys → All P (filter_map f xs ++ ys)
all_joined f P [] ys h k = k
all_joined f P (x ∷ xs) ys h k =
    subst (All P) (joined_option (f x) (filter_map f xs) ys)
    (given_all P (f x) (filter_map f xs ++ ys) (All-head (λ z. IfSome (f z) P) x xs h)
    (all_joined f P xs ys (All-tail (λ z. IfSome (f z) P) x xs h) k))

pub all_parted : {X Y : Type 0} (f : X → Option Y) (P : Y → Type 0) (xs : List X) (ys : List Y)
    → All P (filter_map f xs ++ ys) → All (λ x. IfSome (f x) P) xs × All P ys
all_parted f P [] ys h = (All-nil (λ z. IfSome (f z) P), h)
all_parted f P (x ∷ xs) ys h =
    let one =
    given_first P (f x) (filter_map f xs ++ ys)
    (subst (All P) (sym (joined_option (f x) (filter_map f xs) ys)) h) in
    let more = all_parted f P xs ys one.1 in
    (All-cons (λ z. IfSome (f z) P) x xs one.0 more.0, more.1)

-- a test of what is imported, and then one of what is the module's own
pub parts_decide : {X Y : Type 0} (f : X → Option Y) (P : Y → Type 0) (xs is : List X) (ys own : List Y)
    (a b : Bool) → is ≡ xs → own ≡ ys
    → Decides a (All (λ x. IfSome (f x) P) is) → a ≡ true → Decides b (All P own)
    → Decides b (All P (filter_map f xs ++ ys))
parts_decide f P xs is ys own a b ei eo da ea db =
    second_decides {A = All (λ x. IfSome (f x) P) is} {B = All P own} a b da ea db
    (λ h k. all_joined f P xs ys (subst (All (λ x. IfSome (f x) P)) ei h) (subst (All P) eo k))
    (λ h. subst (All P) (sym eo) (all_parted f P xs ys h).1)

pub imported_fails : {X Y : Type 0} (f : X → Option Y) (P : Y → Type 0) (xs is : List X) (ys : List Y)
    (a : Bool) → is ≡ xs
    → Decides a (All (λ x. IfSome (f x) P) is) → a ≡ false → Decides a (All P (filter_map f xs ++ ys))
imported_fails f P xs is ys a ei da ea =
    first_decides_against {A = All (λ x. IfSome (f x) P) is} a da ea
    (λ h. subst (All (λ x. IfSome (f x) P)) (sym ei) (all_parted f P xs ys h).0)
