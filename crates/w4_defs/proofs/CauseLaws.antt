-- Where no cause of a refusal holds, each one in the list fails.
use Rattle.std.proofs.Common.{◌≡◌, ℕ, zero, suc, List, [], ◌∷◌, Bool, true, false, Option, Some, None, refl, sym}
use Rattle.std.specs.Prelude.{slice_get}
use Rattle.std.proofs.lemmas.Option.{same_Some}
use Rattle.w4_defs.specs.declared.refusal.ProfileRefusal.{ProfileRefusal}
use Rattle.w4_defs.specs.Profile.{if_so, first_cause}

-- where no cause is a refusal, the one at a place is none
pub none_there : (os : List (Option ProfileRefusal)) (k : ℕ) (o : Option ProfileRefusal)
    → first_cause os ≡ None → slice_get os k ≡ Some o → o ≡ None
none_there [] k o e is = absurd cc
none_there (None ∷ os) zero o e is = sym (same_Some _ _ is)
none_there (None ∷ os) (suc k) o e is = none_there os k o e is
none_there (Some r ∷ os) k o e is = absurd cc

pub not_so : (b : Bool) (r : ProfileRefusal) → if_so b r ≡ None → b ≡ false
not_so true r e = absurd cc
not_so false r e = refl
