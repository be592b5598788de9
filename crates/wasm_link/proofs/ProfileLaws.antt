-- The first cause that holds, one by one.
use Rattle.std.proofs.Common.{◌≡◌, Bool, true, false, Option, Some, None, List, ◌∷◌, [], refl, sym, ◌∙◌}
use Rattle.std.proofs.Common.{ap}
use Rattle.w4_defs.specs.declared.refusal.ProfileRefusal.{ProfileRefusal}
use Rattle.w4_defs.specs.Profile.{if_so, first_cause}

pub cause_given : (b : Bool) (r : ProfileRefusal) (rest : List (Option ProfileRefusal)) → b ≡ true
    → Some r ≡ first_cause (if_so b r ∷ rest)
cause_given b r rest e = sym (ap (λ x. first_cause (if_so x r ∷ rest)) e)

pub cause_passed : (b : Bool) (r : ProfileRefusal) (rest : List (Option ProfileRefusal)) → b ≡ false
    → first_cause rest ≡ first_cause (if_so b r ∷ rest)
cause_passed b r rest e = sym (ap (λ x. first_cause (if_so x r ∷ rest)) e)

pub last : (o : Option ProfileRefusal) → o ≡ first_cause (o ∷ [])
last None = refl
last (Some r) = refl
