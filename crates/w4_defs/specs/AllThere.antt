-- What is there only where each of its parts is. A run may have no meaning, and then what is told of it
-- isn't there. A run of an accepted cart always has a meaning.
use Rattle.std.specs.Prelude.{List, [], ◌∷◌, ◌++◌, Option, Some, option_map, option_and_then}

-- a text, or any list, before another one
abbrev pub joined : {A : Type 0} → Option (List A) → Option (List A) → Option (List A)
joined first rest = option_and_then (λ text. option_map (λ more. text ++ more) rest) first

-- texts one after another
abbrev pub all_joined : {A : Type 0} → List (Option (List A)) → Option (List A)
all_joined [] = Some []
all_joined (text ∷ texts) = joined text (all_joined texts)

-- values that are all there
abbrev pub all_some : {A : Type 0} → List (Option A) → Option (List A)
all_some [] = Some []
all_some (x ∷ xs) = option_and_then (λ value. option_map (λ values. value ∷ values) (all_some xs)) x
