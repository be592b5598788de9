-- The words that follow the name of an order in a line (project rule): none, one number, or two.
use Rattle.std.specs.Prelude.{ℕ, List, [], ◌∷◌, Option, Some, None, option_map, nat_le, if◌then◌else◌}
use Rattle.w4_defs.specs.Lines.{number_of}
use Rattle.w4_defs.specs.Reading.{◌>>=◌}

abbrev pub no_word : {Order : Type 0} → Order → List (List ℕ) → Option Order
no_word order [] = Some order
no_word order (word ∷ words) = None

abbrev pub one_number : {Order : Type 0} → (ℕ → Order) → List (List ℕ) → Option Order
one_number make (word ∷ []) = option_map make (number_of word)
one_number make words = None

-- two numbers, the first at most the second
abbrev pub range_order : {Order : Type 0} → (ℕ → ℕ → Order) → List (List ℕ) → Option Order
range_order make (first ∷ last ∷ []) = do
  a ← number_of first
  b ← number_of last
  if nat_le a b then Some (make a b) else None
range_order make words = None
