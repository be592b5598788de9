-- How values are encoded by bytes (Core Specification, section 5.1): for each value the set of its
-- texts. The text of a sequence is the texts of its parts, one after the other.
use Rattle.std.specs.Prelude.{◌≡◌, ℕ, List, [], ◌∷◌, ◌++◌}

abbrev pub Texts : Type 1
Texts = List ℕ → Type 0

-- a text of the first, and then a text of the second
infixr 40 ◌then◌
abbrev pub ◌then◌ : Texts → Texts → Texts
(P then Q) text = (a b : List ℕ) × (text ≡ a ++ b) × P a × Q b

-- what has no text
abbrev pub no_text : Texts
no_text text = ⊥

-- what is encoded only under a condition
abbrev pub provided : Type 0 → Texts → Texts
provided Condition spelled text = Condition × spelled text

-- this one byte
abbrev pub byte : ℕ → Texts
byte b text = text ≡ b ∷ []

-- bytes that stand for themselves
abbrev pub itself : List ℕ → Texts
itself bytes text = text ≡ bytes

-- the items of a list, one after the other
abbrev pub items : {A : Type 0} → (A → Texts) → List A → Texts
items spelled [] text = text ≡ []
items spelled (x ∷ xs) text = (spelled x then items spelled xs) text
