-- Sections as they stand, and their order (Core Specification, section 5.5, with the data count
-- section of Core 2.0). A section is an id, a size and exactly that many bytes. Sections other than
-- custom ones stand at most once each, in the order 1 to 9, 12, 10, 11. A custom section, id 0,
-- stands anywhere and begins with a name; its other bytes are passed on unread.
use Rattle.std.specs.Prelude.{◌≡◌, ◌≢◌, ℕ, ◌+◌, ◌<◌, ◌≤◌, ◌==◌, nat_lt, if◌then◌else◌, ◌⊎◌, List, [], ◌∷◌, ◌++◌, Option, Some, None}
use Rattle.w4_defs.specs.BinaryText.{Texts, ◌then◌, byte}
use Rattle.w4_defs.specs.BinaryNumber.{unsigned}
use Rattle.w4_defs.specs.BinaryType.{vector, bytes, name}

-- an id and the contents
abbrev pub Section : Type 0
Section = ℕ × List ℕ

abbrev pub section : Section → Texts
section s = byte s.0 then bytes s.1

abbrev pub BeginsWithName : List ℕ → Type 0
BeginsWithName contents =
    (called text others : List ℕ) × (contents ≡ text ++ others) × name called text

-- the position of an id in the order 1 to 9, 12, 10, 11
abbrev pub rank : ℕ → ℕ
rank id = if id == 12 then 10 else (if nat_lt 9 id then id + 1 else id)

-- the ranks rise, from above `last`, and no id is above 12
abbrev pub RanksRise : ℕ → List Section → Type 0
RanksRise last [] = Unit {0}
RanksRise last (s ∷ sections) =
    ((s.0 ≡ 0) × BeginsWithName s.1 × RanksRise last sections)
    ⊎ ((s.0 ≢ 0) × (s.0 ≤ 12) × (last < rank s.0) × RanksRise (rank s.0) sections)

-- the contents of the first section with this id
abbrev pub contents : ℕ → List Section → Option (List ℕ)
contents id [] = None
contents id (s ∷ sections) = if s.0 == id then Some s.1 else contents id sections

-- a section is a vector; an absent one has no items
abbrev pub Part : {A : Type 0} → (A → Texts) → Option (List ℕ) → List A → Type 0
Part spelled None xs = xs ≡ []
Part spelled (Some text) xs = vector spelled xs text

-- a section is one value, and None where it is absent
abbrev pub Alone : {A : Type 0} → (A → Texts) → Option (List ℕ) → Option A → Type 0
Alone spelled None x = x ≡ None
Alone {A} spelled (Some text) x = (y : A) × (x ≡ Some y) × spelled y text

-- a section is this number, if it is there
abbrev pub Counted : Option (List ℕ) → ℕ → Type 0
Counted None n = Unit {0}
Counted (Some text) n = unsigned 32 n text
