-- Lines of an input: what taking one is, and which one is given by the bytes that are left.
use Rattle.std.specs.Prelude.{◌≡◌, ◌≢◌, ◌⊎◌, ℕ, List, [], ◌∷◌, ◌++◌, take, Option, Some, None, All}
use Rattle.std.specs.Io.KnownBytes.{Consumes, IsAtEnd}
use Rattle.w4_defs.specs.World.{Event, Took, InputEnded}

-- What a call for a line has done.
abbrev pub taken : Option (List ℕ) → Event
taken (Some line) = Took line
taken None = InputEnded

-- A line is read from the bytes that are left, where they are known: it ends before the first byte 10, or
-- with the last byte.
abbrev pub ReadsLine : Option (List ℕ) → Option (List ℕ) → List ℕ → Type 0
ReadsLine old new line = All (λ byte. byte ≢ 10) line
    × (Consumes old new (line ++ 10 ∷ []) ⊎ ((line ≢ []) × Consumes old new line × IsAtEnd new))

-- A call for a line of at most so many bytes gives the front of the line that it reads, or None at the end.
abbrev pub GivesLine : ℕ → Option (List ℕ) → Option (List ℕ) → Option (List ℕ) → Type 0
GivesLine most old new None = Consumes old new [] × IsAtEnd new
GivesLine most old new (Some front) = (line : List ℕ) × (front ≡ take most line) × ReadsLine old new line

-- The next byte that is left, or None at the end.
abbrev pub GivesByte : Option (List ℕ) → Option (List ℕ) → Option ℕ → Type 0
GivesByte old new None = Consumes old new [] × IsAtEnd new
GivesByte old new (Some byte) = Consumes old new (byte ∷ [])
