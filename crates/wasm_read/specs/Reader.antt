-- Reading from the front of bytes: a reader gives a value and the bytes after it, or None. An exact
-- reader gives a value if and only if the bytes begin with a text of that value.
use Rattle.std.specs.Prelude.{◌≡◌, ℕ, ◌==◌, if◌then◌else◌, List, [], ◌∷◌, ◌++◌, Option, Some, None, Result}
use Rattle.std.specs.Prelude.{Ok, Err}
use Rattle.w4_defs.specs.BinaryText.{Texts}
use Rattle.w4_defs.specs.Reading.{◌>>=◌}
use Rattle.wasm_read.specs.declared.refusal.ReadRefusal.{ReadRefusal}
use Rattle.wasm_read.specs.declared.refusal.ReadRefusal.TheVariants.{Malformed, OutOfMemory}

abbrev pub Reader : Type 0 → Type 0
Reader A = List ℕ → Option (A × List ℕ)

-- a value and the bytes after it
abbrev pub read_as : {A : Type 0} → A → List ℕ → Option (A × List ℕ)
read_as x rest = Some (x, rest)

-- the bytes are a text of the value, and then the rest
abbrev pub Takes : {A : Type 0} → (A → Texts) → List ℕ → A → List ℕ → Type 0
Takes spelled bytes x rest = (text : List ℕ) × (bytes ≡ text ++ rest) × spelled x text

pub record Reads {A : Type 0} (spelled : A → Texts) (read : Reader A) : Type 0 where
  pub sound : (bytes : List ℕ) (x : A) (rest : List ℕ) → read bytes ≡ Some (x, rest)
      → Takes spelled bytes x rest
  pub complete : (text rest : List ℕ) (x : A) → spelled x text → read (text ++ rest) ≡ Some (x, rest)

-- a reader of whole texts is exact
pub record ReadsWhole {A : Type 0} (spelled : A → Texts) (read : List ℕ → Option A) : Type 0 where
  pub sound : (bytes : List ℕ) (x : A) → read bytes ≡ Some x → spelled x bytes
  pub complete : (bytes : List ℕ) (x : A) → spelled x bytes → read bytes ≡ Some x

-- what is said where there was no value; running out of memory says nothing
abbrev pub IsUnread : Type 0 → ReadRefusal → Type 0
IsUnread Missing Malformed = Missing
IsUnread Missing OutOfMemory = Unit {0}

-- what is said of a value that was read, and what is said where there was none
abbrev pub Answers : {A : Type 0} → (A → Type 0) → Type 0 → Result A ReadRefusal → Type 0
Answers Given Missing (Ok x) = Given x
Answers Given Missing (Err e) = IsUnread Missing e

-- the value of the first row with this code
abbrev pub row_of : {A : Type 0} → List (ℕ × A) → ℕ → Option A
row_of [] code = None
row_of (row ∷ rows) code = if code == row.0 then Some row.1 else row_of rows code

-- a byte that stands for one of several values
abbrev pub coded_at : {A : Type 0} → List (ℕ × A) → Reader A
coded_at rows [] = None
coded_at rows (b ∷ bs) = row_of rows b >>= λ x. Some (x, bs)
