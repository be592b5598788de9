-- Readers made of readers, as the grammar's forms are made of each other (Core Specification, sections
-- 5.1 and 5.2): sequences, sizes, vectors.
use Rattle.std.specs.Prelude.{ℕ, zero, suc, ◌==◌, Bool, if◌then◌else◌, List, [], ◌∷◌, ◌++◌, length, Option}
use Rattle.std.specs.Prelude.{Some, None}
use Rattle.w4_defs.specs.Reading.{◌>>=◌, front_at}
use Rattle.wasm_read.specs.Reader.{Reader}
use Rattle.wasm_read.specs.ReadNumber.{unsigned_at}

-- one value and then another
abbrev pub both_at : {A B : Type 0} → Reader A → Reader B → Reader (A × B)
both_at first second bytes = first bytes >>= λ x. second x.1 >>= λ y. Some ((x.0, y.0), y.1)

abbrev pub mapped_at : {A B : Type 0} → (A → B) → Reader A → Reader B
mapped_at f read bytes = read bytes >>= λ x. Some (f x.0, x.1)

-- a value that passes a test
abbrev pub tested_at : {A : Type 0} → (A → Bool) → Reader A → Reader A
tested_at test read bytes = read bytes >>= λ x. if test x.0 then Some x else None

-- a value after this byte
abbrev pub headed_at : {A : Type 0} → ℕ → Reader A → Reader A
headed_at code read [] = None
headed_at code read (b ∷ bs) = if b == code then read bs else None

-- so many items
abbrev pub items_at : {A : Type 0} → Reader A → ℕ → Reader (List A)
items_at read zero bytes = Some ([], bytes)
items_at read (suc n) bytes = read bytes >>= λ x. items_at read n x.1 >>= λ y. Some (x.0 ∷ y.0, y.1)

unfoldable pub vector_at : {A : Type 0} → Reader A → Reader (List A)
vector_at read bytes = unsigned_at 32 bytes >>= λ n. items_at read n.0 n.1

-- a value whose text is all of the bytes
abbrev pub whole_at : {A : Type 0} → Reader A → List ℕ → Option A
whole_at read bytes = read bytes >>= λ x. if length x.1 == 0 then Some x.0 else None

-- a size and exactly that many bytes
unfoldable pub sized_bytes_at : Reader (List ℕ)
sized_bytes_at bytes = unsigned_at 32 bytes >>= λ n. front_at n.0 n.1

-- which are a value's text
unfoldable pub sized_at : {A : Type 0} → (List ℕ → Option A) → Reader A
sized_at whole bytes = sized_bytes_at bytes >>= λ f. whole f.0 >>= λ x. Some (x, f.1)

-- these items and those that are read after them
abbrev pub after_items : {A : Type 0} → List A → Option (List A × List ℕ) → Option (List A × List ℕ)
after_items xs None = None
after_items xs (Some y) = Some (xs ++ y.0, y.1)
