-- Reading of sections as they stand, of their order, and of their contents (Core Specification,
-- section 5.5).
use Rattle.std.specs.Prelude.{ℕ, zero, suc, ◌==◌, nat_le, nat_lt, Bool, true, false, if◌then◌else◌, List, []}
use Rattle.std.specs.Prelude.{◌∷◌, Option, Some, None}
use Rattle.w4_defs.specs.BinarySection.{Section, rank}
use Rattle.w4_defs.specs.Reading.{◌>>=◌}
use Rattle.wasm_read.specs.Reader.{Reader}
use Rattle.wasm_read.specs.ReadNumber.{unsigned_at}
use Rattle.wasm_read.specs.Combine.{both_at, vector_at, whole_at, sized_bytes_at}
use Rattle.wasm_read.specs.ReadType.{name_at}

abbrev pub any_at : Reader ℕ
any_at [] = None
any_at (b ∷ bs) = Some (b, bs)

unfoldable pub section_at : Reader Section
section_at = both_at any_at sized_bytes_at

-- the rank of the last section but custom ones, after one more section
unfoldable pub rank_after : ℕ → Section → Option ℕ
rank_after last s =
    if s.0 == 0 then (name_at s.1 >>= λ called. Some last)
    else (if nat_le s.0 12 then (if nat_lt last (rank s.0) then Some (rank s.0) else None) else None)

-- the rank of the last section, where the bytes are sections in order, at most so many
abbrev pub ordered_at : ℕ → ℕ → List ℕ → Option ℕ
ordered_at turns last [] = Some last
ordered_at zero last (b ∷ bs) = None
ordered_at (suc turns) last (b ∷ bs) =
    section_at (b ∷ bs) >>= λ s. rank_after last s.0 >>= λ r. ordered_at turns r s.1

-- the contents of the first section with this id
abbrev pub contents_at : ℕ → ℕ → List ℕ → Option (List ℕ)
contents_at zero id bytes = None
contents_at (suc turns) id bytes =
    section_at bytes >>= λ s. if s.0.0 == id then Some s.0.1 else contents_at turns id s.1

-- a vector, or no items where the section is absent
abbrev pub part_at : {A : Type 0} → Reader A → Option (List ℕ) → Option (List A)
part_at read None = Some []
part_at read (Some text) = whole_at (vector_at read) text

-- one value, or None where the section is absent
abbrev pub alone_at : {A : Type 0} → Reader A → Option (List ℕ) → Option (Option A)
alone_at read None = Some None
alone_at read (Some text) = whole_at read text >>= λ x. Some (Some x)

abbrev pub is_number : ℕ → Option ℕ → Bool
is_number n None = false
is_number n (Some m) = m == n

-- this number, where the section is there
abbrev pub is_counted : Option (List ℕ) → ℕ → Bool
is_counted None n = true
is_counted (Some text) n = is_number n (whole_at (unsigned_at 32) text)
