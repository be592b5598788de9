-- The chunks of a page (project rule): it has 64, and chunk k is its 1,024 bytes from 1,024 * k on. A capture
-- copies the chunks that differ from those of the snapshot before, and all where there is none.
use Rattle.std.specs.Prelude.{◌≡◌, ℕ, ◌+◌, ◌*◌, List, [], ◌∷◌, length, slice_range, slice_set, replicate}
use Rattle.std.specs.Prelude.{flat_map, Bool, true, not, All, Option, Some, None, option_map, refl}
use Rattle.std.specs.List.{filter, range_with_len}
use Rattle.std.specs.Str.{bytes_eq}
use Rattle.w4_defs.specs.declared.console.Halt.TheVariants.{Running}
use Rattle.w4_defs.specs.State.{State}
use Rattle.w4_defs.specs.Tones.{silent}

abbrev pub chunk_of : ℕ → List ℕ → List ℕ
chunk_of k page = slice_range page (1024 * k) (1024 * k + 1024)

-- whether chunk k of two pages differs
abbrev pub differs : List ℕ → List ℕ → ℕ → Bool
differs before after k = not (bytes_eq (chunk_of k before) (chunk_of k after))

-- how many of the first chunks of two pages differ
unfoldable pub differing : List ℕ → List ℕ → ℕ → ℕ
differing before after count = length (filter (differs before after) (range_with_len 0 count))

-- how many of the first chunks of a page are copied, after a page before or none
abbrev pub copied_among : Option (List ℕ) → List ℕ → ℕ → ℕ
copied_among None page count = count
copied_among (Some before) page count = differing before page count

-- whether chunk k is copied where it has these bytes
abbrev pub is_copied : Option (List ℕ) → List ℕ → ℕ → Bool
is_copied None bytes k = true
is_copied (Some before) bytes k = not (bytes_eq (chunk_of k before) bytes)

-- how many chunks the capture of a state copies, after a snapshot of the state before or none
abbrev pub copied_chunks : Option State → State → ℕ
copied_chunks before state = copied_among (option_map (λ s. s.page) before) state.page 64

-- 64 chunks of 1,024 bytes
pub record AreChunks {X : Type 0} (bytes_of : X → List ℕ) (chunks : List X) : Type 0 where
  pub many : length chunks ≡ 64
  pub long : All (λ chunk. length (bytes_of chunk) ≡ 1024) chunks

-- ---- worked cases

-- a state with this page
abbrev paged : List ℕ → State
paged page = record { page = page; globals = []; channels = silent; disk = []; halt = Running }

-- bytes of a page: 1,024 times the byte of each of its first chunks
abbrev filled : List ℕ → List ℕ
filled bytes = flat_map (replicate 1024) bytes

-- Pages whose first four chunks are looked at. Nothing before; the same page; another chunk 1; another first
-- and last byte of chunk 1; another last byte of chunk 0 and first byte of chunk 2; four other chunks; the
-- same page with another disk.
abbrev pub ChunkCases : Type 0
ChunkCases =
    let four = filled (1 ∷ 2 ∷ 3 ∷ 4 ∷ []) in
    let before = Some (paged four) in
    (copied_chunks None (paged four) ≡ 64)
    × (copied_chunks before (paged four) ≡ 0)
    × (copied_chunks before (paged (filled (1 ∷ 9 ∷ 3 ∷ 4 ∷ []))) ≡ 1)
    × (copied_chunks before (paged (slice_set (slice_set four 1024 9) 2047 9)) ≡ 1)
    × (copied_chunks before (paged (slice_set (slice_set four 1023 9) 2048 9)) ≡ 2)
    × (copied_chunks before (paged (filled (4 ∷ 3 ∷ 2 ∷ 1 ∷ []))) ≡ 4)
    × (copied_chunks before (record (paged four) { disk = 9 ∷ [] }) ≡ 0)

pub chunk-cases : ChunkCases
unfolding differing
chunk-cases = (refl, refl, refl, refl, refl, refl, refl)
