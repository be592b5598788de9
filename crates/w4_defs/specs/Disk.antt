-- The disk (WASM-4 reference, `diskr` and `diskw`; project rule for sizes that don't fit): at most 1,024
-- bytes. Both calls return how many bytes they moved.
use Rattle.std.specs.Prelude.{◌≡◌, ℕ, ◌-◌, min, List, [], ◌∷◌, length, take, drop, refl}
use Rattle.w4_defs.specs.Bytes.{replaced}
use Rattle.w4_defs.specs.Limits.{disk_limit}

-- the disk after a write of the bytes at ptr: as many as are asked for, fit, and stand in the page
abbrev pub disk_write : List ℕ → ℕ → ℕ → List ℕ
disk_write page ptr size = take (min size disk_limit) (drop ptr page)

-- how many bytes a read moves: as many as are asked for, are on the disk, and fit into the page
abbrev pub disk_read_count : List ℕ → List ℕ → ℕ → ℕ → ℕ
disk_read_count disk page ptr size = min size (min (length disk) (length page - ptr))

-- the page after a read to ptr
abbrev pub disk_read : List ℕ → List ℕ → ℕ → ℕ → List ℕ
disk_read disk page ptr size =
    let count = disk_read_count disk page ptr size in
    replaced page ptr count (take count disk)

-- worked cases over a page of four bytes: what would go past the end of the disk or of the page isn't moved
abbrev pub DiskCases : Type 0
DiskCases = let page = 1 ∷ 2 ∷ 3 ∷ 4 ∷ [] in
    (disk_write page 2 100 ≡ 3 ∷ 4 ∷ [])
    × (disk_write page 9 100 ≡ [])
    × (disk_read (8 ∷ 9 ∷ []) page 1 5 ≡ 1 ∷ 8 ∷ 9 ∷ 4 ∷ [])
    × (disk_read_count (8 ∷ 9 ∷ []) page 3 5 ≡ 1)
    × (disk_read_count (8 ∷ 9 ∷ []) page 9 5 ≡ 0)
    × (disk_read (8 ∷ 9 ∷ []) page 9 5 ≡ page)

pub disk-cases : DiskCases
disk-cases = (refl, refl, refl, refl, refl, refl)
