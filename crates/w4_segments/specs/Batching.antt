-- How items are dealt to workers: of N workers, worker W has the items W, W + N, W + 2 N and so on.
use Rattle.std.specs.Prelude.{◌≡◌, ℕ, ◌+◌, ◌*◌, ◌<◌, ◌≤◌, List, [], map, length, slice_index_or, Option, Some}
use Rattle.std.specs.Prelude.{Result, IfOk, Vec}
use Rattle.std.specs.declared.alloc.Global.{Global}
use Rattle.sha2.specs.Sha256.{sha256}
use Rattle.w4_defs.specs.declared.batch.BatchRow.{BatchRow}
use Rattle.w4_defs.specs.declared.memory.OutOfMemory.{OutOfMemory}
use Rattle.w4_defs.specs.Batch.{file_row}
use Rattle.w4_defs.specs.Module.{WasmModule}

-- the bytes of a file, and those of the K-th
abbrev pub bytes_of : Vec ℕ Global → List ℕ
bytes_of file = file.items

abbrev pub bytes_at : List (Vec ℕ Global) → ℕ → List ℕ
bytes_at items k = slice_index_or (map bytes_of items) k []

-- the row of the K-th item
abbrev pub item_row : WasmModule → List ℕ → List ℕ → List (Vec ℕ Global) → ℕ → Option BatchRow
item_row cart font digest items k = file_row sha256 cart font digest (bytes_at items k)

-- the rows of so many items, each the wanted one
pub record HasRows (wanted : ℕ → Option BatchRow) (count : ℕ) (rows : List BatchRow) : Type 0 where
  pub many : length rows ≡ count
  pub each : (k : ℕ) (d : BatchRow) → k < count → wanted k ≡ Some (slice_index_or rows k d)

-- the rows of a worker's items, as many as there are
pub record AreRows (wanted : ℕ → Option BatchRow) (count first stride : ℕ)
    (rows : List BatchRow) : Type 0 where
  pub each : (j : ℕ) (d : BatchRow) → j < length rows
      → wanted (first + j * stride) ≡ Some (slice_index_or rows j d)
  pub all : count ≤ first + length rows * stride

-- what each worker made, where it had memory
abbrev pub Dealt : Type 0
Dealt = List (Result (Vec BatchRow Global) OutOfMemory)

abbrev pub CoverAll : ℕ → Dealt → Type 0
CoverAll count dealt = (w : ℕ) (d : Result (Vec BatchRow Global) OutOfMemory) → w < length dealt
    → IfOk (slice_index_or dealt w d) (λ rows. count ≤ w + length rows.items * length dealt)

abbrev pub AreOfWorkers : (ℕ → Option BatchRow) → ℕ → ℕ → Dealt → Type 0
AreOfWorkers wanted count worker_count dealt = (w : ℕ) (d : Result (Vec BatchRow Global) OutOfMemory) → w
    < worker_count
    → IfOk (slice_index_or dealt w d) (λ rows. AreRows wanted count w worker_count rows.items)

abbrev pub AreDealtOut : (ℕ → Option BatchRow) → ℕ → Dealt → Type 0
AreDealtOut wanted count dealt = AreOfWorkers wanted count (length dealt) dealt
