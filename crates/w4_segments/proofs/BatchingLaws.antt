-- The row of a file by what it encodes, and the rows of a worker.
use Rattle.std.proofs.Common.{◌≡◌, ◌≢◌, ℕ, ◌+◌, ◌-◌, ◌*◌, ◌<◌, Bool, true, false, cond, not, List, [], ◌∷◌}
use Rattle.std.proofs.Common.{◌++◌, length, map, take, get_or, Option, option_map, Some, None, Result, Ok}
use Rattle.std.proofs.Common.{Err, IfOk, inl, inr, refl, sym, ap, ◌∙◌, arith}
use Rattle.std.specs.Prelude.{Vec}
use Rattle.std.specs.Option.{option_and_then}
use Rattle.std.specs.List.{slice_range}
use Rattle.std.specs.Str.{bytes_eq}
use Rattle.std.specs.declared.alloc.Global.{Global}
use Rattle.std.proofs.lemmas.Bool.{cases_lt}
use Rattle.std.proofs.lemmas.List.{get_or-map, length-map, ext_get_or, get_or_push}
use Rattle.std.proofs.lemmas.Slice.Eq.{bytes_eq-Decides}
use Rattle.std.proofs.Math.ListN.{get_or-append}
use Rattle.std.proofs.lemmas.List.{length-append, take_all}
use Rattle.sha2.specs.Sha256.{sha256}
use Rattle.w4_defs.specs.declared.batch.BatchRow.{BatchRow}
use Rattle.w4_defs.specs.declared.batch.BatchRow.TheVariants.{Bad, WrongCart}
use Rattle.w4_defs.specs.declared.memory.OutOfMemory.{OutOfMemory}
use Rattle.w4_defs.specs.Module.{WasmModule}
use Rattle.w4_defs.specs.Recording.{Recording, recording_of}
use Rattle.w4_defs.specs.Batch.{file_row, file_rows, batch_row, run_row, ran_row}
use Rattle.w4_defs.specs.Board.{console_setup}
use Rattle.w4_defs.specs.Reset.{reset}
use Rattle.w4_defs.specs.Run.{fold, played_on, run_state}
use Rattle.w4_defs.specs.State.{State, Moment}
use Rattle.w4_editor.proofs.PlayerLaws.{run_links}
use Rattle.w4_segments.specs.Batching.{bytes_of, bytes_at, item_row, HasRows}

no_other : (t : Bool) → (t ≡ true → ⊥) → t ≡ false
no_other true h = absurd (h refl)
no_other false h = refl

pub bytes_differ : (a b : List ℕ) → true ≡ not (bytes_eq a b) → a ≢ b
bytes_differ a b other same =
    let e : true ≡ false = other ∙ ap not ((bytes_eq-Decides a b).1 same) in cc

no_not : (t : Bool) → false ≡ not t → t ≡ true
no_not true e = refl
no_not false e = absurd cc

pub bytes_agree : (a b : List ℕ) → false ≡ not (bytes_eq a b) → a ≡ b
bytes_agree a b same = (bytes_eq-Decides a b).0 (no_not (bytes_eq a b) same)

module _ (sha256 : List ℕ → List ℕ) (cart : WasmModule) (font digest bytes : List ℕ) where
  abbrev judged : Option Recording → Option BatchRow
  judged read = batch_row sha256 cart font digest read

  file_is_judged : file_row sha256 cart font digest bytes ≡ judged (recording_of bytes)
  unfolding file_row
  file_is_judged = refl

  pub bad_row : recording_of bytes ≡ None → file_row sha256 cart font digest bytes ≡ Some Bad
  bad_row none = file_is_judged ∙ ap judged none

  other_digest : (a b : List ℕ) → a ≢ b → bytes_eq a b ≡ false
  other_digest a b other = no_other (bytes_eq a b) (λ e. other ((bytes_eq-Decides a b).0 e))

  pub wrong_row : (r : Recording) → recording_of bytes ≡ Some r → r.digest ≢ digest
      → file_row sha256 cart font digest bytes ≡ Some WrongCart
  wrong_row r read other = file_is_judged ∙ ap judged read
      ∙ ap (λ t. cond t (run_row sha256 cart font r) (Some WrongCart)) (other_digest r.digest digest other)

  pub right_row : (r : Recording) → recording_of bytes ≡ Some r → r.digest ≡ digest
      → file_row sha256 cart font digest bytes ≡ run_row sha256 cart font r
  right_row r read same = file_is_judged ∙ ap judged read
      ∙ ap (λ t. cond t (run_row sha256 cart font r) (Some WrongCart)) ((bytes_eq-Decides r.digest
      digest).1 same)

-- ---- the rows of a worker

-- the bytes of an item that was read
pub item_bytes : (items : List (Vec ℕ Global)) (k : ℕ) (item : Vec ℕ Global) → k < length items
    → item ≡ get_or items k item → bytes_at items k ≡ item.items
item_bytes items k item lt read = get_or-map bytes_of items k item [] lt ∙ ap bytes_of (sym read)

-- where the next item stands
pub next_at : (first stride at n : ℕ) → at ≡ first + n * stride → at + stride ≡ first + (n + 1) * stride
next_at first stride at n here = grind arith

-- one row more
pub one_more_row : (wanted : ℕ → Option BatchRow) (first stride at : ℕ) (rows : List BatchRow)
    (row : BatchRow)
    → at ≡ first + length rows * stride
    → ((j : ℕ) (d : BatchRow) → j < length rows → wanted (first + j * stride) ≡ Some (get_or rows j d))
    → wanted at ≡ Some row
    → (j : ℕ) (d : BatchRow) → j < length (rows ++ row ∷ [])
    → wanted (first + j * stride) ≡ Some (get_or (rows ++ row ∷ []) j d)
one_more_row wanted first stride at rows row here before now j d lt = elim (cases_lt j (length rows)) [
  | inl low ↦ before j d low ∙ ap Some (sym (get_or-append rows (row ∷ []) d j low))
  | inr high ↦
      let last : j ≡ length rows = omega (arith, lt, high, length-append rows (row ∷ [])) in
      ap (λ n. wanted (first + n * stride)) last
      ∙ ap wanted (sym here)
      ∙ now
      ∙ ap Some (sym (get_or_push rows row d j (sym last)))
]

-- ---- the rows of all items

module _ (cart : WasmModule) (font digest : List ℕ) (items : List (Vec ℕ Global)) where
  all_rows : (rows : List BatchRow) → HasRows (item_row cart font digest items) (length items) rows
      → map (λ row. Some row) rows ≡ file_rows sha256 cart font digest (map bytes_of items)
  all_rows rows has =
      let files : List (List ℕ) = map bytes_of items in
      let many = has.many in
      ext_get_or None (map (λ row. Some row) rows) (map (file_row sha256 cart font digest) files)
      (length-map rows (λ row. Some row) ∙ many ∙ sym (length-map items bytes_of)
      ∙ sym (length-map files (file_row sha256 cart font digest)))
      (λ i lt.
      let low : i < length rows = omega (arith, lt, length-map rows (λ row. Some row)) in
      let there : i < length files = omega (arith, low, many, length-map items bytes_of) in
      get_or-map (λ row. Some row) rows i Bad None low
      ∙ sym (has.each i Bad (omega (arith, low, many)))
      ∙ sym (get_or-map (file_row sha256 cart font digest) files i [] None there))

  pub batch_rows : (result : Result (Vec BatchRow Global) OutOfMemory)
      → IfOk result (λ rows. HasRows (item_row cart font digest items) (length items) rows.items)
      → IfOk result (λ rows. map (λ row. Some row) rows.items
      ≡ file_rows sha256 cart font digest (map bytes_of items))
  batch_rows (Ok rows) has = all_rows rows.items has
  batch_rows (Err refusal) has = has

-- ---- a run

-- a recording that was run from its reset to its last place
pub run_is : (sha256 : List ℕ → List ℕ) (cart : WasmModule) (font : List ℕ) (r : Recording) (first : Moment)
    (last : State)
    → reset (console_setup cart font r.budget) r.disk ≡ Some first
    → fold (console_setup cart font r.budget) first.state r.frames ≡ Some last
    → run_row sha256 cart font r ≡ Some (ran_row sha256 (length r.frames) last)
run_is sha256 cart font r first last begins goes =
    let setup = console_setup cart font r.budget in
    let whole : slice_range r.frames 0 (length r.frames) ≡ r.frames =
    take_all (length r.frames - 0) r.frames (omega arith) in
    let start : run_state setup r.disk r.frames 0 ≡ Some first.state =
    ap (λ o. option_map (λ (m : Moment). m.state) (option_and_then (λ m. played_on setup m (take 0
    r.frames)) o))
    begins in
    ap (option_map (ran_row sha256 (length r.frames)))
    (run_links setup r.disk r.frames 0 (length r.frames) first.state last (omega arith) start
    (ap (fold setup first.state) whole ∙ goes))
