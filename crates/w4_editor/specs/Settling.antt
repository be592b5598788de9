-- One turn of settling. These words speak of no disk, so that what they say holds for every disk at the
-- reset.
use Rattle.std.specs.Prelude.{◌≡◌, ◌≢◌, ℕ, ◌+◌, ◌≤◌, true, List, Some}
use Rattle.w4_defs.specs.declared.console.Input.{Input}
use Rattle.w4_defs.specs.State.{HasGlobals}
use Rattle.w4_defs.specs.Reset.{Setup}
use Rattle.w4_defs.specs.KeptList.{Entry, kept_entry_at, state_at, linked_at, computed, is_sure, IsConsistent}
use Rattle.w4_defs.specs.KeptList.{SamePlaces}

-- the entries up to this one are linked
abbrev pub AreLinked : ℕ → List Entry → Type 0
AreLinked last kept = (i : ℕ) → i ≤ last → linked_at kept i ≡ true

-- entry i + 1 is brought up to date: it has what the inputs make of entry i and is linked, and the entry
-- after it stays linked if and only if the state is what it was
pub record IsComputed (setup : Setup) (inputs : List Input) (i : ℕ) (old new : List Entry) : Type 0 where
  pub places : SamePlaces old new
  pub linked : linked_at new (i + 1) ≡ true
  pub state : computed setup inputs old i ≡ Some (state_at new (i + 1))
  pub globals : HasGlobals setup.cart (state_at new (i + 1))
  pub next : linked_at new (i + 1 + 1) ≡ is_sure old new (i + 1)
  pub next_state : state_at new (i + 1 + 1) ≡ state_at old (i + 1 + 1)
  pub others : (k : ℕ) → k ≢ i + 1 → k ≢ i + 1 + 1 → kept_entry_at new k ≡ kept_entry_at old k

-- for every disk at the reset: a list that was consistent stays so
abbrev pub StaysConsistent : Setup → List Input → List Entry → List Entry → Type 0
StaysConsistent setup inputs old new =
    (disk : List ℕ) → IsConsistent setup disk inputs old → IsConsistent setup disk inputs new
