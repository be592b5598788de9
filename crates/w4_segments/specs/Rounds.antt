-- A round of settling: how segments are dealt and played, and how what was played is taken over.
use Rattle.std.specs.Prelude.{◌≡◌, ◌≤◌, List, length, slice_range, Some, ◌≢◌, ℕ, ◌+◌, ◌<◌, ◌⊎◌, true, All}
use Rattle.std.specs.Prelude.{slice_index_or, Option, None, IsFalse}
use Rattle.w4_defs.specs.declared.console.Input.{Input}
use Rattle.w4_defs.specs.Module.{WasmModule}
use Rattle.w4_defs.specs.Reset.{Setup}
use Rattle.w4_defs.specs.Run.{fold}
use Rattle.w4_segments.specs.declared.worker.Task.{Task}
use Rattle.w4_segments.specs.declared.worker.Worker.{Worker}
use Rattle.w4_defs.specs.KeptList.{Entry, place_at, state_at, linked_at, computed}
use Rattle.w4_editor.specs.Editor.{Editing, editing_setup}
use Rattle.w4_editor.specs.Settling.{AreLinked, IsComputed}
use Rattle.w4_segments.specs.Worker.{HasCartTypes}

-- a worker that can play from its place to its end
pub record CanPlay (cart : WasmModule) (inputs : List Input) (worker : Worker) : Type 0 where
  pub types : HasCartTypes cart worker
  pub order : (task : Task) → worker.task ≡ Some task → task.place ≤ task.end
  pub within : (task : Task) → worker.task ≡ Some task → task.end ≤ length inputs

-- it has played the inputs between
pub record HasPlayed (setup : Setup) (inputs : List Input) (old new : Worker) : Type 0 where
  pub types : HasCartTypes setup.cart new
  pub task : new.task ≡ old.task
  pub state : (task : Task) → old.task ≡ Some task
      → fold setup old.console (slice_range inputs task.place task.end) ≡ Some new.console

-- the kept list of an editor
abbrev pub entries_of : Editing → List Entry
entries_of e = e.session.current.kept

-- the worker stands at an entry after which there is no link, and is to go to the next one
pub record IsSegment (e : Editing) (last : ℕ) (worker : Worker) (task : Task) : Type 0 where
  pub there : task.entry < last
  pub place : task.place ≡ place_at (entries_of e) task.entry
  pub end : task.end ≡ place_at (entries_of e) (task.entry + 1)
  pub state : worker.console ≡ state_at (entries_of e) task.entry
  pub unlinked : IsFalse (linked_at (entries_of e) (task.entry + 1))

-- the worker has the first segment from this entry on that isn't linked, and the next worker goes on after it
pub record IsDealt (e : Editing) (from last next : ℕ) (worker : Worker) : Type 0 where
  pub types : HasCartTypes e.cart worker
  pub order : from ≤ next
  pub within : next ≤ last
  pub segment : (task : Task) → worker.task ≡ Some task → IsSegment e last worker task
  pub next_is : (task : Task) → worker.task ≡ Some task → (from ≤ task.entry) × (next ≡ task.entry + 1)
  pub before : (task : Task) → worker.task ≡ Some task → (i : ℕ) → from ≤ i → i < task.entry
      → linked_at (entries_of e) (i + 1) ≡ true
  pub none : worker.task ≡ None → (i : ℕ) → from ≤ i → i < last → linked_at (entries_of e) (i + 1) ≡ true

-- the tasks of the workers rise
abbrev pub AreRising : List Worker → Type 0
AreRising worker_list = (i j : ℕ) (d : Worker) (s t : Task) → i < j → j < length worker_list
    → (slice_index_or worker_list i d).task ≡ Some s
    → (slice_index_or worker_list j d).task ≡ Some t
    → s.entry < t.entry

-- the first segments that aren't linked, in order
pub record AreDealt (e : Editing) (last : ℕ) (old new : List Worker) : Type 0 where
  pub many : length new ≡ length old
  pub types : All (HasCartTypes e.cart) new
  pub segment : (i : ℕ) (d : Worker) (task : Task) → i < length new
      → (slice_index_or new i d).task ≡ Some task
      → IsSegment e last (slice_index_or new i d) task
  pub rising : AreRising new
  pub before : (d : Worker) (task : Task) → 0 < length new → (slice_index_or new 0 d).task ≡ Some task
      → (i : ℕ) → i < task.entry
      → linked_at (entries_of e) (i + 1) ≡ true
  pub none : (d : Worker) → 0 < length new → (slice_index_or new 0 d).task ≡ None → (i : ℕ) → i < last
      → linked_at (entries_of e) (i + 1) ≡ true

-- what each worker has is what the inputs make of the state that is kept before
pub record AreComputed (e : Editing) (last : ℕ) (worker_list : List Worker) : Type 0 where
  pub types : All (HasCartTypes e.cart) worker_list
  pub there : (i : ℕ) (d : Worker) (task : Task) → i < length worker_list
      → (slice_index_or worker_list i d).task ≡ Some task
      → task.entry < last
  pub state : (i : ℕ) (d : Worker) (task : Task) → i < length worker_list
      → (slice_index_or worker_list i d).task ≡ Some task
      → computed (editing_setup e) e.session.current.inputs (entries_of e) task.entry
      ≡ Some (slice_index_or worker_list i d).console
  pub rising : AreRising worker_list

-- the entry after this one is linked with the state that was found, and is the one replaced last unless it
-- had that state
pub record LinksNext (entry : ℕ) (replaced last : Option ℕ) (old new : Editing) : Type 0 where
  pub computed : IsComputed (editing_setup old) old.session.current.inputs entry (entries_of old)
      (entries_of new)
  pub last_is : (last ≡ Some (entry + 1))
      ⊎ ((last ≡ replaced) × (state_at (entries_of new) (entry + 1) ≡ state_at (entries_of old) (entry + 1)))

-- what a worker played may be taken over unless its first state was replaced
pub record CanTake (e : Editing) (replaced : Option ℕ) (worker : Worker) : Type 0 where
  pub types : HasCartTypes e.cart worker
  pub there : (task : Task) → worker.task ≡ Some task → task.entry + 1 < length (entries_of e)
  pub found : (task : Task) → worker.task ≡ Some task → replaced ≢ Some task.entry
      → computed (editing_setup e) e.session.current.inputs (entries_of e) task.entry ≡ Some worker.console

-- it is thrown away, or taken over
abbrev pub IsTaken : Worker → Option ℕ → Option ℕ → Editing → Editing → Type 0
IsTaken worker replaced last old new =
    (((task : Task) → worker.task ≡ Some task → replaced ≡ Some task.entry)
    × (last ≡ replaced)
    × (new ≡ old))
    ⊎ ((task : Task) × (worker.task ≡ Some task)
    × (replaced ≢ Some task.entry)
    × LinksNext task.entry replaced last old new)

-- where all before the first segment is linked, its end is linked too
abbrev pub LengthensFront : List Worker → Editing → Editing → Type 0
LengthensFront worker_list old new = (d : Worker) (task : Task) → 0 < length worker_list
    → (slice_index_or worker_list 0 d).task ≡ Some task
    → AreLinked task.entry (entries_of old)
    → AreLinked (task.entry + 1) (entries_of new)
