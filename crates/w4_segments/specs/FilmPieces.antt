-- The pieces of a film. They are cut at the kept places, and each has the images from its cut to the next. A
-- film is handed out a piece at a time (project rule): what is left of it, and when it can be gone on with.
use Rattle.std.specs.Prelude.{◌≡◌, ℕ, ◌+◌, ◌<◌, List, length, slice_index_or, Option, Some, None, min, max}
use Rattle.std.specs.Prelude.{nat_lt, if◌then◌else◌, ◌-◌, ◌≤◌, [], All, slice_get}
use Rattle.w4_defs.specs.KeptList.{Entry, place_at, state_at}
use Rattle.w4_defs.specs.Run.{run_state}
use Rattle.w4_editor.specs.Editor.{Editing, editing_setup}
use Rattle.w4_segments.specs.declared.worker.Task.{Task}
use Rattle.w4_segments.specs.declared.worker.Worker.{Worker}
use Rattle.w4_defs.specs.Film.{run_images}
use Rattle.w4_segments.specs.Rounds.{entries_of}
use Rattle.w4_segments.specs.Pieces.{CanFilm, worker_images}
use Rattle.w4_segments.specs.Worker.{HasCartTypes}
use Rattle.w4_segments.specs.declared.film_pieces.FilmPieces.{FilmPieces}

-- the images of so many places of an editor's run, from this place on
abbrev pub images_of : Editing → ℕ → ℕ → Option (List ℕ)
images_of e place count = run_images (editing_setup e) e.disk e.session.current.inputs place count

-- where the piece of entry I begins: at the entry's place, but within the film's first place and its end
abbrev pub piece_begin : List Entry → ℕ → ℕ → ℕ → ℕ
piece_begin kept first end i = if nat_lt i (length kept) then min end (max first (place_at kept i)) else end

-- the kept states below a place are those of the run
abbrev pub AreOfRunBelow : ℕ → Editing → Type 0
AreOfRunBelow end e = (i : ℕ) → i < length (entries_of e) → place_at (entries_of e) i < end
    → run_state (editing_setup e) e.disk e.session.current.inputs (place_at (entries_of e) i)
    ≡ Some (state_at (entries_of e) i)

-- the worker has the piece of entry I, or nothing where the piece is empty
pub record IsPiece (e : Editing) (first end i : ℕ) (worker : Worker) : Type 0 where
  pub ready : CanFilm (editing_setup e) e.disk e.session.current.inputs worker
  pub begins : (task : Task) → worker.task ≡ Some task → task.first ≡ piece_begin (entries_of e) first end i
  pub ends : (task : Task) → worker.task ≡ Some task → task.end ≡ piece_begin (entries_of e) first end (i + 1)
  pub none : worker.task ≡ None
      → piece_begin (entries_of e) first end (i + 1) ≡ piece_begin (entries_of e) first end i

-- the workers have the pieces from entry I on, in order
pub record ArePieces (e : Editing) (first end i : ℕ) (old new : List Worker) : Type 0 where
  pub many : length new ≡ length old
  pub each : (k : ℕ) (d : Worker) → k < length new → IsPiece e first end (i + k) (slice_index_or new k d)

-- where the piece of entry I begins
abbrev pub film_cut : FilmPieces → Editing → ℕ → ℕ
film_cut film e i = piece_begin (entries_of e) film.first film.end i

-- the images from one place up to another
abbrev pub images_between : Editing → ℕ → ℕ → Option (List ℕ)
images_between e from to = images_of e from (to - from)

-- the images that are still to be handed out, and the most pieces that these are
abbrev pub images_left : FilmPieces → Editing → Option (List ℕ)
images_left film e = images_between e (film_cut film e film.next) film.end

abbrev pub pieces_left : FilmPieces → Editing → ℕ
pieces_left film e = length (entries_of e) - film.next

-- the images of the piece that was handed out last: those of its worker
abbrev pub images_by : Option Worker → List ℕ
images_by None = []
images_by (Some worker) = worker_images worker

abbrev pub piece_of : FilmPieces → List ℕ
piece_of film = images_by (slice_get film.worker_list.items film.worker_index)

-- the worker of the piece of entry NEXT + K, of those that are made and not handed out
abbrev pub worker_at : List Worker → ℕ → ℕ → ℕ → Worker → Worker
worker_at worker_list next filmed k d = slice_index_or worker_list (length worker_list - (filmed - next) + k)
    d

-- a film can be gone on with over this editor: the kept states that it goes on from are those of the run, and
-- the pieces that are made have the screens of their images
pub record CanGoOn (worker_list : List Worker) (first end first_entry next filmed : ℕ) (e : Editing) : Type 0
  where
    pub some : 0 < length worker_list
    pub few : length worker_list ≤ 16
    pub order : first ≤ end
    pub within : end ≤ length e.session.current.inputs + 1
    pub states : AreOfRunBelow end e
    pub types : All (HasCartTypes e.cart) worker_list
    pub begun : first_entry ≤ next
    pub passed : next ≤ filmed
    pub worker_count : filmed ≤ next + length worker_list
    pub bound : filmed ≤ 2048
    pub pieces : (k : ℕ) (d : Worker) → k < filmed - next
        → images_between e (piece_begin (entries_of e) first end (next + k))
        (piece_begin (entries_of e) first end (next + k + 1))
        ≡ Some (worker_images (worker_at worker_list next filmed k d))

abbrev pub IsFilming : FilmPieces → Editing → Type 0
IsFilming film e = CanGoOn film.worker_list.items film.first film.end film.first_entry film.next film.filmed e

-- the next piece is made, and nothing was handed out
pub record HasNext (e : Editing) (old new : FilmPieces) : Type 0 where
  pub filming : IsFilming new e
  pub first : new.first ≡ old.first
  pub end : new.end ≡ old.end
  pub next : new.next ≡ old.next
  pub some : new.next < new.filmed
