-- The film of an editor's recording, and what making it leaves.
use Rattle.std.specs.Prelude.{◌≡◌, ℕ, ◌+◌, ◌-◌, ◌⊎◌, List, Option, Some, None}
use Rattle.w4_defs.specs.Film.{run_images}
use Rattle.w4_defs.specs.declared.film_refusal.FilmRefusal.{FilmRefusal}
use Rattle.w4_defs.specs.declared.film_refusal.FilmRefusal.TheVariants.{OutOfMemory}
use Rattle.w4_editor.specs.Editor.{Editing, editing_setup}
use Rattle.w4_editor.specs.Playing.{KeepsRecording}

-- the images of places A to B of an editor's recording as it is
abbrev pub film_images : Editing → ℕ → ℕ → Option (List ℕ)
film_images e a b = run_images (editing_setup e) e.disk e.session.current.inputs a (b + 1 - a)

-- a refusal has its cause; where there is none it is memory's
abbrev pub IsFilmRefusal : Option FilmRefusal → FilmRefusal → Type 0
IsFilmRefusal wanted refusal = (wanted ≡ Some refusal) ⊎ ((refusal ≡ OutOfMemory) × (wanted ≡ None))

-- recording, history, kept places and the place that is shown are unchanged; kept states and links may be
-- newer
pub record KeepsShown (old new : Editing) : Type 0 where
  pub recording : KeepsRecording old new
  pub at : new.at ≡ old.at
