-- Films (project rule): the images of places of a run, one after another, and why there is no film. A film
-- has at most 600 images.
use Rattle.std.specs.Prelude.{ℕ, ◌+◌, ◌-◌, List, length, nat_lt, Option, Some, None, if◌then◌else◌}
use Rattle.w4_defs.specs.declared.console.Input.{Input}
use Rattle.w4_defs.specs.declared.film_refusal.FilmRefusal.{FilmRefusal}
use Rattle.w4_defs.specs.declared.film_refusal.FilmRefusal.TheVariants.{NoFrame, FilmTooLong}
use Rattle.w4_defs.specs.declared.place_text.PlaceText.TheVariants.{Image}
use Rattle.w4_defs.specs.PlaceTexts.{as_it_stands, run_texts}
use Rattle.w4_defs.specs.Reset.{Setup}
use Rattle.w4_defs.specs.Limits.{film_limit}

-- the images of so many places of a run, from this place on; None where the run has no meaning
unfoldable pub run_images : Setup → List ℕ → List Input → ℕ → ℕ → Option (List ℕ)
run_images setup disk inputs place count =
    run_texts as_it_stands Image setup disk inputs place count

-- why there is no film of places A to B: the last isn't there, or there would be more than 600 images
abbrev pub film_refusal : ℕ → ℕ → List Input → Option FilmRefusal
film_refusal a b inputs =
    if nat_lt (length inputs) b then Some NoFrame else
    if nat_lt film_limit (b + 1 - a) then Some FilmTooLong else
    None
