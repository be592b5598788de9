-- The answers of a script's orders (project rule). Each answer tells of the recording as the edits so far
-- leave it, as a run from reset has it: an accepted `show P` writes the image of place P, `film A B W` the
-- images of places A to B, `disk`, `state`, `tones` and `traces` their texts. An accepted edit, `keep`,
-- `keep-every`, `drop` or `settle` writes nothing. A refused order writes one line and changes nothing.
use Rattle.std.specs.Prelude.{◌≡◌, ℕ, ◌+◌, ◌-◌, false, List, [], ◌∷◌, ◌++◌, length, replicate, nat_le, pos, codes, Option, Some, None, Result, Ok, Err, if◌then◌else◌, refl}
use Rattle.w4_defs.specs.declared.console.Input.{Input}
use Rattle.w4_defs.specs.declared.editing.EditRefusal.{EditRefusal}
use Rattle.w4_defs.specs.declared.editing.EditRefusal.TheVariants as edit
use Rattle.w4_defs.specs.declared.film_refusal.FilmRefusal.{FilmRefusal}
use Rattle.w4_defs.specs.declared.film_refusal.FilmRefusal.TheVariants as film
use Rattle.w4_defs.specs.declared.order.Order.{Order}
use Rattle.w4_defs.specs.declared.order.Order.TheVariants as order
use Rattle.w4_defs.specs.Film.{film_refusal}
use Rattle.w4_defs.specs.FrameTexts.{line_end}
use Rattle.w4_defs.specs.Reset.{Setup}
use Rattle.w4_defs.specs.Run.{run}
use Rattle.w4_defs.specs.Session.{Session, places_alone, new_session, set_input, insert_input, delete_input, undo, redo, keep, keep_every, drop_kept}
use Rattle.w4_defs.specs.declared.place_text.PlaceText.{PlaceText}
use Rattle.w4_defs.specs.declared.place_text.PlaceText.TheVariants.{Image, Schedule, Traces, DiskBytes}
use Rattle.w4_defs.specs.Answers.{Answered, answer_text, carried_out, answers_by}
use Rattle.w4_defs.specs.PlaceTexts.{PieceForm, as_it_stands, state_text, place_text, run_texts}

-- ---- refusals

abbrev pub refused_line : List ℕ → List ℕ
refused_line words = codes "refused " ++ words ++ line_end

-- nothing is promised of an order for which memory runs out
abbrev pub refusal_words : EditRefusal → List ℕ
refusal_words edit.NoFrame = codes "no frame"
refusal_words edit.FullRecording = codes "full"
refusal_words edit.NothingToUndo = codes "nothing to undo"
refusal_words edit.NothingToRedo = codes "nothing to redo"
refusal_words edit.Kept = codes "kept"
refusal_words edit.NotKept = codes "not kept"
refusal_words edit.FullSnapshots = codes "full"
refusal_words edit.OutOfMemory = []

abbrev pub no_frame : List ℕ
no_frame = refused_line (refusal_words edit.NoFrame)

abbrev pub film_refusal_words : FilmRefusal → List ℕ
film_refusal_words film.NoFrame = codes "no frame"
film_refusal_words film.FilmTooLong = codes "too long"
film_refusal_words film.OutOfMemory = []

-- ---- answers. Each piece of one is written in a form; `edit` writes it as it stands

-- a change of the session, or the line that refuses it
abbrev pub answer_change : PieceForm → Session ℕ → Result (Session ℕ) EditRefusal → Answered (Session ℕ)
answer_change form session (Ok after) = carried_out after
answer_change form session (Err refusal) =
    answer_text session (Some (form (refused_line (refusal_words refusal))))

-- what is told of places up to this one, where the recording has it
abbrev pub if_place : PieceForm → Session ℕ → ℕ → Option (List ℕ) → Option (List ℕ)
if_place form session last out =
    if nat_le last (length session.current.inputs) then out else Some (form no_frame)

-- the text of place P of the recording as it is, and those of places A to B one after another
abbrev pub one_text : PieceForm → Setup → List ℕ → Session ℕ → PlaceText → ℕ → Option (List ℕ)
one_text form setup disk session wanted p =
    place_text form wanted p (run setup disk session.current.inputs p)

abbrev pub range_text : PieceForm → Setup → List ℕ → Session ℕ → PlaceText → ℕ → ℕ → Option (List ℕ)
range_text form setup disk session wanted a b =
    run_texts form wanted setup disk session.current.inputs a (b + 1 - a)

-- the images of a film, or the line that refuses it
abbrev pub film_or_refused : PieceForm → Option (List ℕ) → Option FilmRefusal → Option (List ℕ)
film_or_refused form images None = images
film_or_refused form images (Some refusal) = Some (form (refused_line (film_refusal_words refusal)))

abbrev pub film_text : PieceForm → Setup → List ℕ → Session ℕ → ℕ → ℕ → Option (List ℕ)
film_text form setup disk session a b =
    film_or_refused form (range_text form setup disk session Image a b)
    (film_refusal a b session.current.inputs)

-- the line of the state at a place, with the kept places
abbrev pub state_answer : PieceForm → Setup → List ℕ → Session ℕ → ℕ → Option (List ℕ)
state_answer form setup disk session p =
    state_text form p (length session.current.inputs) (run setup disk session.current.inputs p)
    session.current.kept

-- the answer of one order. How many workers a `film` or `settle` has doesn't matter
abbrev pub answer : PieceForm → Setup → List ℕ → Session ℕ → Order → Answered (Session ℕ)
answer form setup disk s (order.Set k input) = answer_change form s (set_input places_alone k input s)
answer form setup disk s (order.Insert k input) = answer_change form s (insert_input places_alone k input s)
answer form setup disk s (order.Delete k) = answer_change form s (delete_input places_alone k s)
answer form setup disk s order.Undo = answer_change form s (undo s)
answer form setup disk s order.Redo = answer_change form s (redo s)
answer form setup disk s (order.Keep p) = answer_change form s (keep places_alone p s)
answer form setup disk s (order.KeepEvery every) = answer_change form s (keep_every every s)
answer form setup disk s (order.DropKept p) = answer_change form s (drop_kept places_alone p s)
answer form setup disk s (order.Settle workers) = carried_out s
answer form setup disk s (order.Show p) =
    answer_text s (if_place form s p (one_text form setup disk s Image p))
answer form setup disk s (order.Film a b workers) = answer_text s (film_text form setup disk s a b)
answer form setup disk s (order.Tones a b) =
    answer_text s (if_place form s b (range_text form setup disk s Schedule a b))
answer form setup disk s (order.Traces a b) =
    answer_text s (if_place form s b (range_text form setup disk s Traces a b))
answer form setup disk s (order.DiskAt p) =
    answer_text s (if_place form s p (one_text form setup disk s DiskBytes p))
answer form setup disk s (order.StateAt p) =
    answer_text s (if_place form s p (state_answer form setup disk s p))

-- all answers in order, as `edit` writes them
abbrev pub answers : Setup → List ℕ → Session ℕ → List Order → Answered (Session ℕ)
answers setup disk session orders = answers_by (answer as_it_stands setup disk) session orders

-- those of a script over a recording of these inputs, whose place 0 alone is kept
abbrev pub script_answers : Setup → List ℕ → List Input → List Order → Answered (Session ℕ)
script_answers setup disk inputs orders = answers setup disk (new_session inputs 0) orders

-- Worked cases, over any cart and a recording of two, five or 600 inputs: places that aren't there; what is
-- kept; the history's ends; an edit that is undone and made again; films, also one of 601 images.
abbrev worked_input : ℕ → Input
worked_input pad =
    record { pads = pad ∷ 0 ∷ 0 ∷ 0 ∷ []; mouse_x = pos 0; mouse_y = pos 0; buttons = 0; reset = false }

abbrev worked_answers : Setup → ℕ → List Order → Answered (Session ℕ)
worked_answers setup count orders = script_answers setup [] (replicate count (worked_input 0)) orders

abbrev pub AnswerCases : Type 0
AnswerCases = (setup : Setup) →
    ((worked_answers setup 2 (order.Show 3 ∷ order.Tones 0 3 ∷ order.Delete 2 ∷ order.Keep 3 ∷ [])).out
    ≡ Some (codes "refused no frame\nrefused no frame\nrefused no frame\nrefused no frame\n"))
    × ((worked_answers setup 2 (order.Keep 2 ∷ order.Keep 2 ∷ order.DropKept 0 ∷ order.DropKept 1 ∷ [])).out
    ≡ Some (codes "refused kept\nrefused not kept\nrefused not kept\n"))
    × ((worked_answers setup 2 (order.Undo ∷ order.Redo ∷ [])).out
    ≡ Some (codes "refused nothing to undo\nrefused nothing to redo\n"))
    × ((worked_answers setup 2 (order.Set 1 (worked_input 5) ∷ order.Undo ∷ order.Redo ∷ order.Redo ∷ []))
    ≡ record {
      out = Some (codes "refused nothing to redo\n");
      session = record {
        current = record { inputs = worked_input 0 ∷ worked_input 5 ∷ []; kept = 0 ∷ [] };
        older = record { inputs = worked_input 0 ∷ worked_input 0 ∷ []; kept = 0 ∷ [] } ∷ [];
        newer = [];
      };
    })
    × ((worked_answers setup 5 (order.KeepEvery 2 ∷ order.Delete 3 ∷ [])).session.current.kept ≡ 0 ∷ 2 ∷ 3
    ∷ [])
    × ((worked_answers setup 2 (order.Film 0 3 1 ∷ order.Settle 9 ∷ [])).out
    ≡ Some (codes "refused no frame\n"))
    × ((worked_answers setup 600 (order.Film 0 600 16 ∷ [])).out ≡ Some (codes "refused too long\n"))

pub answer-cases : AnswerCases
unfolding answers_by
answer-cases setup = (refl, refl, refl, refl, refl, refl, refl)
