-- Worked cases of answers and outputs, by computation: accepted orders that tell of places; films; kept
-- places up to their limit; a row of a recording that was run. And a law: which refusal comes first where
-- several hold.
use Rattle.std.specs.Prelude.{◌≡◌, ◌<◌, ℕ, true, false, length, List, [], ◌∷◌, codes, replicate, Option, Some, None, option_map, Ok, Err, pos, refl}
use Rattle.std.specs.Fmt.{digits}
use Rattle.std.specs.List.{range_with_len}
use Rattle.w4_defs.specs.declared.batch.BatchRow.TheVariants.{Ran}
use Rattle.w4_defs.specs.declared.console.Halt.TheVariants.{Running}
use Rattle.w4_defs.specs.declared.console.Input.{Input}
use Rattle.w4_defs.specs.declared.film_refusal.FilmRefusal.TheVariants as film
use Rattle.w4_defs.specs.declared.inspect.Ask.TheVariants as ask
use Rattle.w4_defs.specs.declared.inspect.QueryLine.TheVariants as line
use Rattle.w4_defs.specs.declared.order.Order.{Order}
use Rattle.w4_defs.specs.declared.order.Order.TheVariants as order
use Rattle.w4_defs.specs.declared.place_text.PlaceText.TheVariants.{Image}
use Rattle.w4_defs.specs.declared.status.Refusal.{Refusal}
use Rattle.w4_defs.specs.declared.status.Refusal.TheVariants.{FrameRefused}
use Rattle.w4_defs.specs.AllThere.{joined}
use Rattle.w4_defs.specs.Answers.{answers_by}
use Rattle.w4_defs.specs.Batch.{file_row, worked_file}
use Rattle.w4_defs.specs.Board.{console_setup}
use Rattle.w4_defs.specs.Commands.{EditWords}
use Rattle.w4_defs.specs.EmptyCart.{empty_module}
use Rattle.w4_defs.specs.Evaluation.{eval, eval_within}
use Rattle.w4_defs.specs.Film.{film_refusal, run_images}
use Rattle.w4_defs.specs.Frame.{cleared, frame}
use Rattle.w4_defs.specs.FrameTexts.{schedule_text, state_line, trace_text}
use Rattle.w4_defs.specs.Lines.{decimal_value, number_of}
use Rattle.w4_defs.specs.Live.{LiveSession, new_live_session, own_rows, served, session_events}
use Rattle.w4_defs.specs.RamQuery.{query_rows}
use Rattle.w4_defs.specs.RecordingOutputs.{compared_result}
use Rattle.w4_defs.specs.Script.{script_rows}
use Rattle.w4_defs.specs.Units.{start_units}
use Rattle.w4_defs.specs.declared.status.Finish.TheVariants.{Done, Different}
use Rattle.w4_defs.specs.Output.{all_events, edit_files, font_in, recording_in, run_files, run_files_to, script_in}
use Rattle.w4_defs.specs.PlaceTexts.{as_it_stands, place_text}
use Rattle.w4_defs.specs.Recording.{Recording, frames_of, recording_of}
use Rattle.w4_defs.specs.Reset.{Setup, first_page, reset, start, start_page}
use Rattle.w4_defs.specs.Run.{run}
use Rattle.w4_defs.specs.ScriptAnswers.{answer, script_answers}
use Rattle.w4_defs.specs.Session.{Session}
use Rattle.w4_defs.specs.State.{zero_page}
use Rattle.w4_defs.specs.ToolOutputs.{line_answer, ram_answers}
use Rattle.w4_defs.specs.World.{Files, written_by}

abbrev still : Input
still = record { pads = 0 ∷ 0 ∷ 0 ∷ 0 ∷ []; mouse_x = pos 0; mouse_y = pos 0; buttons = 0; reset = false }

-- ---- accepted orders, over the cart whose `update` does nothing: schedules, traces and states

abbrev still_answers : List Order → Option (List ℕ)
still_answers orders = (script_answers (console_setup empty_module [] 9) [] (replicate 2 still) orders).out

abbrev pub PlaceAnswerCases : Type 0
PlaceAnswerCases =
    (still_answers (order.Tones 0 1 ∷ []) ≡ Some (codes "frame 0\nframe 1\n"))
    × (still_answers (order.Traces 2 2 ∷ []) ≡ Some (codes "frame 2\n"))
    × (still_answers (order.Keep 1 ∷ order.StateAt 2 ∷ [])
    ≡ Some (codes "state 2 of 2 halt running disk 0 kept 0 1\n"))
    × (still_answers (order.DiskAt 1 ∷ []) ≡ Some [])

pub place-answer-cases : PlaceAnswerCases
unfolding answers_by eval eval_within zero_page first_page start_page start reset cleared frame schedule_text
    trace_text state_line digits
place-answer-cases = (refl, refl, refl, refl)

-- ---- a live session over the same cart: globals, units, schedules and a state, each in its pieces

abbrev session_answers : List (List ℕ) → Option (List ℕ)
session_answers lines = option_map (λ output. written_by (all_events output)) (served (record {
  cart = empty_module;
  run = record {
    recording = record { digest = []; budget = 9; disk = []; frames = replicate 2 still };
    font = [];
  };
  out = codes "o";
}) (record { lines = lines; saves = [] }))

abbrev pub SessionAnswerCases : Type 0
SessionAnswerCases =
    (session_answers (codes "globals 0" ∷ codes "units 0 2" ∷ [])
    ≡ Some (codes "8\nglobals\n0\n10\nunits 0 0\n10\nunits 1 0\n0\n"))
    × (session_answers (codes "tones 0 1" ∷ codes "state 1" ∷ [])
    ≡ Some (codes "8\nframe 0\n8\nframe 1\n0\n40\nstate 1 of 2 halt running disk 0 kept 0\n0\n"))

pub session-answer-cases : SessionAnswerCases
unfolding session_events script_rows query_rows own_rows decimal_value number_of eval eval_within zero_page
    first_page start_page start start_units reset cleared frame schedule_text trace_text state_line digits
session-answer-cases = (refl, refl)

-- ---- the finish of a comparison

abbrev pub FinishCases : Type 0
FinishCases =
    ((compared_result (record { text = codes "x"; same = true })).finish ≡ Done)
    × ((compared_result (record { text = codes "x"; same = false })).finish ≡ Different)

pub finish-cases : FinishCases
finish-cases = (refl, refl)

-- ---- images, over any cart: `show` writes that of its place, a film those of its places, one after another

abbrev image_at : Setup → ℕ → Option (List ℕ)
image_at setup p = place_text as_it_stands Image p (run setup [] (replicate 2 still) p)

abbrev pub ImageAnswerCases : Type 0
ImageAnswerCases = (setup : Setup) →
    ((script_answers setup [] (replicate 2 still) (order.Show 1 ∷ [])).out
    ≡ joined (image_at setup 1) (Some []))
    × ((script_answers setup [] (replicate 2 still) (order.Film 1 2 4 ∷ [])).out
    ≡ joined (joined (image_at setup 1) (joined (image_at setup 2) (Some []))) (Some []))
    × (run_images setup [] (replicate 2 still) 1 2
    ≡ joined (image_at setup 1) (joined (image_at setup 2) (Some [])))
    × (film_refusal 1 2 (replicate 2 still) ≡ None)
    × (film_refusal 0 3 (replicate 2 still) ≡ Some film.NoFrame)
    × (film_refusal 0 700 (replicate 2 still) ≡ Some film.NoFrame)
    × (film_refusal 0 599 (replicate 600 still) ≡ None)
    × (film_refusal 0 600 (replicate 600 still) ≡ Some film.FilmTooLong)

pub image-answer-cases : ImageAnswerCases
unfolding answers_by run_images
image-answer-cases setup = (refl, refl, refl, refl, refl, refl, refl, refl)

-- ---- kept places: with 1,024 of them `keep` and `keep-every` are refused, and with 1,023 another is kept;
-- a place that is kept, and one that isn't there, have refusals of their own

abbrev crowded : ℕ → Session ℕ
crowded many = record {
  current = record { inputs = replicate 1100 still; kept = range_with_len 0 many };
  older = [];
  newer = [];
}

abbrev pub KeptAnswerCases : Type 0
KeptAnswerCases = (setup : Setup) →
    ((answer as_it_stands setup [] (crowded 1023) (order.Keep 1050)).out ≡ Some [])
    × ((answer as_it_stands setup [] (crowded 1024) (order.Keep 1050)).out ≡ Some (codes "refused full\n"))
    × ((answer as_it_stands setup [] (crowded 1024) (order.KeepEvery 1050)).out
    ≡ Some (codes "refused full\n"))
    × ((answer as_it_stands setup [] (crowded 1024) (order.Keep 7)).out ≡ Some (codes "refused kept\n"))
    × ((answer as_it_stands setup [] (crowded 1024) (order.Keep 1101)).out
    ≡ Some (codes "refused no frame\n"))

pub kept-answer-cases : KeptAnswerCases
kept-answer-cases setup = (refl, refl, refl, refl, refl)

-- ---- a query: orders that keep places write nothing, or are refused as in a script

abbrev query_session : ℕ → LiveSession
query_session many = record { session = crowded many; search = None }

abbrev pub KeepingAnswerCases : Type 0
KeepingAnswerCases = (setup : Setup) →
    ((ram_answers setup [] (new_live_session (replicate 2 still))
    (line.Keep 2 ∷ line.Ask ask.List ∷ line.Keep 2 ∷ line.Keep 0 ∷ line.Keep 3 ∷ [])).out
    ≡ Some (codes "refused no search\nrefused kept\nrefused kept\nrefused no frame\n"))
    × ((ram_answers setup [] (new_live_session (replicate 5 still))
    (line.KeepEvery 2 ∷ line.Keep 3 ∷ line.Keep 4 ∷ [])).out ≡ Some (codes "refused kept\n"))
    × ((line_answer setup [] (query_session 1023) (line.Keep 1050)).out ≡ Some [])
    × ((line_answer setup [] (query_session 1024) (line.Keep 1050)).out ≡ Some (codes "refused full\n"))
    × ((line_answer setup [] (query_session 1024) (line.KeepEvery 1050)).out ≡ Some (codes "refused full\n"))

pub keeping-answer-cases : KeepingAnswerCases
unfolding answers_by
keeping-answer-cases setup = (refl, refl, refl, refl, refl)

-- a value that is watched before and after places are kept: the mouse's x, over the cart whose `update` does
-- nothing
abbrev pub KeptWatchCase : Type 0
KeptWatchCase =
    (ram_answers (console_setup empty_module [] 9) [] (new_live_session (replicate 2 still))
    (line.Ask (ask.Watch 26 2 0 2) ∷ line.KeepEvery 1 ∷ line.Ask (ask.Watch 26 2 0 2) ∷ [])).out
    ≡ Some (codes "watch 26 32767 0 0\nwatch 26 32767 0 0\n")

pub kept-watch-case : KeptWatchCase
unfolding answers_by eval eval_within zero_page first_page start_page start reset cleared frame digits
kept-watch-case = refl

-- ---- a batch's row of a recording that was run

abbrev pub RanRowCase : Type 0
RanRowCase =
    file_row (λ image. []) empty_module [] (replicate 32 7) worked_file ≡ Some (Ran 0 Running [] 0)

pub ran-row-case : RanRowCase
unfolding file_row recording_of frames_of eval eval_within zero_page first_page start_page start reset cleared
    frame
ran-row-case = refl

-- ---- which refusal comes first, whatever the files: the recording's, then the font's, then the script's;
-- and of a command that names a place, the place's last
abbrev pub RefusalsInOrder : Type 0
RefusalsInOrder =
    (digest : List ℕ) (words : EditWords) (files : Files) (recording : Recording) (font : List ℕ)
    (refusal : Refusal) →
    (recording_in digest files words.run.recording ≡ Err refusal
    → edit_files digest words files ≡ Err refusal)
    × (recording_in digest files words.run.recording ≡ Ok recording
    → font_in files words.run.font ≡ Err refusal → edit_files digest words files ≡ Err refusal)
    × (recording_in digest files words.run.recording ≡ Ok recording → font_in files words.run.font ≡ Ok font
    → script_in files words.script ≡ Err refusal → edit_files digest words files ≡ Err refusal)
    × ((place : ℕ) → run_files digest words.run files ≡ Err refusal
    → run_files_to digest words.run place files ≡ Err refusal)
    × ((place : ℕ) → run_files digest words.run files ≡ Ok (record { recording = recording; font = font })
    → length recording.frames < place
    → run_files_to digest words.run place files ≡ Err (FrameRefused place (length recording.frames)))
