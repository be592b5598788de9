-- A live session (project rule). Orders come one a line, from standard input: those of a script, the
-- requests of a query, and a few of its own. A line has at most 1,024 bytes, a byte 13 at its end counted; a
-- longer one is no order. Each line has one answer, in pieces and an end: a piece is its length in decimal,
-- byte 10, and so many bytes, at least one; the end is `0` and byte 10. The answer of a line stands on
-- standard output before the next line is asked for, so that what is done is one list of events. At the end
-- of input the file OUT becomes the recording that is left, in version 2. Where an answer can't be written or
-- input can't be read, OUT becomes the recording as the lines taken so far leave it.
use Rattle.std.specs.Prelude.{◌≡◌, ℕ, ◌-◌, List, [], ◌∷◌, ◌++◌, flat_map, length, nat_lt, replicate, slice_range, take, codes, decimal, option_map, Option, Some, None, Result, false, if◌then◌else◌, pos, refl}
use Rattle.std.specs.Fmt.{digits}
use Rattle.std.specs.Option.{option_or}
use Rattle.w4_defs.specs.declared.console.Input.{Input}
use Rattle.w4_defs.specs.declared.live.LiveOrder.{LiveOrder}
use Rattle.w4_defs.specs.declared.live.LiveOrder.TheVariants as live
use Rattle.w4_defs.specs.declared.value.Val.{Val}
use Rattle.w4_defs.specs.declared.value.Val.TheVariants.{I32, I64}
use Rattle.w4_defs.specs.AllThere.{joined}
use Rattle.w4_defs.specs.Answers.{Answered, answer_text, carried_out}
use Rattle.w4_defs.specs.FrameTexts.{spaced, line_end}
use Rattle.w4_defs.specs.InputsText.{input_lines}
use Rattle.w4_defs.specs.Lines.{is_skipped, decimal_value, number_of, decimal_byte, coordinate_of, words_of}
use Rattle.w4_defs.specs.OrderFile.{OrderRow, order_by}
use Rattle.w4_defs.specs.OrderWords.{no_word, one_number, range_order}
use Rattle.w4_defs.specs.Module.{WasmModule}
use Rattle.w4_defs.specs.Output.{CartFile, Output, Played, all_events, making, run_files, run_setup}
use Rattle.w4_defs.specs.Commands.{ServeWords}
use Rattle.w4_defs.specs.declared.status.Finish.TheVariants.{Done}
use Rattle.w4_defs.specs.declared.status.Refusal.{Refusal}
use Rattle.w4_defs.specs.PlaceTexts.{PieceForm, place_texts}
use Rattle.w4_defs.specs.QueryAnswers.{pages_of, ram_answer}
use Rattle.w4_defs.specs.RamQuery.{query_rows, ask_of}
use Rattle.w4_defs.specs.Recording.{Recording, encoding}
use Rattle.w4_defs.specs.Reset.{Setup}
use Rattle.w4_defs.specs.Run.{run_page, run_state}
use Rattle.w4_defs.specs.Script.{script_rows, order_of}
use Rattle.w4_defs.specs.ScriptAnswers.{answer, if_place, refused_line}
use Rattle.w4_defs.specs.Search.{Search}
use Rattle.w4_defs.specs.Session.{Session, new_session}
use Rattle.w4_defs.specs.State.{State}
use Rattle.w4_defs.specs.Units.{units_at}
use Rattle.w4_defs.specs.World.{Event, Files, Took, InputEnded, Wrote, Saved, NotSaved, wrote, written_by}
use Rattle.w4_defs.specs.Limits.{live_line_limit}

-- ---- lines

-- the orders that a session alone has
unfoldable pub own_rows : List (OrderRow LiveOrder)
own_rows =
    record { name = codes "page"; order_from = one_number live.PageAt }
    ∷ record { name = codes "globals"; order_from = one_number live.GlobalsAt }
    ∷ record { name = codes "inputs"; order_from = range_order live.Inputs }
    ∷ record { name = codes "units"; order_from = range_order live.Units }
    ∷ record { name = codes "save"; order_from = no_word live.Save }
    ∷ []

-- an order of a script, a request of a query, or one of the session's own
abbrev pub live_order_of : List (List ℕ) → Option LiveOrder
live_order_of words = option_or (option_map live.Script (order_of words))
    (option_or (option_map live.Query (ask_of words)) (order_by own_rows words))

-- what a line asks for: nothing, where it has no words or is a remark; an order; or neither, which is no
-- order
pub data Asked : Type 0 where
  AsksNothing : Asked
  NoOrder : Asked
  Asks : LiveOrder → Asked

abbrev pub asked_by : Option LiveOrder → Asked
asked_by None = NoOrder
asked_by (Some order) = Asks order

abbrev pub asked_of : List ℕ → Asked
asked_of line =
    if nat_lt live_line_limit (length line) then NoOrder else
    if is_skipped (words_of line) then AsksNothing else
    asked_by (live_order_of (words_of line))

-- ---- answers

-- what is edited, and the search of the last accepted `start`
pub record LiveSession : Type 0 where
  pub session : Session ℕ
  pub search : Option Search

-- a session opens with the recording's inputs, of which place 0 is kept, and without a search
abbrev pub new_live_session : List Input → LiveSession
new_live_session inputs = record { session = new_session inputs 0; search = None }

abbrev pub val_number : Val → ℕ
val_number (I32 n) = n
val_number (I64 n) = n

-- the globals in the order of the module, without a sign
abbrev pub globals_text : List Val → List ℕ
globals_text globals = codes "globals" ++ flat_map (λ value. spaced (val_number value)) globals ++ line_end

-- the answer of an order of a script or a query, over the whole session
abbrev pub over_session : LiveSession → Answered (Session ℕ) → Answered LiveSession
over_session s answered = record { out = answered.out; session = record s { session = answered.session } }

abbrev pub over_search : LiveSession → Answered (Option Search) → Answered LiveSession
over_search s answered = record { out = answered.out; session = record s { search = answered.session } }

-- what is answered of a place of the recording as it is
abbrev pub answer_at : PieceForm → LiveSession → ℕ → Option (List ℕ) → Answered LiveSession
answer_at form s last out = answer_text s (if_place form s.session last out)

-- the answer of an order but `save`, which `order_step` takes before: what it does is said below, by how it
-- ends
abbrev pub live_answer : PieceForm → Setup → List ℕ → LiveSession → LiveOrder → Answered LiveSession
live_answer form setup disk s (live.Script order) = over_session s (answer form setup disk s.session order)
live_answer form setup disk s (live.Query ask) =
    over_search s (ram_answer form (pages_of setup disk s.session.current.inputs) s.search ask)
live_answer form setup disk s (live.PageAt p) =
    answer_at form s p (option_map form (run_page setup disk s.session.current.inputs p))
live_answer form setup disk s (live.GlobalsAt p) =
    answer_at form s p (option_map (λ (state : State). form (globals_text state.globals))
    (run_state setup disk s.session.current.inputs p))
live_answer form setup disk s (live.Inputs a b) =
    answer_at form s b (Some (form (input_lines (codes "set") a (slice_range s.session.current.inputs a b))))
live_answer form setup disk s (live.Units a b) =
    answer_at form s b (place_texts (units_at form setup disk s.session.current.inputs) a (b - a))
live_answer form setup disk s live.Save = carried_out s

-- ---- pieces and ends of answers

-- a piece of at least one byte; what has none is no piece
abbrev pub framed : PieceForm
framed [] = []
framed piece = decimal (length piece) ++ 10 ∷ piece

abbrev pub answer_end : List ℕ
answer_end = codes "0\n"

-- ---- what a session does, one event after another

-- how a `save` can end: the file is replaced; it is refused, and the file is as it was; or it is refused and
-- the file is replaced all the same
pub data SaveEnd : Type 0 where
  Replaced : SaveEnd
  Refused : SaveEnd
  RefusedLate : SaveEnd

-- what a line does, what is edited after it, and how the later saves end
pub record LiveStep : Type 0 where
  pub events : Option (List Event)
  pub session : LiveSession
  pub saves : List SaveEnd

-- what a session is opened on: a cart, a recording with a font, and the name OUT
pub record Opened : Type 0 where
  pub cart : WasmModule
  pub run : Played
  pub out : List ℕ

-- the recording as the edits so far leave it
abbrev pub recording_left : Opened → LiveSession → Recording
recording_left o s = record o.run.recording { frames = s.session.current.inputs }

-- it goes to OUT, in version 2
abbrev pub saving : Opened → LiveSession → List Event
saving o s = Saved o.out (encoding 2 (recording_left o s)) ∷ []

-- pieces and their end are written
abbrev pub answer_events : Option (List ℕ) → Option (List Event)
answer_events pieces = option_map (λ bytes. wrote (bytes ++ answer_end)) pieces

abbrev pub refused_save : List ℕ
refused_save = framed (refused_line (codes "cannot write"))

-- what a `save` does, by how it ends
abbrev pub save_events : Opened → LiveSession → SaveEnd → List Event
save_events o s Replaced = saving o s ++ wrote answer_end
save_events o s Refused = NotSaved o.out ∷ wrote (refused_save ++ answer_end)
save_events o s RefusedLate = saving o s ++ NotSaved o.out ∷ wrote (refused_save ++ answer_end)

-- a `save` ends as the first of these says; where none is left, it is written
abbrev pub save_step : Opened → LiveSession → List SaveEnd → LiveStep
save_step o s [] = record { events = Some (save_events o s Replaced); session = s; saves = [] }
save_step o s (end ∷ saves) = record { events = Some (save_events o s end); session = s; saves = saves }

abbrev pub answer_step : List SaveEnd → Answered LiveSession → LiveStep
answer_step saves answered =
    record { events = answer_events answered.out; session = answered.session; saves = saves }

abbrev pub order_step : Opened → LiveSession → List SaveEnd → LiveOrder → LiveStep
order_step o s saves live.Save = save_step o s saves
order_step o s saves order =
    answer_step saves (live_answer framed (run_setup o.cart o.run) o.run.recording.disk s order)

-- what follows a line that was taken
abbrev pub line_step : Opened → LiveSession → List SaveEnd → Asked → LiveStep
line_step o s saves AsksNothing = answer_step saves (carried_out s)
line_step o s saves NoOrder =
    answer_step saves (answer_text s (Some (framed (refused_line (codes "no order")))))
line_step o s saves (Asks order) = order_step o s saves order

-- what is edited after these lines, whatever was answered. How saves end changes nothing of it
abbrev pub session_after : Opened → LiveSession → List (List ℕ) → LiveSession
session_after o s [] = s
session_after o s (line ∷ lines) = session_after o (line_step o s [] (asked_of line)).session lines

-- what a session does over these lines, one after another; None where a run that it tells of has no meaning
unfoldable pub session_events : Opened → LiveSession → List SaveEnd → List (List ℕ) → Option (List Event)
session_events o s saves [] = Some []
session_events o s saves (line ∷ lines) =
    let step = line_step o s saves (asked_of line) in
    joined (Some (Took line ∷ [])) (joined step.events (session_events o step.session step.saves lines))

-- the lines that the client writes, and how each `save` ends
pub record Talk : Type 0 where
  pub lines : List (List ℕ)
  pub saves : List SaveEnd

abbrev pub first_live_session : Opened → LiveSession
first_live_session o = new_live_session o.run.recording.frames

-- the lines that have been taken
abbrev pub taken_lines : List Event → List (List ℕ)
taken_lines [] = []
taken_lines (Took line ∷ events) = line ∷ taken_lines events
taken_lines (event ∷ events) = taken_lines events

-- OUT becomes the recording as these lines leave it
abbrev pub saving_after : Opened → List (List ℕ) → List Event
saving_after o lines = saving o (session_after o (first_live_session o) lines)

-- all lines are answered, and then the recording left is saved; where the session is stopped, that of the
-- lines taken so far may be saved
abbrev pub serve_result : Opened → Talk → List Event → Output
serve_result o talk events = record {
  events = events ++ InputEnded ∷ [];
  saved = saving_after o talk.lines;
  rescued = λ count. saving_after o (taken_lines (take count (events ++ InputEnded ∷ [])));
  finish = Done;
}

abbrev pub served : Opened → Talk → Option Output
served o talk =
    option_map (serve_result o talk) (session_events o (first_live_session o) talk.saves talk.lines)

-- `serve CART REC FONT OUT`
unfoldable pub serve_output : ServeWords → Talk → CartFile → Files → Option (Result Output Refusal)
serve_output words talk cart files = making (run_files cart.digest words.run files)
    (λ p. served (record { cart = cart.code; run = p; out = words.out }) talk)

-- ---- worked cases, over any cart and a recording of two inputs

abbrev worked_input : ℕ → Input
worked_input pad =
    record { pads = pad ∷ 0 ∷ 0 ∷ 0 ∷ []; mouse_x = pos 0; mouse_y = pos 0; buttons = 0; reset = false }

abbrev worked_session : WasmModule → Opened
worked_session cart = record {
  cart = cart;
  run = record {
    recording = record { digest = []; budget = 1; disk = []; frames = worked_input 5 ∷ worked_input 9 ∷ [] };
    font = [];
  };
  out = codes "o";
}

abbrev answers_to : WasmModule → List SaveEnd → List (List ℕ) → Option (List ℕ)
answers_to cart saves lines = option_map (λ output. written_by (all_events output))
    (served (worked_session cart) (record { lines = lines; saves = saves }))

-- an empty line, a remark and an edit have an empty answer; a word that no order has; a search that hasn't
-- begun; a place that isn't there; two inputs of which one was set, and none; a byte 13 at the end
abbrev pub LiveCases : Type 0
LiveCases = (cart : WasmModule) →
    (answers_to cart [] ([] ∷ codes "# x" ∷ codes "set 1 4 0 0 0 0 0 0" ∷ []) ≡ Some (codes "0\n0\n0\n"))
    × (answers_to cart [] (codes "what" ∷ codes "list" ∷ [])
    ≡ Some (codes "17\nrefused no order\n0\n18\nrefused no search\n0\n"))
    × (answers_to cart [] (codes "page 3" ∷ codes "units 0 3" ∷ (codes "keep 1" ++ 13 ∷ []) ∷ [])
    ≡ Some (codes "17\nrefused no frame\n0\n17\nrefused no frame\n0\n0\n"))
    × (answers_to cart [] (codes "set 1 4 0 0 0 -2 0 0 reset" ∷ codes "inputs 0 2" ∷ codes "inputs 1 1" ∷ [])
    ≡ Some (codes "0\n47\nset 0 5 0 0 0 0 0 0\nset 1 4 0 0 0 -2 0 0 reset\n0\n0\n"))

pub live-cases : LiveCases
unfolding session_events script_rows query_rows own_rows decimal_value number_of decimal_byte coordinate_of
    digits
live-cases cart = (refl, refl, refl, refl)

abbrev all_that_is_done : Opened → List SaveEnd → List (List ℕ) → Option (List Event)
all_that_is_done o saves lines = option_map all_events (served o (record { lines = lines; saves = saves }))

-- what is saved where a session over these lines is stopped after so many events
abbrev rescued_after : Opened → List (List ℕ) → ℕ → Option (List Event)
rescued_after o lines count =
    option_map (λ output. output.rescued count) (served o (record { lines = lines; saves = [] }))

-- a session that is stopped before a line is taken, after it was, within the answer of a later one, and after
-- an order that is refused
abbrev pub RescueCases : Type 0
RescueCases = (cart : WasmModule) →
    let o = worked_session cart in
    (rescued_after o (codes "delete 0" ∷ []) 0 ≡ Some (Saved (codes "o") (encoding 2 o.run.recording) ∷ []))
    × (rescued_after o (codes "delete 0" ∷ []) 1
    ≡ Some (Saved (codes "o") (encoding 2 (record o.run.recording { frames = worked_input 9 ∷ [] })) ∷ []))
    × (rescued_after o (codes "delete 0" ∷ codes "what" ∷ []) 6
    ≡ Some (Saved (codes "o") (encoding 2 (record o.run.recording { frames = worked_input 9 ∷ [] })) ∷ []))
    × (rescued_after o (codes "delete 2" ∷ []) 9
    ≡ Some (Saved (codes "o") (encoding 2 o.run.recording) ∷ []))

pub rescue-cases : RescueCases
unfolding session_events script_rows query_rows own_rows decimal_value number_of digits
rescue-cases cart = (refl, refl, refl, refl)

-- each line is taken before its answer is written, the input's end after the last; saves that end in each way
abbrev pub LiveEventCases : Type 0
LiveEventCases = (cart : WasmModule) →
    let o = worked_session cart in
    let left = encoding 2 o.run.recording in
    (all_that_is_done o [] (codes "#" ∷ []) ≡ Some (Took (codes "#") ∷ Wrote 48 ∷ Wrote 10 ∷ InputEnded
    ∷ Saved (codes "o") left ∷ []))
    × (all_that_is_done o (Replaced ∷ []) (codes "save" ∷ [])
    ≡ Some (Took (codes "save") ∷ Saved (codes "o") left ∷ Wrote 48 ∷ Wrote 10 ∷ InputEnded
    ∷ Saved (codes "o") left ∷ []))
    × (all_that_is_done o (Refused ∷ []) (codes "save" ∷ [])
    ≡ Some (Took (codes "save") ∷ NotSaved (codes "o") ∷ wrote (codes "21\nrefused cannot write\n0\n")
    ++ InputEnded ∷ Saved (codes "o") left ∷ []))
    × (all_that_is_done o (RefusedLate ∷ []) (codes "save" ∷ [])
    ≡ Some (Took (codes "save") ∷ Saved (codes "o") left ∷ NotSaved (codes "o")
    ∷ wrote (codes "21\nrefused cannot write\n0\n") ++ InputEnded ∷ Saved (codes "o") left ∷ []))
    × ((session_after o (new_live_session o.run.recording.frames)
    (codes "delete 0" ∷ codes "what" ∷ [])).session.current.inputs ≡ worked_input 9 ∷ [])
    × (answers_to cart (Refused ∷ RefusedLate ∷ []) (codes "save" ∷ codes "save" ∷ codes "save" ∷ [])
    ≡ Some (codes "21\nrefused cannot write\n0\n21\nrefused cannot write\n0\n0\n"))

pub live-event-cases : LiveEventCases
unfolding session_events script_rows query_rows own_rows decimal_value number_of digits
live-event-cases cart = (refl, refl, refl, refl, refl, refl)

-- a line of 1,024 bytes may be a remark, one of 1,025 is no order; the pieces of two lengths
abbrev pub LongLineCases : Type 0
LongLineCases =
    (asked_of (35 ∷ replicate 1023 97) ≡ AsksNothing)
    × (asked_of (35 ∷ replicate 1024 97) ≡ NoOrder)
    × (framed [] ≡ [])
    × (framed (codes "frame 0\n") ≡ codes "8\nframe 0\n")

pub long-line-cases : LongLineCases
unfolding digits
long-line-cases = (refl, refl, refl, refl)
