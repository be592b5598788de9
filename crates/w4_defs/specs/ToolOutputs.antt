-- What `net`, `ram`, `wave` and `batch` make of their words and files (project rule). As in all commands the
-- cart is judged first, then the files in the order of the words, each before the next is read.
use Rattle.std.specs.Prelude.{ℕ, ◌+◌, List, [], ◌∷◌, ◌++◌, length, map, Option, option_map, Result, Ok}
use Rattle.std.specs.List.{range_with_len}
use Rattle.sha2.specs.Sha256.{sha256}
use Rattle.w4_defs.specs.declared.inspect.QueryLine.{QueryLine}
use Rattle.w4_defs.specs.declared.inspect.QueryLine.TheVariants as line
use Rattle.w4_defs.specs.declared.live.LiveOrder.{LiveOrder}
use Rattle.w4_defs.specs.declared.live.LiveOrder.TheVariants as live
use Rattle.w4_defs.specs.declared.netplay.NetOrder.{NetOrder}
use Rattle.w4_defs.specs.declared.order.Order.TheVariants as order
use Rattle.w4_defs.specs.AllThere.{all_some}
use Rattle.w4_defs.specs.Batch.{file_rows}
use Rattle.w4_defs.specs.Board.{console_setup}
use Rattle.w4_defs.specs.Module.{WasmModule}
use Rattle.w4_defs.specs.NetLog.{net_log_of}
use Rattle.w4_defs.specs.RamQuery.{query_of}
use Rattle.w4_defs.specs.Sound.{samples, wav_header}
use Rattle.w4_defs.specs.State.{Moment, FrameRecord}
use Rattle.w4_defs.specs.World.{Files}
use Rattle.w4_defs.specs.NameLists.{names_of}
use Rattle.w4_defs.specs.declared.status.Refusal.{Refusal}
use Rattle.w4_defs.specs.declared.status.Refusal.TheVariants.{ListRefused, ScriptRefused}
use Rattle.w4_defs.specs.Commands.{RunWords, NetWords, BatchWords}
use Rattle.w4_defs.specs.Output.{◌>>=◌, CartFile, Output, Played, reading, judged, font_in, lines_or, run_files, run_setup, moment_at, printing}
use Rattle.w4_defs.specs.LogAnswers.{first_session, net_answers}
use Rattle.w4_defs.specs.Answers.{Answered, answers_by}
use Rattle.w4_defs.specs.Live.{LiveSession, live_answer, new_live_session}
use Rattle.w4_defs.specs.PlaceTexts.{as_it_stands}
use Rattle.w4_defs.specs.Reset.{Setup}
use Rattle.w4_defs.specs.BatchRows.{rows_text}
use Rattle.w4_defs.specs.Limits.{script_limit, name_list_limit, recording_limit}

-- ---- files of lines: a log or a query is refused as a script is

unfoldable pub log_orders : List ℕ → Result (List NetOrder) Refusal
log_orders bytes = lines_or ScriptRefused (net_log_of bytes)

unfoldable pub log_in : Files → List ℕ → Result (List NetOrder) Refusal
log_in = judged script_limit log_orders

unfoldable pub query_lines : List ℕ → Result (List QueryLine) Refusal
query_lines bytes = lines_or ScriptRefused (query_of bytes)

unfoldable pub query_in : Files → List ℕ → Result (List QueryLine) Refusal
query_in = judged script_limit query_lines

-- ---- `net`: the answers of the log, over a cart without a disk

-- what a session of rollback is made of besides the cart
pub record NetLoaded : Type 0 where
  pub font : List ℕ
  pub orders : List NetOrder

unfoldable pub net_files : NetWords → Files → Result NetLoaded Refusal
net_files words files = do
  font ← font_in files words.font
  orders ← log_in files words.log
  Ok (record { font = font; orders = orders })

abbrev pub net_text : WasmModule → ℕ → NetLoaded → Option (List ℕ)
net_text m budget l = (net_answers (console_setup m l.font budget) first_session l.orders).out

unfoldable pub net_output : NetWords → CartFile → Files → Option (Result Output Refusal)
net_output words cart files = printing (net_files words files) (net_text cart.code words.budget)

-- ---- `ram`: the answers of the query, over the recording. Each line has the answer that it has in a live
-- session, as it stands; an order that keeps places changes the answer of no request

-- what a query is answered over, and its lines
pub record RamLoaded : Type 0 where
  pub run : Played
  pub lines : List QueryLine

unfoldable pub ram_files : List ℕ → RunWords → List ℕ → Files → Result RamLoaded Refusal
ram_files digest words query files = do
  run ← run_files digest words files
  lines ← query_in files query
  Ok (record { run = run; lines = lines })

-- the order of a live session that a line is
abbrev pub live_order : QueryLine → LiveOrder
live_order (line.Ask ask) = live.Query ask
live_order (line.Keep p) = live.Script (order.Keep p)
live_order (line.KeepEvery every) = live.Script (order.KeepEvery every)

abbrev pub line_answer : Setup → List ℕ → LiveSession → QueryLine → Answered LiveSession
line_answer setup disk session line = live_answer as_it_stands setup disk session (live_order line)

-- the answers of a query, in order
abbrev pub ram_answers : Setup → List ℕ → LiveSession → List QueryLine → Answered LiveSession
ram_answers setup disk session lines = answers_by (line_answer setup disk) session lines

abbrev pub ram_text : WasmModule → RamLoaded → Option (List ℕ)
ram_text m l =
    let r = l.run.recording in
    (ram_answers (run_setup m l.run) r.disk (new_live_session r.frames) l.lines).out

unfoldable pub ram_output : RunWords → List ℕ → CartFile → Files → Option (Result Output Refusal)
ram_output words query cart files =
    printing (ram_files cart.digest words query files) (ram_text cart.code)

-- ---- `wave`: the header and the samples of places 0 to n

-- the records of so many places from place 0 on
abbrev pub records_of : WasmModule → Played → ℕ → Option (List FrameRecord)
records_of m p places =
    all_some (map (λ place. option_map (λ (moment : Moment). moment.frame_record) (moment_at m p place))
    (range_with_len 0 places))

abbrev pub wave_text : WasmModule → Played → Option (List ℕ)
wave_text m p =
    let places = length p.recording.frames + 1 in
    option_map (λ records. wav_header places ++ samples records) (records_of m p places)

unfoldable pub wave_output : RunWords → CartFile → Files → Option (Result Output Refusal)
wave_output words cart files = printing (run_files cart.digest words files) (wave_text cart.code)

-- ---- `batch`: the rows of the listed recordings. How many workers there are doesn't matter

-- the names of a list, or why it is refused
unfoldable pub listed_names : List ℕ → Result (List (List ℕ)) Refusal
listed_names bytes = lines_or ListRefused (names_of bytes)

unfoldable pub names_in : Files → List ℕ → Result (List (List ℕ)) Refusal
names_in = judged name_list_limit listed_names

-- the listed files, in order, each by its first 361,072 bytes
unfoldable pub listed_files : List (List ℕ) → Files → Result (List (List ℕ)) Refusal
listed_files [] files = Ok []
listed_files (name ∷ names) files = do
  bytes ← reading files name (recording_limit + 1)
  others ← listed_files names files
  Ok (bytes ∷ others)

-- what a batch is made of besides the cart
pub record BatchLoaded : Type 0 where
  pub font : List ℕ
  pub names : List (List ℕ)
  pub recordings : List (List ℕ)

unfoldable pub batch_files : BatchWords → Files → Result BatchLoaded Refusal
batch_files words files = do
  font ← font_in files words.font
  names ← names_in files words.list
  recordings ← listed_files names files
  Ok (record { font = font; names = names; recordings = recordings })

abbrev pub batch_text : CartFile → BatchLoaded → Option (List ℕ)
batch_text cart l = rows_text l.names (file_rows sha256 cart.code l.font cart.digest l.recordings)

unfoldable pub batch_output : BatchWords → CartFile → Files → Option (Result Output Refusal)
batch_output words cart files = printing (batch_files words files) (batch_text cart)
