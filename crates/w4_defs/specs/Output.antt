-- What the program does for its words and the files that it finds, or the first refusal (project rule).
-- The words are judged first, then the cart, the recording, whether it is the cart's, the font and the
-- script, each file before the next is read, and last the places that the words name. A file is judged by
-- its first bytes, one more than its limit: 65,536 of a cart, 361,071 of a recording, 1,792 of a font,
-- 1,048,576 of a script. What a cart's bytes are is a relation; all that follows is a function of the cart.
use Rattle.std.specs.Prelude.{◌≡◌, ℕ, ◌+◌, ◌-◌, ◌==◌, nat_le, List, [], ◌∷◌, ◌++◌, codes, length, Option, Some, None, option_map, Result, Ok, Err, if◌then◌else◌}
use Rattle.std.specs.Str.{bytes_eq}
use Rattle.sha2.specs.Sha256.{sha256}
use Rattle.w4_defs.specs.declared.order.Order.{Order}
use Rattle.w4_defs.specs.Module.{WasmModule}
use Rattle.w4_defs.specs.Cart.{IsCart, IsRefused}
use Rattle.w4_defs.specs.Generator.{made_module}
use Rattle.w4_defs.specs.MadeSummary.{made_summary}
use Rattle.w4_defs.specs.Recording.{Recording, recording_of, encoding}
use Rattle.w4_defs.specs.declared.status.ScriptKind.{ScriptKind}
use Rattle.w4_defs.specs.Script.{script_of}
use Rattle.w4_defs.specs.Board.{console_setup}
use Rattle.w4_defs.specs.Reset.{Setup}
use Rattle.w4_defs.specs.Run.{run}
use Rattle.w4_defs.specs.Session.{Session}
use Rattle.w4_defs.specs.State.{Moment}
use Rattle.w4_defs.specs.EncodeModule.{module_bytes}
use Rattle.w4_defs.specs.World.{Event, Files, Saved, front_of, wrote}
use Rattle.w4_defs.specs.declared.status.Finish.{Finish}
use Rattle.w4_defs.specs.declared.status.Finish.TheVariants.{Done}
use Rattle.w4_defs.specs.declared.place_text.PlaceText.{PlaceText}
use Rattle.w4_defs.specs.declared.place_text.PlaceText.TheVariants.{Image, DiskBytes}
use Rattle.w4_defs.specs.declared.status.RecordingKind.TheVariants.{Bad, WrongCart}
use Rattle.w4_defs.specs.declared.status.Refusal.{Refusal}
use Rattle.w4_defs.specs.declared.status.Refusal.TheVariants.{ReadFault, CartRefused, RecordingRefused, FontRefused, ScriptRefused, FrameRefused}
use Rattle.w4_defs.specs.Commands.{RunWords, EditWords}
use Rattle.w4_defs.specs.PlaceTexts.{as_it_stands, run_texts}
use Rattle.w4_defs.specs.ScriptAnswers.{script_answers}
use Rattle.w4_defs.specs.Answers.{Answered}
use Rattle.w4_defs.specs.Limits.{cart_limit, recording_limit, font_size, script_limit}

-- What a command does.
pub record Output : Type 0 where
  -- what is done, one event after another, but for the file at the end
  pub events : List Event
  -- that the file at the end is replaced, or nothing
  pub saved : List Event
  -- what is still saved where so many of the events have happened and the rest can't
  pub rescued : ℕ → List Event
  -- whether it tells of a difference
  pub finish : Finish

-- all that is done where nothing stops it
abbrev pub all_events : Output → List Event
all_events output = output.events ++ output.saved

infixl 10 ◌>>=◌
abbrev pub ◌>>=◌ : {A B : Type 0} → Result A Refusal → (A → Result B Refusal) → Result B Refusal
(Ok x) >>= f = f x
(Err refusal) >>= f = Err refusal

abbrev pub or_refuse : {A : Type 0} → Refusal → Option A → Result A Refusal
or_refuse refusal (Some x) = Ok x
or_refuse refusal None = Err refusal

-- the first `most` bytes of a file, or all
abbrev pub reading : Files → List ℕ → ℕ → Result (List ℕ) Refusal
reading files name most = or_refuse ReadFault (front_of files name most)

-- a cart, as the module of its code, and the SHA-256 of its bytes
pub record CartFile : Type 0 where
  pub code : WasmModule
  pub digest : List ℕ

-- what the bytes of a cart's file are: a cart, or a refusal with the first cause that holds
abbrev pub JudgedCart : Result (List ℕ) Refusal → Result CartFile Refusal → Type 0
JudgedCart (Err refusal) cart = cart ≡ Err refusal
JudgedCart (Ok bytes) (Ok cart) = IsCart bytes cart.code × (cart.digest ≡ sha256 bytes)
JudgedCart (Ok bytes) (Err (CartRefused kind)) = IsRefused bytes kind
JudgedCart (Ok bytes) (Err refusal) = ⊥

abbrev pub CartIn : List ℕ → Files → Result CartFile Refusal → Type 0
CartIn name files cart = JudgedCart (reading files name (cart_limit + 1)) cart

-- what a judge makes of a file by its first bytes, one more than its limit
abbrev pub judged : {A : Type 0} → ℕ → (List ℕ → Result A Refusal) → Files → List ℕ → Result A Refusal
judged limit judge files name = reading files name (limit + 1) >>= judge

-- a recording is the cart's if and only if it has the cart's digest
abbrev pub of_cart : List ℕ → Recording → Result Recording Refusal
of_cart digest r = if bytes_eq r.digest digest then Ok r else Err (RecordingRefused WrongCart)

-- a recording of any cart, or none
abbrev pub any_recording : List ℕ → Result Recording Refusal
any_recording bytes = or_refuse (RecordingRefused Bad) (recording_of bytes)

unfoldable pub cart_recording : List ℕ → List ℕ → Result Recording Refusal
cart_recording digest bytes = any_recording bytes >>= of_cart digest

unfoldable pub recording_in : List ℕ → Files → List ℕ → Result Recording Refusal
recording_in digest = judged recording_limit (cart_recording digest)

abbrev pub font_of : List ℕ → Result (List ℕ) Refusal
font_of bytes = if length bytes == font_size then Ok bytes else Err FontRefused

unfoldable pub font_in : Files → List ℕ → Result (List ℕ) Refusal
font_in = judged font_size font_of

-- the lines of a file, or the refusal of this kind of file
abbrev pub lines_or : {A : Type 0} → (ScriptKind → Refusal) → Result A ScriptKind → Result A Refusal
lines_or refused (Ok lines) = Ok lines
lines_or refused (Err kind) = Err (refused kind)

unfoldable pub orders_of : List ℕ → Result (List Order) Refusal
orders_of bytes = lines_or ScriptRefused (script_of bytes)

unfoldable pub script_in : Files → List ℕ → Result (List Order) Refusal
script_in = judged script_limit orders_of

-- what a run is made of besides the cart
pub record Played : Type 0 where
  pub recording : Recording
  pub font : List ℕ

unfoldable pub run_files : List ℕ → RunWords → Files → Result Played Refusal
run_files digest words files = do
  recording ← recording_in digest files words.recording
  font ← font_in files words.font
  Ok (record { recording = recording; font = font })

-- where it has this place
unfoldable pub run_files_to : List ℕ → RunWords → ℕ → Files → Result Played Refusal
run_files_to digest words place files = do
  p ← run_files digest words files
  if nat_le place (length p.recording.frames) then Ok p
      else Err (FrameRefused place (length p.recording.frames))

pub record Loaded : Type 0 where
  pub run : Played
  pub orders : List Order

unfoldable pub edit_files : List ℕ → EditWords → Files → Result Loaded Refusal
edit_files digest words files = do
  run ← run_files digest words.run files
  orders ← script_in files words.script
  Ok (record { run = run; orders = orders })

abbrev pub run_setup : WasmModule → Played → Setup
run_setup m p = console_setup m p.font p.recording.budget

-- a place of the run
abbrev pub moment_at : WasmModule → Played → ℕ → Option Moment
moment_at m p place = run (run_setup m p) p.recording.disk p.recording.frames place

-- what is told of places one after another
abbrev pub place_texts_from : PlaceText → WasmModule → Played → ℕ → ℕ → Option (List ℕ)
place_texts_from wanted m p from count =
    run_texts as_it_stands wanted (run_setup m p) p.recording.disk p.recording.frames from count

-- the answers of all orders
abbrev pub edit_answers : WasmModule → Loaded → Answered (Session ℕ)
edit_answers m l = script_answers (run_setup m l.run) l.run.recording.disk l.run.recording.frames l.orders

-- the recording left
abbrev pub edited_recording : WasmModule → Loaded → Recording
edited_recording m l = record l.run.recording { frames = (edit_answers m l).session.current.inputs }

-- bytes on standard output, and no more
abbrev pub only_written : List ℕ → Output
only_written out = record { events = wrote out; saved = []; rescued = λ count. []; finish = Done }

-- the answers on standard output, and then the recording left in the file of this name
abbrev pub edit_result : WasmModule → Loaded → List ℕ → List ℕ → Output
edit_result m l name out = record {
  events = wrote out;
  saved = Saved name (encoding 2 (edited_recording m l)) ∷ [];
  rescued = λ count. [];
  finish = Done;
}

-- what is made of what was read, or the first refusal; None where a run of it has no meaning
abbrev pub making : {Y : Type 0} → Result Y Refusal → (Y → Option Output) → Option (Result Output Refusal)
making (Ok y) make = option_map Ok (make y)
making (Err refusal) make = Some (Err refusal)

-- a text on standard output
abbrev pub printing : {Y : Type 0} → Result Y Refusal → (Y → Option (List ℕ))
    → Option (Result Output Refusal)
printing read text = making read (λ y. option_map only_written (text y))

unfoldable pub edit_output : EditWords → CartFile → Files → Option (Result Output Refusal)
edit_output words cart files = making (edit_files cart.digest words files)
    (λ l. option_map (edit_result cart.code l words.out) (edit_answers cart.code l).out)

-- the images of places FROM to TO
unfoldable pub images_output : RunWords → ℕ → ℕ → CartFile → Files → Option (Result Output Refusal)
images_output words from to cart files = printing (run_files_to cart.digest words to files)
    (λ p. place_texts_from Image cart.code p from (to + 1 - from))

-- the texts of all places, or the disk of one
unfoldable pub texts_output : PlaceText → RunWords → CartFile → Files → Option (Result Output Refusal)
texts_output wanted words cart files = printing (run_files cart.digest words files)
    (λ p. place_texts_from wanted cart.code p 0 (length p.recording.frames + 1))

unfoldable pub disk_output : RunWords → ℕ → CartFile → Files → Option (Result Output Refusal)
disk_output words place cart files = printing (run_files_to cart.digest words place files)
    (λ p. place_texts_from DiskBytes cart.code p place 1)

-- bytes that need no further file and no run
abbrev pub written : List ℕ → Option (Result Output Refusal)
written out = Some (Ok (only_written out))

abbrev pub checked : List ℕ
checked = codes "ok" ++ 10 ∷ []

-- the recording of a cart with a budget and a disk, and no frames
abbrev pub blank_recording : List ℕ → ℕ → List ℕ → Recording
blank_recording digest budget disk =
    record { digest = digest; budget = budget; disk = disk; frames = [] }

abbrev pub blank_output : ℕ → CartFile → Option (Result Output Refusal)
blank_output budget cart = written (encoding 2 (blank_recording cart.digest budget []))

-- the five lines of the cart that a number makes
abbrev pub made_text : ℕ → Option (List ℕ)
made_text number = made_summary sha256 number (length (module_bytes (made_module number)))

abbrev pub make_output : ℕ → Option (Result Output Refusal)
make_output number = option_map (λ out. Ok (only_written out)) (made_text number)
