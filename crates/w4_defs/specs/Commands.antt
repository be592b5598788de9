-- The commands, as the program's arguments (project rule). A number has 1 to 10 decimal digits and is
-- at most 4,294,967,295. Arguments that match no command are refused.
use Rattle.std.specs.Prelude.{◌≡◌, ◌&&◌, ℕ, List, [], ◌∷◌, codes, nat_le, Option, Some, None, if◌then◌else◌, refl}
use Rattle.w4_defs.specs.Reading.{◌>>=◌}
use Rattle.w4_defs.specs.Lines.{decimal_value, number_of}
use Rattle.w4_defs.specs.OrderFile.{OrderRow, order_by}

-- the names of the three files that a run is made of
pub record RunWords : Type 0 where
  pub cart : List ℕ
  pub recording : List ℕ
  pub font : List ℕ

-- and those of a script to read and of a file to write
pub record EditWords : Type 0 where
  pub run : RunWords
  pub script : List ℕ
  pub out : List ℕ

-- and that of a file to write, without a script
pub record ServeWords : Type 0 where
  pub run : RunWords
  pub out : List ℕ

-- the names of two carts with a recording each, and of the font of both runs
pub record CompareWords : Type 0 where
  pub cart : List ℕ
  pub recording : List ℕ
  pub other_cart : List ℕ
  pub other_recording : List ℕ
  pub font : List ℕ

-- the names of a cart, a font and a log, and the budget
pub record NetWords : Type 0 where
  pub cart : List ℕ
  pub font : List ℕ
  pub budget : ℕ
  pub log : List ℕ

-- the names of a cart, a font and a list of recordings, and how many workers run them
pub record BatchWords : Type 0 where
  pub cart : List ℕ
  pub font : List ℕ
  pub list : List ℕ
  pub workers : ℕ

pub data Form : Type 0 where
  Check : List ℕ → Form
  Blank : List ℕ → ℕ → Form
  Frames : RunWords → ℕ → ℕ → Form
  Tones : RunWords → Form
  Trace : RunWords → Form
  Disk : RunWords → ℕ → Form
  Edit : EditWords → Form
  Make : ℕ → Form
  Net : NetWords → Form
  Ram : RunWords → List ℕ → Form
  Wave : RunWords → Form
  Batch : BatchWords → Form
  Serve : ServeWords → Form
  Units : RunWords → Form
  Compare : CompareWords → Form
  Rebind : List ℕ → List ℕ → Form
  Inputs : List ℕ → Form
  BlankDisk : List ℕ → ℕ → List ℕ → Form

-- `check CART`
abbrev pub check_form : List (List ℕ) → Option Form
check_form (cart ∷ []) = Some (Check cart)
check_form words = None

-- `blank CART BUDGET` or `blank CART BUDGET DISK`, BUDGET at least 1
unfoldable pub blank_form : List (List ℕ) → Option Form
blank_form (cart ∷ budget ∷ []) = do
  budget ← number_of budget
  if nat_le 1 budget then Some (Blank cart budget) else None
blank_form (cart ∷ budget ∷ disk ∷ []) = do
  budget ← number_of budget
  if nat_le 1 budget then Some (BlankDisk cart budget disk) else None
blank_form words = None

abbrev pub run_words : List ℕ → List ℕ → List ℕ → RunWords
run_words cart recording font = record { cart = cart; recording = recording; font = font }

-- `frames CART REC FONT FROM TO`, FROM at most TO
unfoldable pub frames_form : List (List ℕ) → Option Form
frames_form (cart ∷ recording ∷ font ∷ from ∷ to ∷ []) = do
  from ← number_of from
  to ← number_of to
  if nat_le from to then Some (Frames (run_words cart recording font) from to) else None
frames_form words = None

-- `tones CART REC FONT`
abbrev pub tones_form : List (List ℕ) → Option Form
tones_form (cart ∷ recording ∷ font ∷ []) = Some (Tones (run_words cart recording font))
tones_form words = None

-- `trace CART REC FONT`
abbrev pub trace_form : List (List ℕ) → Option Form
trace_form (cart ∷ recording ∷ font ∷ []) = Some (Trace (run_words cart recording font))
trace_form words = None

-- `disk CART REC FONT PLACE`
unfoldable pub disk_form : List (List ℕ) → Option Form
disk_form (cart ∷ recording ∷ font ∷ place ∷ []) = do
  place ← number_of place
  Some (Disk (run_words cart recording font) place)
disk_form words = None

-- `edit CART REC FONT SCRIPT OUT`
abbrev pub edit_form : List (List ℕ) → Option Form
edit_form (cart ∷ recording ∷ font ∷ script ∷ out ∷ []) =
    Some (Edit (record { run = run_words cart recording font; script = script; out = out }))
edit_form words = None

-- `make NUMBER`
unfoldable pub make_form : List (List ℕ) → Option Form
make_form (number ∷ []) = do
  number ← number_of number
  Some (Make number)
make_form words = None

-- `net CART FONT BUDGET LOG`, BUDGET at least 1
unfoldable pub net_form : List (List ℕ) → Option Form
net_form (cart ∷ font ∷ budget ∷ log ∷ []) = do
  budget ← number_of budget
  if nat_le 1 budget then Some (Net (record { cart = cart; font = font; budget = budget; log = log }))
      else None
net_form words = None

-- `ram CART REC FONT QUERY`
abbrev pub ram_form : List (List ℕ) → Option Form
ram_form (cart ∷ recording ∷ font ∷ query ∷ []) = Some (Ram (run_words cart recording font) query)
ram_form words = None

-- `wave CART REC FONT`
abbrev pub wave_form : List (List ℕ) → Option Form
wave_form (cart ∷ recording ∷ font ∷ []) = Some (Wave (run_words cart recording font))
wave_form words = None

-- `batch CART FONT LIST WORKERS`, WORKERS 1 to 16
unfoldable pub batch_form : List (List ℕ) → Option Form
batch_form (cart ∷ font ∷ list ∷ workers ∷ []) = do
  workers ← number_of workers
  if nat_le 1 workers && nat_le workers 16
      then Some (Batch (record { cart = cart; font = font; list = list; workers = workers })) else None
batch_form words = None

-- `serve CART REC FONT OUT`
abbrev pub serve_form : List (List ℕ) → Option Form
serve_form (cart ∷ recording ∷ font ∷ out ∷ []) =
    Some (Serve (record { run = run_words cart recording font; out = out }))
serve_form words = None

-- `units CART REC FONT`
abbrev pub units_form : List (List ℕ) → Option Form
units_form (cart ∷ recording ∷ font ∷ []) = Some (Units (run_words cart recording font))
units_form words = None

-- `compare CART REC CART2 REC2 FONT`
abbrev pub compare_form : List (List ℕ) → Option Form
compare_form (cart ∷ recording ∷ other_cart ∷ other_recording ∷ font ∷ []) = Some (Compare (record {
  cart = cart;
  recording = recording;
  other_cart = other_cart;
  other_recording = other_recording;
  font = font;
}))
compare_form words = None

-- `rebind CART REC`
abbrev pub rebind_form : List (List ℕ) → Option Form
rebind_form (cart ∷ recording ∷ []) = Some (Rebind cart recording)
rebind_form words = None

-- `inputs REC`
abbrev pub inputs_form : List (List ℕ) → Option Form
inputs_form (recording ∷ []) = Some (Inputs recording)
inputs_form words = None

-- the commands by their names, and how the words after a name are read
abbrev pub command_rows : List (OrderRow Form)
command_rows =
    record { name = codes "check"; order_from = check_form }
    ∷ record { name = codes "blank"; order_from = blank_form }
    ∷ record { name = codes "frames"; order_from = frames_form }
    ∷ record { name = codes "tones"; order_from = tones_form }
    ∷ record { name = codes "trace"; order_from = trace_form }
    ∷ record { name = codes "disk"; order_from = disk_form }
    ∷ record { name = codes "edit"; order_from = edit_form }
    ∷ record { name = codes "make"; order_from = make_form }
    ∷ record { name = codes "net"; order_from = net_form }
    ∷ record { name = codes "ram"; order_from = ram_form }
    ∷ record { name = codes "wave"; order_from = wave_form }
    ∷ record { name = codes "batch"; order_from = batch_form }
    ∷ record { name = codes "serve"; order_from = serve_form }
    ∷ record { name = codes "units"; order_from = units_form }
    ∷ record { name = codes "compare"; order_from = compare_form }
    ∷ record { name = codes "rebind"; order_from = rebind_form }
    ∷ record { name = codes "inputs"; order_from = inputs_form }
    ∷ []

-- the form that the words have, or None
unfoldable pub form_of : List (List ℕ) → Option Form
form_of words = order_by command_rows words

-- Worked cases: a form with numbers; FROM above TO; a budget of 0; a word too many.
abbrev pub FormCases : Type 0
FormCases =
    (form_of (codes "disk" ∷ codes "c" ∷ codes "r" ∷ codes "f" ∷ codes "4294967295" ∷ [])
    ≡ Some (Disk (run_words (codes "c") (codes "r") (codes "f")) 4294967295))
    × (form_of (codes "frames" ∷ codes "c" ∷ codes "r" ∷ codes "f" ∷ codes "2" ∷ codes "1" ∷ []) ≡ None)
    × (form_of (codes "blank" ∷ codes "c" ∷ codes "0" ∷ []) ≡ None)
    × (form_of (codes "check" ∷ codes "c" ∷ codes "c" ∷ []) ≡ None)

pub form-cases : FormCases
unfolding form_of disk_form frames_form blank_form number_of decimal_value
form-cases = (refl, refl, refl, refl)

-- Worked cases: each of the four further commands; a budget of 0; 17 workers; a word too many.
abbrev pub ToolFormCases : Type 0
ToolFormCases =
    (form_of (codes "net" ∷ codes "c" ∷ codes "f" ∷ codes "01" ∷ codes "l" ∷ [])
    ≡ Some (Net (record { cart = codes "c"; font = codes "f"; budget = 1; log = codes "l" })))
    × (form_of (codes "ram" ∷ codes "c" ∷ codes "r" ∷ codes "f" ∷ codes "q" ∷ [])
    ≡ Some (Ram (run_words (codes "c") (codes "r") (codes "f")) (codes "q")))
    × (form_of (codes "wave" ∷ codes "c" ∷ codes "r" ∷ codes "f" ∷ [])
    ≡ Some (Wave (run_words (codes "c") (codes "r") (codes "f"))))
    × (form_of (codes "batch" ∷ codes "c" ∷ codes "f" ∷ codes "l" ∷ codes "16" ∷ [])
    ≡ Some (Batch (record { cart = codes "c"; font = codes "f"; list = codes "l"; workers = 16 })))
    × (form_of (codes "net" ∷ codes "c" ∷ codes "f" ∷ codes "0" ∷ codes "l" ∷ []) ≡ None)
    × (form_of (codes "batch" ∷ codes "c" ∷ codes "f" ∷ codes "l" ∷ codes "17" ∷ []) ≡ None)
    × (form_of (codes "wave" ∷ codes "c" ∷ codes "r" ∷ codes "f" ∷ codes "o" ∷ []) ≡ None)

pub tool-form-cases : ToolFormCases
unfolding form_of net_form batch_form number_of decimal_value
tool-form-cases = (refl, refl, refl, refl, refl, refl, refl)

-- Worked cases: the live session and the commands on recordings; a disk without a budget; a word too many.
abbrev pub RecordingFormCases : Type 0
RecordingFormCases =
    (form_of (codes "serve" ∷ codes "c" ∷ codes "r" ∷ codes "f" ∷ codes "o" ∷ [])
    ≡ Some (Serve (record { run = run_words (codes "c") (codes "r") (codes "f"); out = codes "o" })))
    × (form_of (codes "units" ∷ codes "c" ∷ codes "r" ∷ codes "f" ∷ [])
    ≡ Some (Units (run_words (codes "c") (codes "r") (codes "f"))))
    × (form_of (codes "compare" ∷ codes "a" ∷ codes "r" ∷ codes "b" ∷ codes "s" ∷ codes "f" ∷ [])
    ≡ Some (Compare (record {
      cart = codes "a";
      recording = codes "r";
      other_cart = codes "b";
      other_recording = codes "s";
      font = codes "f";
    })))
    × (form_of (codes "rebind" ∷ codes "c" ∷ codes "r" ∷ []) ≡ Some (Rebind (codes "c") (codes "r")))
    × (form_of (codes "inputs" ∷ codes "r" ∷ []) ≡ Some (Inputs (codes "r")))
    × (form_of (codes "blank" ∷ codes "c" ∷ codes "7" ∷ codes "d" ∷ [])
    ≡ Some (BlankDisk (codes "c") 7 (codes "d")))
    × (form_of (codes "blank" ∷ codes "c" ∷ codes "0" ∷ codes "d" ∷ []) ≡ None)
    × (form_of (codes "serve" ∷ codes "c" ∷ codes "r" ∷ codes "f" ∷ []) ≡ None)
    × (form_of (codes "inputs" ∷ codes "r" ∷ codes "r" ∷ []) ≡ None)

pub recording-form-cases : RecordingFormCases
unfolding form_of blank_form number_of decimal_value
recording-form-cases = (refl, refl, refl, refl, refl, refl, refl, refl, refl)
