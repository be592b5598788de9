-- What each form of words has the program do (project rule): the cart is judged first where the form names
-- one, then a second cart where it names two, and then the rest. Words without a form have no output.
use Rattle.std.specs.Prelude.{◌≡◌, ℕ, List, Option, Some, None, Result, Ok, Err}
use Rattle.w4_defs.specs.World.{Files}
use Rattle.w4_defs.specs.declared.place_text.PlaceText.TheVariants.{Schedule, Traces}
use Rattle.w4_defs.specs.declared.status.Refusal.{Refusal}
use Rattle.w4_defs.specs.Commands.{Form, Check, Blank, Frames, Tones, Trace, Disk, Edit, Make, Net, Ram, Wave, Batch, Serve, Units, Compare, Rebind, Inputs, BlankDisk, form_of}
use Rattle.w4_defs.specs.Live.{Talk, serve_output}
use Rattle.w4_defs.specs.Output.{CartFile, CartIn, Output, written, checked, blank_output, images_output, texts_output, disk_output, edit_output, make_output}
use Rattle.w4_defs.specs.RecordingOutputs.{blank_disk_output, compare_output, inputs_output, rebind_output, units_output}
use Rattle.w4_defs.specs.ToolOutputs.{net_output, ram_output, wave_output, batch_output}

-- the file that is judged as a cart, where the form names one
abbrev pub cart_word : Form → Option (List ℕ)
cart_word (Check cart) = Some cart
cart_word (Blank cart budget) = Some cart
cart_word (Frames words from to) = Some words.cart
cart_word (Tones words) = Some words.cart
cart_word (Trace words) = Some words.cart
cart_word (Disk words place) = Some words.cart
cart_word (Edit words) = Some words.run.cart
cart_word (Make number) = None
cart_word (Net words) = Some words.cart
cart_word (Ram words query) = Some words.cart
cart_word (Wave words) = Some words.cart
cart_word (Batch words) = Some words.cart
cart_word (Serve words) = Some words.run.cart
cart_word (Units words) = Some words.cart
cart_word (Compare words) = Some words.cart
cart_word (Rebind cart recording) = Some cart
cart_word (Inputs recording) = None
cart_word (BlankDisk cart budget disk) = Some cart

-- and the file of a second cart
abbrev pub other_cart_word : Form → Option (List ℕ)
other_cart_word (Compare words) = Some words.other_cart
other_cart_word form = None

-- the rest, over a cart that was judged
abbrev pub OverJudged : (CartFile → Files → Result Output Refusal → Type 0) → Files → Result CartFile Refusal
    → Result Output Refusal → Type 0
OverJudged step files (Ok cart) output = step cart files output
OverJudged step files (Err refusal) output = output ≡ Err refusal

-- the cart is judged, and then the rest
abbrev pub OverCart : List ℕ → (CartFile → Files → Result Output Refusal → Type 0) → Files
    → Result Output Refusal → Type 0
OverCart name step files output =
    (cart : Result CartFile Refusal) × CartIn name files cart × OverJudged step files cart output

-- what is made of a cart and of the files, over the lines of a session. Nothing where a run of the cart has
-- no meaning
abbrev pub OutputsOn : Form → Talk → CartFile → Files → Result Output Refusal → Type 0
OutputsOn (Check name) talk cart files output = written checked ≡ Some output
OutputsOn (Blank name budget) talk cart files output = blank_output budget cart ≡ Some output
OutputsOn (Frames words from to) talk cart files output = images_output words from to cart files ≡ Some output
OutputsOn (Tones words) talk cart files output = texts_output Schedule words cart files ≡ Some output
OutputsOn (Trace words) talk cart files output = texts_output Traces words cart files ≡ Some output
OutputsOn (Disk words place) talk cart files output = disk_output words place cart files ≡ Some output
OutputsOn (Edit words) talk cart files output = edit_output words cart files ≡ Some output
OutputsOn (Make number) talk cart files output = make_output number ≡ Some output
OutputsOn (Net words) talk cart files output = net_output words cart files ≡ Some output
OutputsOn (Ram words query) talk cart files output = ram_output words query cart files ≡ Some output
OutputsOn (Wave words) talk cart files output = wave_output words cart files ≡ Some output
OutputsOn (Batch words) talk cart files output = batch_output words cart files ≡ Some output
OutputsOn (Serve words) talk cart files output = serve_output words talk cart files ≡ Some output
OutputsOn (Units words) talk cart files output = units_output words cart files ≡ Some output
OutputsOn (Compare words) talk cart files output =
    OverCart words.other_cart
    (λ other files output. compare_output words cart other files ≡ Some output) files output
OutputsOn (Rebind name recording) talk cart files output = rebind_output recording cart files ≡ output
OutputsOn (Inputs recording) talk cart files output = inputs_output recording files ≡ output
OutputsOn (BlankDisk name budget disk) talk cart files output =
    blank_disk_output budget disk cart files ≡ output

-- what is made by a form that names no cart
abbrev pub OutputsAlone : Form → Files → Result Output Refusal → Type 0
OutputsAlone (Make number) files output = make_output number ≡ Some output
OutputsAlone (Inputs recording) files output = inputs_output recording files ≡ output
OutputsAlone form files output = ⊥

abbrev pub OverFile : Option (List ℕ) → Form → Talk → Files → Result Output Refusal → Type 0
OverFile (Some name) form talk files output = OverCart name (OutputsOn form talk) files output
OverFile None form talk files output = OutputsAlone form files output

-- by the lines that a session gets; no other command reads any
abbrev pub OutputsForm : Form → Talk → Files → Result Output Refusal → Type 0
OutputsForm form talk files output = OverFile (cart_word form) form talk files output

-- by some lines
abbrev pub OutputsBy : Form → Files → Result Output Refusal → Type 0
OutputsBy form files output = (talk : Talk) × OutputsForm form talk files output

-- what the program does for these words and files. Words that have no form have no output
abbrev pub Outputs : List (List ℕ) → Files → Result Output Refusal → Type 0
Outputs words files output = (form : Form) × (form_of words ≡ Some form) × OutputsBy form files output
