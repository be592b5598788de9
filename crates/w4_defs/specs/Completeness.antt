-- What has to be there so that a command is done (project rule): each file that it names, of the right kind,
-- and the places that it names. A file is judged by its first bytes, one more than its limit. What is listed
-- here leaves no refusal.
use Rattle.std.specs.Prelude.{◌≡◌, ℕ, ◌+◌, ◌≤◌, List, IsSome, length, Option, Some, None, Result, Ok, ⊤}
use Rattle.std.specs.List.{AllByRecursion}
use Rattle.sha2.specs.Sha256.{sha256}
use Rattle.w4_defs.specs.Cart.{IsCart}
use Rattle.w4_defs.specs.Commands.{RunWords, Form, Check, Blank, Frames, Tones, Trace, Disk, Edit, Make, Net, Ram, Wave, Batch, Serve, Units, Compare, Rebind, Inputs, BlankDisk}
use Rattle.w4_defs.specs.NameLists.{names_of}
use Rattle.w4_defs.specs.NetLog.{net_log_of}
use Rattle.w4_defs.specs.declared.status.ScriptKind.{ScriptKind}
use Rattle.w4_defs.specs.Output.{CartFile, Played}
use Rattle.w4_defs.specs.Outputs.{cart_word}
use Rattle.w4_defs.specs.RamQuery.{query_of}
use Rattle.w4_defs.specs.Recording.{Recording, recording_of}
use Rattle.w4_defs.specs.Script.{script_of}
use Rattle.w4_defs.specs.World.{Files, front_of}
use Rattle.w4_defs.specs.Limits.{cart_limit, disk_limit, recording_limit, font_size, script_limit, name_list_limit}

-- an accepted cart, and the SHA-256 of its bytes
pub record HasCart (files : Files) (name : List ℕ) (cart : CartFile) : Type 0 where
  pub bytes : List ℕ
  pub there : front_of files name (cart_limit + 1) ≡ Some bytes
  pub accepted : IsCart bytes cart.code
  pub digest : cart.digest ≡ sha256 bytes

-- a recording, be it of any cart
pub record HasAnyRecording (files : Files) (name : List ℕ) (r : Recording) : Type 0 where
  pub bytes : List ℕ
  pub there : front_of files name (recording_limit + 1) ≡ Some bytes
  pub encoded : recording_of bytes ≡ Some r

-- a recording of the cart with this digest
pub record HasRecording (files : Files) (name digest : List ℕ) (r : Recording) : Type 0 where
  pub any : HasAnyRecording files name r
  pub of_cart : r.digest ≡ digest

-- the bytes of a disk
pub record HasDisk (files : Files) (name disk : List ℕ) : Type 0 where
  pub there : front_of files name (disk_limit + 1) ≡ Some disk
  pub size : length disk ≤ disk_limit

pub record HasFont (files : Files) (name font : List ℕ) : Type 0 where
  pub there : front_of files name (font_size + 1) ≡ Some font
  pub size : length font ≡ font_size

-- a file of lines in the grammar: a script, a log, a query, or a list of names
pub record HasLines {Order : Type 0} (files : Files) (name : List ℕ) (most : ℕ)
    (read : List ℕ → Result (List Order) ScriptKind) (orders : List Order) : Type 0 where
  pub bytes : List ℕ
  pub there : front_of files name most ≡ Some bytes
  pub read_as : read bytes ≡ Ok orders

-- the recording and the font of a run
pub record HasRun (files : Files) (words : RunWords) (digest : List ℕ) (run : Played) : Type 0 where
  pub recording : HasRecording files words.recording digest run.recording
  pub font : HasFont files words.font run.font

-- what is there besides the cart, by the form of the words
abbrev pub HasRest : Form → List ℕ → Files → Type 0
HasRest (Check cart) digest files = ⊤
HasRest (Blank cart budget) digest files = ⊤
HasRest (Frames words from to) digest files =
    (run : Played) × HasRun files words digest run × (to ≤ length run.recording.frames)
HasRest (Tones words) digest files = (run : Played) × HasRun files words digest run
HasRest (Trace words) digest files = (run : Played) × HasRun files words digest run
HasRest (Disk words place) digest files =
    (run : Played) × HasRun files words digest run × (place ≤ length run.recording.frames)
HasRest (Edit words) digest files =
    (run : Played) × HasRun files words.run digest run
    × (orders : List _) × HasLines files words.script (script_limit + 1) script_of orders
HasRest (Make number) digest files = ⊤
HasRest (Net words) digest files =
    (font : List ℕ) × HasFont files words.font font
    × (orders : List _) × HasLines files words.log (script_limit + 1) net_log_of orders
HasRest (Ram words query) digest files =
    (run : Played) × HasRun files words digest run
    × (lines : List _) × HasLines files query (script_limit + 1) query_of lines
HasRest (Wave words) digest files = (run : Played) × HasRun files words digest run
HasRest (Batch words) digest files =
    (font : List ℕ) × HasFont files words.font font
    × (names : List (List ℕ)) × HasLines files words.list (name_list_limit + 1) names_of names
    × AllByRecursion (λ name. IsSome (front_of files name (recording_limit + 1))) names
HasRest (Serve words) digest files = (run : Played) × HasRun files words.run digest run
HasRest (Units words) digest files = (run : Played) × HasRun files words digest run
HasRest (Compare words) digest files =
    (other : CartFile) × HasCart files words.other_cart other
    × (first second : Recording) × HasRecording files words.recording digest first
    × HasRecording files words.other_recording other.digest second
    × (font : List ℕ) × HasFont files words.font font
HasRest (Rebind cart recording) digest files = (r : Recording) × HasAnyRecording files recording r
HasRest (Inputs recording) digest files = ⊤
HasRest (BlankDisk cart budget name) digest files = (disk : List ℕ) × HasDisk files name disk

-- what is there by a form that names no cart
abbrev pub HasAlone : Form → Files → Type 0
HasAlone (Inputs recording) files = (r : Recording) × HasAnyRecording files recording r
HasAlone form files = ⊤

-- the cart where the form names one, and the rest
abbrev pub IsCompleteOver : Option (List ℕ) → Form → Files → Type 0
IsCompleteOver None form files = HasAlone form files
IsCompleteOver (Some name) form files =
    (cart : CartFile) × HasCart files name cart × HasRest form cart.digest files

-- all that the words name is there
abbrev pub IsComplete : Form → Files → Type 0
IsComplete form files = IsCompleteOver (cart_word form) form files
