-- Edit scripts (project rule): at most 1,048,576 bytes of lines, one order in each line that isn't skipped.
-- K is an input and P, A, B are places, each a number:
--   set K P1 P2 P3 P4 X Y B, insert K P1 P2 P3 P4 X Y B    pads and B 0 to 255, X and Y -32768 to 32767;
--                                    the frame has a reset if and only if the word `reset` follows B
--   delete K, undo, redo
--   keep P, drop P
--   keep-every E                     E at least 1
--   settle W                         W 1 to 16
--   show P, disk P, state P
--   film A B W                       A at most B, W 1 to 16
--   tones A B, traces A B            A at most B
-- Anything else makes a line bad.
use Rattle.std.specs.Prelude.{◌≡◌, ℕ, ◌&&◌, Bool, true, false, List, [], ◌∷◌, ◌++◌, length, replicate, codes, Option, Some, None, Result, Ok, Err, nat_le, if◌then◌else◌, refl, pos, negsuc}
use Rattle.std.specs.Str.{bytes_eq}
use Rattle.w4_defs.specs.declared.console.Input.{Input}
use Rattle.w4_defs.specs.declared.order.Order.{Order}
use Rattle.w4_defs.specs.declared.order.Order.TheVariants.{Set, Insert, Delete, Undo, Redo, Keep, KeepEvery, DropKept, Settle, Show, Film, Tones, Traces, DiskAt, StateAt}
use Rattle.w4_defs.specs.Reading.{◌>>=◌}
use Rattle.w4_defs.specs.Lines.{words_of, lines_of, lines_from, decimal_value, number_of, decimal_byte, coordinate_of}
use Rattle.w4_defs.specs.OrderWords.{no_word, one_number, range_order}
use Rattle.w4_defs.specs.OrderFile.{OrderRow, order_by, orders_in, file_of}
use Rattle.w4_defs.specs.declared.status.ScriptKind.{ScriptKind}
use Rattle.w4_defs.specs.declared.status.ScriptKind.TheVariants.{TooLong, BadLine}

-- ---- the words after an order's name

-- one number, from least to most
abbrev pub number_order : (ℕ → Order) → ℕ → ℕ → List (List ℕ) → Option Order
number_order make least most (word ∷ []) = do
  n ← number_of word
  if nat_le least n && nat_le n most then Some (make n) else None
number_order make least most words = None

-- two places, the first at most the second, and a number of workers
abbrev pub film_order : List (List ℕ) → Option Order
film_order (first ∷ last ∷ workers ∷ []) = do
  a ← number_of first
  b ← number_of last
  w ← number_of workers
  if nat_le a b && nat_le 1 w && nat_le w 16 then Some (Film a b w) else None
film_order words = None

-- the word `reset`, or no word
abbrev pub reset_word : List (List ℕ) → Option Bool
reset_word [] = Some false
reset_word (word ∷ []) = if bytes_eq word (codes "reset") then Some true else None
reset_word words = None

-- an input's number, the input, and whether its frame has a reset
abbrev pub frame_order : (ℕ → Input → Order) → List (List ℕ) → Option Order
frame_order make (number ∷ p1 ∷ p2 ∷ p3 ∷ p4 ∷ across ∷ down ∷ pressed ∷ rest) = do
  k ← number_of number
  pad_1 ← decimal_byte p1
  pad_2 ← decimal_byte p2
  pad_3 ← decimal_byte p3
  pad_4 ← decimal_byte p4
  x ← coordinate_of across
  y ← coordinate_of down
  buttons ← decimal_byte pressed
  reset ← reset_word rest
  Some (make k (record {
    pads = pad_1 ∷ pad_2 ∷ pad_3 ∷ pad_4 ∷ [];
    mouse_x = x;
    mouse_y = y;
    buttons = buttons;
    reset = reset;
  }))
frame_order make words = None

-- ---- orders

-- what each name says of the words after it
unfoldable pub script_rows : List (OrderRow Order)
script_rows =
    record { name = codes "set"; order_from = frame_order Set }
    ∷ record { name = codes "insert"; order_from = frame_order Insert }
    ∷ record { name = codes "delete"; order_from = one_number Delete }
    ∷ record { name = codes "undo"; order_from = no_word Undo }
    ∷ record { name = codes "redo"; order_from = no_word Redo }
    ∷ record { name = codes "keep"; order_from = one_number Keep }
    ∷ record { name = codes "keep-every"; order_from = number_order KeepEvery 1 4294967295 }
    ∷ record { name = codes "drop"; order_from = one_number DropKept }
    ∷ record { name = codes "settle"; order_from = number_order Settle 1 16 }
    ∷ record { name = codes "show"; order_from = one_number Show }
    ∷ record { name = codes "film"; order_from = film_order }
    ∷ record { name = codes "tones"; order_from = range_order Tones }
    ∷ record { name = codes "traces"; order_from = range_order Traces }
    ∷ record { name = codes "disk"; order_from = one_number DiskAt }
    ∷ record { name = codes "state"; order_from = one_number StateAt }
    ∷ []

-- the order of a line's words
abbrev pub order_of : List (List ℕ) → Option Order
order_of words = order_by script_rows words

-- the orders of a script
unfoldable pub script_of : List ℕ → Result (List Order) ScriptKind
script_of bytes = file_of order_of bytes

-- a script of 1,048,576 bytes is read, and one byte more is too much: any bytes, and empty lines
abbrev pub ScriptLimit : Type 0
ScriptLimit =
    ((bytes : List ℕ) → length bytes ≡ 1048576 → script_of bytes ≡ orders_in order_of (lines_of bytes))
    × ((bytes : List ℕ) → length bytes ≡ 1048577 → script_of bytes ≡ Err TooLong)
    × ((n : ℕ) → n ≡ 1048576 → script_of (replicate n 10) ≡ Ok [])
    × ((n : ℕ) → n ≡ 1048577 → script_of (replicate n 10) ≡ Err TooLong)

-- ---- worked cases

-- the order of a line
abbrev order_of_line : List ℕ → Option Order
order_of_line line = order_of (words_of line)

abbrev case_input : Bool → Input
case_input reset =
    record { pads = 27 ∷ 0 ∷ 0 ∷ 255 ∷ []; mouse_x = negsuc 4; mouse_y = pos 0; buttons = 4; reset = reset }

-- each kind of line
abbrev pub OrderCases : Type 0
OrderCases =
    (order_of_line (codes "set 0 27 0 0 255 -5 -0 4") ≡ Some (Set 0 (case_input false)))
    × (order_of_line (codes "set 0 27 0 0 255 -5 -0 4 reset") ≡ Some (Set 0 (case_input true)))
    × (order_of_line (codes "insert 7 27 0 0 255 -00005 0 4") ≡ Some (Insert 7 (case_input false)))
    × (order_of_line (codes "insert 7 27 0 0 255 -5 0 4 reset") ≡ Some (Insert 7 (case_input true)))
    × (order_of_line (codes "delete 3") ≡ Some (Delete 3))
    × (order_of_line (codes "undo") ≡ Some Undo)
    × (order_of_line (codes "redo") ≡ Some Redo)
    × (order_of_line (codes "keep 4294967295") ≡ Some (Keep 4294967295))
    × (order_of_line (codes "keep-every 60") ≡ Some (KeepEvery 60))
    × (order_of_line (codes "drop 0") ≡ Some (DropKept 0))
    × (order_of_line (codes "settle 16") ≡ Some (Settle 16))
    × (order_of_line (codes "show 01") ≡ Some (Show 1))
    × (order_of_line (codes "film 2 2 1") ≡ Some (Film 2 2 1))
    × (order_of_line (codes "tones 0 9") ≡ Some (Tones 0 9))
    × (order_of_line (codes "traces 9 9") ≡ Some (Traces 9 9))
    × (order_of_line (codes "disk 5") ≡ Some (DiskAt 5))
    × (order_of_line (codes "  state   5 ") ≡ Some (StateAt 5))

-- each way in which a line is bad
abbrev pub BadOrderCases : Type 0
BadOrderCases =
    (order_of_line (codes "Show 1") ≡ None)
    × (order_of_line (codes "shows 1") ≡ None)
    × (order_of_line (codes "show") ≡ None)
    × (order_of_line (codes "show 1 2") ≡ None)
    × (order_of_line (codes "show -1") ≡ None)
    × (order_of_line (codes "show 4294967296") ≡ None)
    × (order_of_line (codes "undo 1") ≡ None)
    × (order_of_line (codes "redo reset") ≡ None)
    × (order_of_line (codes "set 0 256 0 0 0 0 0 0") ≡ None)
    × (order_of_line (codes "set 0 0 0 0 0 -32769 0 0") ≡ None)
    × (order_of_line (codes "set 0 0 0 0 0 0 32768 0") ≡ None)
    × (order_of_line (codes "set 0 0 0 0 0 0 0 256") ≡ None)
    × (order_of_line (codes "set 0 -0 0 0 0 0 0 0") ≡ None)
    × (order_of_line (codes "set 0 0 0 0 0 0 0") ≡ None)
    × (order_of_line (codes "set 0 0 0 0 0 0 0 0 Reset") ≡ None)
    × (order_of_line (codes "insert 0 0 0 0 0 0 0 0 reset reset") ≡ None)
    × (order_of_line (codes "insert -1 0 0 0 0 0 0 0") ≡ None)
    × (order_of_line (codes "delete") ≡ None)
    × (order_of_line (codes "keep-every 0") ≡ None)
    × (order_of_line (codes "settle 0") ≡ None)
    × (order_of_line (codes "settle 17") ≡ None)
    × (order_of_line (codes "film 3 2 1") ≡ None)
    × (order_of_line (codes "film 2 3 0") ≡ None)
    × (order_of_line (codes "film 2 3 17") ≡ None)
    × (order_of_line (codes "film 2 3") ≡ None)
    × (order_of_line (codes "tones 1 0") ≡ None)
    × (order_of_line (codes "traces 1") ≡ None)

-- skipped lines are counted, and the first bad line is named
abbrev pub ScriptCases : Type 0
ScriptCases =
    (script_of [] ≡ Ok [])
    × (script_of (codes "# two" ++ 10 ∷ 10 ∷ codes "undo" ++ 13 ∷ 10 ∷ codes "show 1")
    ≡ Ok (Undo ∷ Show 1 ∷ []))
    × (script_of (codes "show 0" ++ 10 ∷ codes "film 3 2 1" ++ 10 ∷ codes "bad" ++ 10 ∷ []) ≡ Err (BadLine 2))
    × (script_of (codes "#" ++ 10 ∷ 10 ∷ codes "bad" ++ 10 ∷ []) ≡ Err (BadLine 3))

pub order-cases : OrderCases
unfolding script_rows decimal_value number_of decimal_byte coordinate_of
order-cases = (
  refl,
  refl,
  refl,
  refl,
  refl,
  refl,
  refl,
  refl,
  refl,
  refl,
  refl,
  refl,
  refl,
  refl,
  refl,
  refl,
  refl,
)

pub bad-order-cases : BadOrderCases
unfolding script_rows decimal_value number_of decimal_byte coordinate_of
bad-order-cases = (
  refl,
  refl,
  refl,
  refl,
  refl,
  refl,
  refl,
  refl,
  refl,
  refl,
  refl,
  refl,
  refl,
  refl,
  refl,
  refl,
  refl,
  refl,
  refl,
  refl,
  refl,
  refl,
  refl,
  refl,
  refl,
  refl,
  refl,
)

pub script-cases : ScriptCases
unfolding script_of orders_in lines_from script_rows decimal_value number_of decimal_byte coordinate_of
script-cases = (refl, refl, refl, refl)
