-- The lines of a query (project rule), which watches the page and searches it. ADDRESS, VALUE and the places
-- P, A, B are numbers, and WIDTH is 1, 2 or 4:
--   watch ADDRESS WIDTH A B        A at most B
--   start WIDTH P
--   is P VALUE, same P, changed P, more P, less P
--   list
-- These are requests. Of the orders of a script a query may have those that keep places:
--   keep P, keep-every E           as in a script
-- Anything else makes a line bad.
use Rattle.std.specs.Prelude.{◌≡◌, ℕ, ◌==◌, ◌||◌, nat_le, List, [], ◌∷◌, ◌++◌, codes, if◌then◌else◌, Option, Some, None, option_map, Result, Ok, Err, refl}
use Rattle.std.specs.Option.{option_or}
use Rattle.w4_defs.specs.declared.inspect.Ask.{Ask}
use Rattle.w4_defs.specs.declared.inspect.Ask.TheVariants as ask
use Rattle.w4_defs.specs.declared.inspect.QueryLine.{QueryLine}
use Rattle.w4_defs.specs.declared.inspect.QueryLine.TheVariants as line
use Rattle.w4_defs.specs.declared.inspect.Test.{Test}
use Rattle.w4_defs.specs.declared.inspect.Test.TheVariants.{Is, Same, Changed, More, Less}
use Rattle.w4_defs.specs.declared.order.Order.{Order}
use Rattle.w4_defs.specs.declared.order.Order.TheVariants as order
use Rattle.w4_defs.specs.Reading.{◌>>=◌}
use Rattle.w4_defs.specs.Lines.{lines_from, decimal_value, number_of}
use Rattle.w4_defs.specs.OrderWords.{no_word, one_number}
use Rattle.w4_defs.specs.OrderFile.{OrderRow, order_by, orders_in, file_of}
use Rattle.w4_defs.specs.Script.{script_rows, order_of}
use Rattle.w4_defs.specs.declared.status.ScriptKind.{ScriptKind}
use Rattle.w4_defs.specs.declared.status.ScriptKind.TheVariants.{BadLine}

-- a width
abbrev pub decimal_width : List ℕ → Option ℕ
decimal_width word = number_of word >>= λ n. if n == 1 || n == 2 || n == 4 then Some n else None

abbrev pub watch_words : List (List ℕ) → Option Ask
watch_words (number ∷ size ∷ first ∷ last ∷ []) = do
  address ← number_of number
  width ← decimal_width size
  a ← number_of first
  b ← number_of last
  if nat_le a b then Some (ask.Watch address width a b) else None
watch_words words = None

abbrev pub start_words : List (List ℕ) → Option Ask
start_words (size ∷ place ∷ []) = do
  width ← decimal_width size
  p ← number_of place
  Some (ask.Start width p)
start_words words = None

abbrev pub is_words : List (List ℕ) → Option Ask
is_words (place ∷ number ∷ []) = do
  p ← number_of place
  value ← number_of number
  Some (ask.Narrow p (Is value))
is_words words = None

-- a narrowing by this test, at the place of the one word
abbrev pub test_words : Test → List (List ℕ) → Option Ask
test_words test words = one_number (λ p. ask.Narrow p test) words

-- what each name says of the words after it
unfoldable pub query_rows : List (OrderRow Ask)
query_rows =
    record { name = codes "watch"; order_from = watch_words }
    ∷ record { name = codes "start"; order_from = start_words }
    ∷ record { name = codes "is"; order_from = is_words }
    ∷ record { name = codes "same"; order_from = test_words Same }
    ∷ record { name = codes "changed"; order_from = test_words Changed }
    ∷ record { name = codes "more"; order_from = test_words More }
    ∷ record { name = codes "less"; order_from = test_words Less }
    ∷ record { name = codes "list"; order_from = no_word ask.List }
    ∷ []

-- the request of a line's words
abbrev pub ask_of : List (List ℕ) → Option Ask
ask_of words = order_by query_rows words

-- the line that an order of a script is, where it keeps places
abbrev pub keeping : Order → Option QueryLine
keeping (order.Keep p) = Some (line.Keep p)
keeping (order.KeepEvery every) = Some (line.KeepEvery every)
keeping order = None

-- the line of these words: a request, or an order that keeps places
abbrev pub query_line_of : List (List ℕ) → Option QueryLine
query_line_of words = option_or (option_map line.Ask (ask_of words)) (order_of words >>= keeping)

-- the lines of a query
unfoldable pub query_of : List ℕ → Result (List QueryLine) ScriptKind
query_of bytes = file_of query_line_of bytes

-- Worked cases: each kind of line, ways to be bad, and a query whose second line is bad
abbrev pub AskCases : Type 0
AskCases =
    (ask_of (codes "watch" ∷ codes "160" ∷ codes "1" ∷ codes "0" ∷ codes "2" ∷ [])
    ≡ Some (ask.Watch 160 1 0 2))
    × (ask_of (codes "watch" ∷ codes "4294967295" ∷ codes "4" ∷ codes "3" ∷ codes "3" ∷ [])
    ≡ Some (ask.Watch 4294967295 4 3 3))
    × (ask_of (codes "start" ∷ codes "2" ∷ codes "1" ∷ []) ≡ Some (ask.Start 2 1))
    × (ask_of (codes "is" ∷ codes "3" ∷ codes "500" ∷ []) ≡ Some (ask.Narrow 3 (Is 500)))
    × (ask_of (codes "same" ∷ codes "3" ∷ []) ≡ Some (ask.Narrow 3 Same))
    × (ask_of (codes "changed" ∷ codes "3" ∷ []) ≡ Some (ask.Narrow 3 Changed))
    × (ask_of (codes "more" ∷ codes "3" ∷ []) ≡ Some (ask.Narrow 3 More))
    × (ask_of (codes "less" ∷ codes "3" ∷ []) ≡ Some (ask.Narrow 3 Less))
    × (ask_of (codes "list" ∷ []) ≡ Some ask.List)
    × (query_of (codes "start 1 1" ++ 10 ∷ codes "list")
    ≡ Ok (line.Ask (ask.Start 1 1) ∷ line.Ask ask.List ∷ []))

abbrev pub BadAskCases : Type 0
BadAskCases =
    (ask_of (codes "watch" ∷ codes "160" ∷ codes "3" ∷ codes "0" ∷ codes "2" ∷ []) ≡ None)
    × (ask_of (codes "watch" ∷ codes "160" ∷ codes "1" ∷ codes "2" ∷ codes "1" ∷ []) ≡ None)
    × (ask_of (codes "watch" ∷ codes "160" ∷ codes "1" ∷ codes "2" ∷ []) ≡ None)
    × (ask_of (codes "start" ∷ codes "8" ∷ codes "1" ∷ []) ≡ None)
    × (ask_of (codes "is" ∷ codes "3" ∷ codes "4294967296" ∷ []) ≡ None)
    × (ask_of (codes "is" ∷ codes "3" ∷ []) ≡ None)
    × (ask_of (codes "more" ∷ codes "3" ∷ codes "1" ∷ []) ≡ None)
    × (ask_of (codes "list" ∷ codes "1" ∷ []) ≡ None)
    × (ask_of (codes "find" ∷ []) ≡ None)
    × (query_of (codes "list" ++ 10 ∷ codes "start 3 1" ++ 10 ∷ []) ≡ Err (BadLine 2))

-- orders that keep places, and orders of a script that don't
abbrev pub KeepingCases : Type 0
KeepingCases =
    (query_of (codes "keep-every 60" ++ 10 ∷ codes "keep 07" ++ 10 ∷ codes "list")
    ≡ Ok (line.KeepEvery 60 ∷ line.Keep 7 ∷ line.Ask ask.List ∷ []))
    × (query_line_of (codes "keep" ∷ codes "4294967295" ∷ []) ≡ Some (line.Keep 4294967295))
    × (query_line_of (codes "keep" ∷ []) ≡ None)
    × (query_line_of (codes "keep" ∷ codes "1" ∷ codes "2" ∷ []) ≡ None)
    × (query_line_of (codes "keep-every" ∷ codes "0" ∷ []) ≡ None)
    × (query_line_of (codes "drop" ∷ codes "1" ∷ []) ≡ None)
    × (query_line_of (codes "show" ∷ codes "1" ∷ []) ≡ None)
    × (query_of (codes "keep 1" ++ 10 ∷ codes "undo" ++ 10 ∷ []) ≡ Err (BadLine 2))

pub ask-cases : AskCases
unfolding query_of orders_in lines_from query_rows script_rows decimal_value number_of
ask-cases = (refl, refl, refl, refl, refl, refl, refl, refl, refl, refl)

pub bad-ask-cases : BadAskCases
unfolding query_of orders_in lines_from query_rows script_rows decimal_value number_of
bad-ask-cases = (refl, refl, refl, refl, refl, refl, refl, refl, refl, refl)

pub keeping-cases : KeepingCases
unfolding query_of orders_in lines_from query_rows script_rows decimal_value number_of
keeping-cases = (refl, refl, refl, refl, refl, refl, refl, refl)
