-- The lines of a query are fit for the calls that they ask for.
use Rattle.std.proofs.Common.{◌≡◌, ℕ, Bool, true, false, List, [], ◌∷◌, length, All, Option, Some, None}
use Rattle.std.proofs.Common.{Result, Ok, Err, option_map, refl, sym, subst, if◌then◌else◌, leb, cond, arith}
use Rattle.std.specs.Prelude.{⊤, IfSome}
use Rattle.std.specs.Option.{option_or}
use Rattle.std.specs.Str.{bytes_eq}
use Rattle.std.proofs.lemmas.List.Elements.{All-nil, All-cons}
use Rattle.w4_defs.specs.declared.inspect.Ask.{Ask}
use Rattle.w4_defs.specs.declared.inspect.Ask.TheVariants as ask
use Rattle.w4_defs.specs.declared.inspect.QueryLine.{QueryLine}
use Rattle.w4_defs.specs.declared.inspect.QueryLine.TheVariants as line
use Rattle.w4_defs.specs.declared.inspect.Test.{Test}
use Rattle.w4_defs.specs.declared.inspect.Test.TheVariants.{Same, Changed, More, Less}
use Rattle.w4_defs.specs.declared.order.Order.{Order}
use Rattle.w4_defs.specs.declared.status.ScriptKind.{ScriptKind}
use Rattle.w4_defs.specs.declared.status.ScriptKind.TheVariants.{TooLong}
use Rattle.w4_defs.specs.Lines.{Line, lines_of}
use Rattle.w4_defs.specs.OrderFile.{OrderReader, OrderRow, order_by, order_named, orders_in, file_of}
use Rattle.w4_defs.specs.OrderFile.{with_order}
use Rattle.w4_defs.specs.OrderWords.{no_word}
use Rattle.w4_defs.specs.RamQuery.{ask_of, is_words, keeping, query_line_of, query_rows, start_words}
use Rattle.w4_defs.specs.RamQuery.{test_words, watch_words}
use Rattle.w4_defs.specs.Reading.{◌>>=◌}
use Rattle.w4_defs.specs.Script.{order_of}
use Rattle.w4_defs.proofs.OptionLaws.{some_same}
use Rattle.w4_script.specs.Query.{IsQueryLine, IsRequest}

-- ---- what holds of each order that a table's rows read holds of the orders of a file

module _ {Order : Type 0} (P : Order → Type 0) where
  abbrev Reads : OrderReader Order → Type 0
  Reads order_of = (words : List (List ℕ)) (order : Order) → order_of words ≡ Some order → P order

  abbrev RowsRead : List (OrderRow Order) → Type 0
  RowsRead [] = ⊤
  RowsRead (row ∷ rows) = Reads row.order_from × RowsRead rows

  chosen : (b : Bool) (first other : Option Order) (order : Order) → (if b then first else other) ≡ Some order
      → (first ≡ Some order → P order) → (other ≡ Some order → P order) → P order
  chosen true first other order e is_first is_other = is_first e
  chosen false first other order e is_first is_other = is_other e

  named_reads : (rows : List (OrderRow Order)) → RowsRead rows → (name : List ℕ)
      → Reads (order_named rows name)
  named_reads [] read name words order e = absurd cc
  named_reads (row ∷ rows) read name words order e =
      chosen (bytes_eq name row.name) (row.order_from words) (order_named rows name words) order e
      (read.0 words order) (named_reads rows read.1 name words order)

  table_reads : (rows : List (OrderRow Order)) → RowsRead rows → Reads (order_by rows)
  table_reads rows read [] order e = absurd cc
  table_reads rows read (name ∷ words) order e = named_reads rows read name words order e

  line_read : (number : ℕ) (first : Option Order) (more : Result (List Order) ScriptKind)
      (orders : List Order)
      → ((order : Order) → first ≡ Some order → P order) → ((rest : List Order) → more ≡ Ok rest → All P rest)
      → with_order number first more ≡ Ok orders → All P orders
  line_read number None more orders is_first are_more e = absurd cc
  line_read number (Some first) (Err fault) orders is_first are_more e = absurd cc
  line_read number (Some first) (Ok rest) orders is_first are_more e =
      let same : first ∷ rest ≡ orders = cc in
      subst (λ all. All P all) same (All-cons P first rest (is_first first refl) (are_more rest refl))

  lines_read : (order_of : OrderReader Order) → Reads order_of → (lines : List Line) (orders : List Order)
      → orders_in order_of lines ≡ Ok orders → All P orders
  unfolding orders_in
  lines_read order_of read [] orders e =
      let same : [] ≡ orders = cc in
      subst (λ all. All P all) same (All-nil P)
  lines_read order_of read (line ∷ lines) orders e =
      line_read line.number (order_of line.words) (orders_in order_of lines) orders (read line.words)
      (lines_read order_of read lines) e

  short_read : (b : Bool) (read : Result (List Order) ScriptKind) (orders : List Order)
      → ((orders : List Order) → read ≡ Ok orders → All P orders)
      → cond b read (Err TooLong) ≡ Ok orders → All P orders
  short_read true read orders are e = are orders e
  short_read false read orders are e = absurd cc

  pub file_read : (order_of : OrderReader Order) → Reads order_of → (bytes : List ℕ) (orders : List Order)
      → file_of order_of bytes ≡ Ok orders → All P orders
  file_read order_of read bytes orders e =
      short_read (leb (length bytes) 1048576) (orders_in order_of (lines_of bytes)) orders
      (lines_read order_of read (lines_of bytes)) e

-- ---- the rows of a query

watch_fits : Reads IsRequest watch_words
watch_fits words order e = grind arith

start_fits : Reads IsRequest start_words
start_fits words order e = grind arith

is_fits : Reads IsRequest is_words
is_fits words order e = grind arith

test_fits : (test : Test) → Reads IsRequest (test_words test)
test_fits test words order e = grind arith

list_fits : Reads IsRequest (no_word ask.List)
list_fits words order e = grind arith

rows_fit : RowsRead IsRequest query_rows
unfolding query_rows
rows_fit = (
  watch_fits,
  (
    start_fits,
    (
      is_fits,
      (
        test_fits Same,
        (
          test_fits Changed,
          (
            test_fits More,
            (
              test_fits Less,
              (list_fits, tt),
            ),
          ),
        ),
      ),
    ),
  ),
)

pub request_fits : (name : List ℕ) (words : List (List ℕ)) (request : Option Ask)
    → request ≡ order_named query_rows name words → IfSome request IsRequest
request_fits name words None e = tt
request_fits name words (Some request) e =
    named_reads IsRequest query_rows rows_fit name words request (sym e)

-- ---- the lines of a query

keeping_fits : (o : Order) (found : QueryLine) → keeping o ≡ Some found → IsQueryLine found
keeping_fits o found e = grind arith

line_fits : (request : Option Ask) (o : Option Order) (found : QueryLine)
    → ((ask : Ask) → request ≡ Some ask → IsRequest ask)
    → option_or (option_map line.Ask request) (o >>= keeping) ≡ Some found → IsQueryLine found
line_fits (Some ask) o found fits e =
    subst IsQueryLine (some_same (line.Ask ask) found e) (fits ask refl)
line_fits None (Some o) found fits e = keeping_fits o found e
line_fits None None found fits e = absurd cc

pub query_fits : (bytes : List ℕ) (lines : List QueryLine) → file_of query_line_of bytes ≡ Ok lines
    → All IsQueryLine lines
query_fits = file_read IsQueryLine query_line_of (λ words found e.
    line_fits (ask_of words) (order_of words) found (table_reads IsRequest query_rows rows_fit words) e)
