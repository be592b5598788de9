-- Files of orders (project rule): at most 1,048,576 bytes of lines, one order in each line that isn't
-- skipped. Edit scripts, logs of netplay and memory queries are such files; each has a table of its orders,
-- by which a line's words are read. The program's arguments and the lines of a session are read by tables
-- too.
use Rattle.std.specs.Prelude.{◌≡◌, ℕ, ◌≤◌, ◌<◌, List, [], ◌∷◌, ◌++◌, length, Option, Some, None, Result, Ok, Err, nat_le, if◌then◌else◌}
use Rattle.std.specs.Str.{bytes_eq}
use Rattle.w4_defs.specs.Lines.{Line, lines_of}
use Rattle.w4_defs.specs.declared.status.ScriptKind.{ScriptKind}
use Rattle.w4_defs.specs.declared.status.ScriptKind.TheVariants.{TooLong, BadLine}
use Rattle.w4_defs.specs.Limits.{script_limit}

-- how a line's words are read as an order
abbrev pub OrderReader : Type 0 → Type 0
OrderReader Order = List (List ℕ) → Option Order

-- a row of a table of orders: an order's name, and how the words after it are read. A table is a list of rows
pub record OrderRow (Order : Type 0) : Type 0 where
  pub name : List ℕ
  pub order_from : OrderReader Order

-- the words after a name, read as the first row of that name says; no order has a name without a row
abbrev pub order_named : {Order : Type 0} → List (OrderRow Order) → List ℕ → List (List ℕ) → Option Order
order_named [] name words = None
order_named (row ∷ rows) name words =
    if bytes_eq name row.name then row.order_from words else order_named rows name words

-- a line's first word is the name of its order
abbrev pub order_by : {Order : Type 0} → List (OrderRow Order) → List (List ℕ) → Option Order
order_by rows [] = None
order_by rows (name ∷ words) = order_named rows name words

-- an order before those that follow it, or the number of the first bad line
abbrev pub with_order : {Order : Type 0} →
    ℕ → Option Order → Result (List Order) ScriptKind → Result (List Order) ScriptKind
with_order number None more = Err (BadLine number)
with_order number (Some order) (Ok orders) = Ok (order ∷ orders)
with_order number (Some order) (Err fault) = Err fault

-- the orders of these lines
unfoldable pub orders_in : {Order : Type 0} → OrderReader Order → List Line → Result (List Order) ScriptKind
orders_in order_of [] = Ok []
orders_in order_of (line ∷ lines) = with_order line.number (order_of line.words) (orders_in order_of lines)

-- the orders of a file
abbrev pub file_of : {Order : Type 0} → OrderReader Order → List ℕ → Result (List Order) ScriptKind
file_of order_of bytes =
    if nat_le (length bytes) script_limit then orders_in order_of (lines_of bytes) else Err TooLong

-- the orders of lines are those of the first ones and then those of the others, and a bad line ends them
abbrev pub OrdersInParts : Type 0 → Type 0
OrdersInParts Order =
    (order_of : OrderReader Order) (front lines : List Line) (before orders : List Order) →
    orders_in order_of front ≡ Ok before → orders_in order_of lines ≡ Ok orders →
    orders_in order_of (front ++ lines) ≡ Ok (before ++ orders)

abbrev pub FirstBadLine : Type 0 → Type 0
FirstBadLine Order =
    (order_of : OrderReader Order) (front lines : List Line) (line : Line) (before : List Order) →
    orders_in order_of front ≡ Ok before → order_of line.words ≡ None →
    orders_in order_of (front ++ line ∷ lines) ≡ Err (BadLine line.number)

-- 1,048,576 bytes are read, and more are too many
abbrev pub FileLimit : Type 0 → Type 0
FileLimit Order = (order_of : OrderReader Order) (bytes : List ℕ) →
    (length bytes ≤ script_limit → file_of order_of bytes ≡ orders_in order_of (lines_of bytes))
    × (script_limit < length bytes → file_of order_of bytes ≡ Err TooLong)
