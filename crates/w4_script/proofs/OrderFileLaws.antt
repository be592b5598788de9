-- Orders that are read line by line.
use Rattle.std.proofs.Common.{◌≡◌, ℕ, List, [], ◌∷◌, ◌++◌, Some, None, Result, Ok, Err, refl, sym, ap, ◌∙◌}
use Rattle.std.proofs.Common.{append_assoc}
use Rattle.std.proofs.lemmas.List.{append-nil}
use Rattle.w4_defs.specs.Lines.{Line}
use Rattle.w4_defs.specs.OrderFile.{OrderReader, orders_in, with_order}
use Rattle.w4_defs.specs.declared.status.ScriptKind.{ScriptKind}
use Rattle.w4_defs.specs.declared.status.ScriptKind.TheVariants.{BadLine}

-- the orders that were read before, and what those of the lines that are left come to
abbrev pub with_orders : {Order : Type 0} → List Order → Result (List Order) ScriptKind
    → Result (List Order) ScriptKind
with_orders before (Ok orders) = Ok (before ++ orders)
with_orders before (Err fault) = Err fault

pub regroup_orders : {Order : Type 0} (before : List Order) (number : ℕ) (order : Order)
    (more : Result (List Order) ScriptKind)
    → with_orders before (with_order number (Some order) more) ≡ with_orders (before ++ order ∷ []) more
regroup_orders before number order (Ok more) =
    ap (λ orders. Ok orders) (sym (append_assoc before (order ∷ []) more))
regroup_orders before number order (Err fault) = refl

-- one more line, whose order is read
pub one_order : {Order : Type 0} (order_of : OrderReader Order) (before : List Order) (all left : List Line)
    (line : Line) (order : Order)
    (whole : Result (List Order) ScriptKind) → all ≡ line ∷ left → order_of line.words ≡ Some order
    → with_orders before (orders_in order_of all) ≡ whole
    → with_orders (before ++ order ∷ []) (orders_in order_of left) ≡ whole
unfolding orders_in
one_order order_of before all left line order whole first read so_far =
    let one : with_orders before (orders_in order_of all)
    ≡ with_orders (before ++ order ∷ []) (orders_in order_of left)
    = rw (first, read) (regroup_orders before line.number order (orders_in order_of left)) in
    sym one ∙ so_far

-- a bad line
pub bad_line : {Order : Type 0} (order_of : OrderReader Order) (before : List Order) (all left : List Line)
    (line : Line)
    (whole : Result (List Order) ScriptKind) → all ≡ line ∷ left → order_of line.words ≡ None
    → with_orders before (orders_in order_of all) ≡ whole → whole ≡ Err (BadLine line.number)
unfolding orders_in
bad_line order_of before all left line whole first bad so_far =
    let one : with_orders before (orders_in order_of all) ≡ Err (BadLine line.number) =
    rw (first, bad) refl in
    sym so_far ∙ one

-- no line is left
pub no_line : {Order : Type 0} (order_of : OrderReader Order) (before : List Order) (all : List Line)
    (whole : Result (List Order) ScriptKind) → all ≡ []
    → with_orders before (orders_in order_of all) ≡ whole → whole ≡ Ok before
unfolding orders_in
no_line order_of before all whole none so_far =
    let one : with_orders before (orders_in order_of all) ≡ Ok before =
    rw none (ap (λ orders. Ok orders) (append-nil before)) in
    sym so_far ∙ one
