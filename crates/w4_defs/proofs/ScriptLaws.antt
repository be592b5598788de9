-- Orders are read line by line, up to the first bad one.
use Rattle.std.proofs.Common.{◌≡◌, ℕ, zero, suc, ◌+◌, List, [], ◌∷◌, ◌++◌, length, Option, Some, None, Result, Ok, Err, refl, sym, ap, ◌∙◌, arith}
use Rattle.std.specs.Prelude.{replicate}
use Rattle.std.proofs.lemmas.Bool.{le-leb, lt-leb}
use Rattle.std.proofs.lemmas.List.{length-replicate}
use Rattle.w4_defs.specs.Lines.{pieces, lines_from}
use Rattle.w4_defs.specs.OrderFile.{with_order, orders_in, OrdersInParts, FirstBadLine, FileLimit}
use Rattle.w4_defs.specs.declared.status.ScriptKind.{ScriptKind}
use Rattle.w4_defs.specs.Script.{order_of, script_of, ScriptLimit}

-- the orders, or others where there are none
orders_or : {Order : Type 0} → List Order → Result (List Order) ScriptKind → List Order
orders_or others (Ok orders) = orders
orders_or others (Err fault) = others

-- a first line whose orders are read has an order, and so have the others
read_first : {Order : Type 0} (number : ℕ) (order : Option Order) (more : Result (List Order) ScriptKind)
    (orders : List Order) → with_order number order more ≡ Ok orders →
    (first : Order) × (rest : List Order) × (order ≡ Some first) × (more ≡ Ok rest) × (orders ≡ first ∷ rest)
unfolding orders_or
read_first number None more orders e = absurd cc
read_first number (Some order) (Err fault) orders e = absurd cc
read_first number (Some order) (Ok rest) orders e = (order, rest, refl, refl, sym (ap (orders_or []) e))

pub orders_in_parts : {Order : Type 0} → OrdersInParts Order
unfolding orders_in orders_or
orders_in_parts order_of [] lines before orders front rest =
    rest ∙ ap (λ os. Ok (os ++ orders)) (ap (orders_or orders) front)
orders_in_parts order_of (line ∷ more) lines before orders front rest =
    let first = read_first line.number (order_of line.words) (orders_in order_of more) before front in
    let tail = orders_in_parts order_of more lines first.1 orders first.3 rest in
    let one : with_order line.number (order_of line.words) (orders_in order_of (more ++ lines))
    ≡ Ok (first.0 ∷ (first.1 ++ orders)) =
    (λ k. with_order line.number (first.2 k) (tail k)) in
    one ∙ ap (λ os. Ok (os ++ orders)) (sym first.4)

pub first_bad_line : {Order : Type 0} → FirstBadLine Order
unfolding orders_in
first_bad_line order_of [] lines line before front bad =
    ap (λ o. with_order line.number o (orders_in order_of lines)) bad
first_bad_line order_of (first ∷ more) lines line before front bad =
    let parts = read_first first.number (order_of first.words) (orders_in order_of more) before front in
    let tail = first_bad_line order_of more lines line parts.1 parts.3 bad in
    λ k. with_order first.number (parts.2 k) (tail k)

-- ---- the length of a file

pub file_limit : {Order : Type 0} → FileLimit Order
file_limit order_of bytes = (
  λ short. rw (le-leb (length bytes) 1048576 short) refl,
  λ long. rw (lt-leb (length bytes) 1048576 long) refl,
)

-- empty lines have no order
empty_lines : (n number : ℕ) → orders_in order_of (lines_from number (pieces 10 (replicate n 10))) ≡ Ok []
unfolding orders_in lines_from
empty_lines zero number = refl
empty_lines (suc n) number = empty_lines n (number + 1)

pub script_limit : ScriptLimit
unfolding script_of
script_limit = (
  λ bytes same. (file_limit order_of bytes).0 (omega (arith, same)),
  λ bytes same. (file_limit order_of bytes).1 (omega (arith, same)),
  λ n same. (file_limit order_of (replicate n 10)).0 (omega (arith, same, length-replicate {A = ℕ} n 10))
      ∙ empty_lines n 1,
  λ n same. (file_limit order_of (replicate n 10)).1 (omega (arith, same, length-replicate {A = ℕ} n 10)),
)
