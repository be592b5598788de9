-- A flattening that stands after other marks is its own, with all positions moved along.
use Rattle.std.proofs.Common.{◌≡◌, ℕ, zero, suc, take, append_assoc, ◌+◌, ◌-◌, List, [], ◌∷◌, ◌++◌, length}
use Rattle.std.proofs.Common.{map, Option, Some, None, refl, sym, ◌∙◌, ap, arith, length-append}
use Rattle.std.specs.Prelude.{option_map, slice_get}
use Rattle.std.proofs.lemmas.List.{map-append}
use Rattle.std.proofs.lemmas.Option.{same_Some}
use Rattle.w4_defs.specs.declared.operation.Op.{Op}
use Rattle.w4_defs.specs.declared.operation.Op.TheVariants.{Block, Loop, If, Else, End}
use Rattle.w4_defs.specs.Tree.{Mark, mark, Expr, done, plain, block, loop, if_then, if_else, span, flat_at}
use Rattle.w4_defs.specs.Flattening.{IsLeaf, IsProper}
use Rattle.wasm_tree.specs.Shifting.{op_after, op_within, shifted_mark, within, FlatteningIsShifted}

leaf_after : (start : ℕ) (op : Op) → IsLeaf op → op ≡ op_after start op
leaf_after start (Block r m) h = absurd h
leaf_after start (Loop r m) h = absurd h
leaf_after start (If r other m) h = absurd h
leaf_after start Else h = absurd h
leaf_after start End h = absurd h
leaf_after start op h = refl

-- a list that opens with a mark, and what follows it
opened_shifted : (start : ℕ) (x y : Mark) (xs ys us vs : List Mark) → x ≡ shifted_mark start y
    → xs ≡ map (shifted_mark start) ys → us ≡ map (shifted_mark start) vs
    → (x ∷ xs) ++ us ≡ map (shifted_mark start) ((y ∷ ys) ++ vs)
opened_shifted start x y xs ys us vs ex exs eus =
    ap (λ z. (z ∷ xs) ++ us) ex ∙ ap (λ zs. (shifted_mark start y ∷ zs) ++ us) exs
    ∙ ap (λ zs. (shifted_mark start y ∷ map (shifted_mark start) ys) ++ zs) eus
    ∙ sym (map-append (shifted_mark start) (y ∷ ys) vs)

parted : (start : ℕ) (xs ys us vs : List Mark) → xs ≡ map (shifted_mark start) ys
    → us ≡ map (shifted_mark start) vs → xs ++ us ≡ map (shifted_mark start) (ys ++ vs)
parted start xs ys us vs exs eus =
    ap (λ zs. zs ++ us) exs ∙ ap (λ zs. map (shifted_mark start) ys ++ zs) eus
    ∙ sym (map-append (shifted_mark start) ys vs)

-- the position of the first mark is given by an equation, so that each case is one of numbers
shifted_from : (close : Op) → ((start : ℕ) → mark close ≡ shifted_mark start (mark close))
    → (start at to : ℕ) → to ≡ at + start → (e : Expr) → IsProper e
    → flat_at close to e ≡ map (shifted_mark start) (flat_at close at e)
shifted_from close c start at to h done p = ap (λ m. m ∷ []) (c start)
shifted_from close c start at to h (plain m rest) p =
    ap (λ op. (op, m.1) ∷ flat_at close (to + 1) rest) (leaf_after start m.0 p.0)
    ∙ ap (λ ms. shifted_mark start m ∷ ms)
    (shifted_from close c start (at + 1) (to + 1) (omega arith) rest p.1)
shifted_from close c start at to h (block r inner rest) p =
    let end : to + 1 + span inner ≡ at + 1 + span inner + start = omega arith in
    opened_shifted start _ (mark (Block r (at + 1 + span inner))) _ (flat_at End (at + 1) inner) _
    (flat_at close (at + 1 + span inner + 1) rest) (ap (λ n. mark (Block r n)) end)
    (shifted_from End (λ s. refl) start (at + 1) (to + 1) (omega arith) inner p.0)
    (shifted_from close c start (at + 1 + span inner + 1) (to + 1 + span inner + 1) (omega arith) rest p.1)
shifted_from close c start at to h (loop r inner rest) p =
    let end : to + 1 + span inner ≡ at + 1 + span inner + start = omega arith in
    opened_shifted start _ (mark (Loop r (at + 1 + span inner))) _ (flat_at End (at + 1) inner) _
    (flat_at close (at + 1 + span inner + 1) rest) (ap (λ n. mark (Loop r n)) end)
    (shifted_from End (λ s. refl) start (at + 1) (to + 1) (omega arith) inner p.0)
    (shifted_from close c start (at + 1 + span inner + 1) (to + 1 + span inner + 1) (omega arith) rest p.1)
shifted_from close c start at to h (if_then r taken rest) p =
    let end : to + 1 + span taken ≡ at + 1 + span taken + start = omega arith in
    opened_shifted start _ (mark (If r None (at + 1 + span taken))) _ (flat_at End (at + 1) taken) _
    (flat_at close (at + 1 + span taken + 1) rest) (ap (λ n. mark (If r None n)) end)
    (shifted_from End (λ s. refl) start (at + 1) (to + 1) (omega arith) taken p.0)
    (shifted_from close c start (at + 1 + span taken + 1) (to + 1 + span taken + 1) (omega arith) rest p.1)
shifted_from close c start at to h (if_else r taken other rest) p =
    let middle : to + 1 + span taken ≡ at + 1 + span taken + start = omega arith in
    let end : to + 1 + span taken + 1 + span other ≡ at + 1 + span taken + 1 + span other + start =
    omega arith in
    parted start _ ((mark (If r (Some (at + 1 + span taken)) (at + 1 + span taken + 1 + span other))
    ∷ flat_at Else (at + 1) taken) ++ flat_at End (at + 1 + span taken + 1) other) _
    (flat_at close (at + 1 + span taken + 1 + span other + 1) rest)
    (opened_shifted start _
    (mark (If r (Some (at + 1 + span taken)) (at + 1 + span taken + 1 + span other))) _
    (flat_at Else (at + 1) taken) _ (flat_at End (at + 1 + span taken + 1) other)
    (ap (λ n. mark (If r (Some n) (to + 1 + span taken + 1 + span other))) middle
    ∙ ap (λ n. mark (If r (Some (at + 1 + span taken + start)) n)) end)
    (shifted_from Else (λ s. refl) start (at + 1) (to + 1) (omega arith) taken p.0)
    (shifted_from End (λ s. refl) start (at + 1 + span taken + 1) (to + 1 + span taken + 1) (omega arith)
    other p.1))
    (shifted_from close c start (at + 1 + span taken + 1 + span other + 1)
    (to + 1 + span taken + 1 + span other + 1) (omega arith) rest p.2)

pub flattening_shifted : FlatteningIsShifted
flattening_shifted start e p = shifted_from End (λ s. refl) start 0 start (omega arith) e p

add_sub : (n start : ℕ) → n + start - start ≡ n
add_sub n start = omega arith

option_back : (start : ℕ) (o : Option ℕ)
    → option_map (λ position. position - start) (option_map (λ position. position + start) o) ≡ o
option_back start None = refl
option_back start (Some n) = ap Some (add_sub n start)

pub op_back : (start : ℕ) (op : Op) → op_within start (op_after start op) ≡ op
op_back start (Block r end) = ap (λ n. Block r n) (add_sub end start)
op_back start (Loop r end) = ap (λ n. Loop r n) (add_sub end start)
op_back start (If r other end) = ap (λ o. If r o (end + start - start)) (option_back start other)
    ∙ ap (λ n. If r other n) (add_sub end start)
op_back start op = refl

pub all_back : (start : ℕ) (ms : List Mark) → map (within start) (map (shifted_mark start) ms) ≡ ms
all_back start [] = refl
all_back start (m ∷ ms) = ap (λ op. (op, m.1) ∷ map (within start) (map (shifted_mark start) ms))
    (op_back start m.0) ∙ ap (λ xs. m ∷ xs) (all_back start ms)

opened_length : (x : Mark) (xs ys : List Mark) (a b : ℕ) → length xs ≡ a → length ys ≡ b
    → length ((x ∷ xs) ++ ys) ≡ 1 + a + b
opened_length x xs ys a b ha hb = omega (arith, length-append (x ∷ xs) ys, ha, hb)

pub length_flat : (close : Op) (at : ℕ) (e : Expr) → length (flat_at close at e) ≡ span e + 1
length_flat close at done = refl
length_flat close at (plain m rest) = omega (arith, length_flat close (at + 1) rest)
length_flat close at (block r inner rest) =
    opened_length (mark (Block r (at + 1 + span inner))) _ _ _ _ (length_flat End (at + 1) inner)
    (length_flat close (at + 1 + span inner + 1) rest) ∙ omega arith
length_flat close at (loop r inner rest) =
    opened_length (mark (Loop r (at + 1 + span inner))) _ _ _ _ (length_flat End (at + 1) inner)
    (length_flat close (at + 1 + span inner + 1) rest) ∙ omega arith
length_flat close at (if_then r taken rest) =
    opened_length (mark (If r None (at + 1 + span taken))) _ _ _ _ (length_flat End (at + 1) taken)
    (length_flat close (at + 1 + span taken + 1) rest) ∙ omega arith
length_flat close at (if_else r taken other rest) =
    let middle : ℕ = at + 1 + span taken in
    let end : ℕ = middle + 1 + span other in
    let first : List Mark = mark (If r (Some middle) end) ∷ flat_at Else (at + 1) taken in
    let second : List Mark = flat_at End (middle + 1) other in
    let front : length (first ++ second) ≡ 1 + (span taken + 1) + (span other + 1) =
    opened_length (mark (If r (Some middle) end)) _ _ _ _ (length_flat Else (at + 1) taken)
    (length_flat End (middle + 1) other) in
    omega (
      arith,
      length-append (first ++ second) (flat_at close (end + 1) rest),
      front,
      length_flat close (end + 1) rest,
    )

-- one more mark of those that stand after others
taken_next : (ms : List Mark) (position : ℕ) (op : Op) (labels : List ℕ)
    → option_map (λ m. m.0) (slice_get ms position) ≡ Some op
    → option_map (λ m. m.1) (slice_get ms position) ≡ Some labels
    → take (suc position) ms ≡ take position ms ++ (op, labels) ∷ []
taken_next [] position op labels ho hl = absurd cc
taken_next (m ∷ ms) zero op labels ho hl = ap (λ x. (x, m.1) ∷ []) (same_Some _ _ ho)
    ∙ ap (λ x. (op, x) ∷ []) (same_Some _ _ hl)
taken_next (m ∷ ms) (suc position) op labels ho hl = ap (λ xs. m ∷ xs)
    (taken_next ms position op labels ho hl)

pub one_more : (start position next : ℕ) (ms front marks marks' : List Mark) (op op' : Op) (labels : List ℕ)
    → next ≡ position + 1
    → option_map (λ m. m.0) (slice_get ms position) ≡ Some op
    → option_map (λ m. m.1) (slice_get ms position) ≡ Some labels
    → op' ≡ op_after start op → marks ≡ front ++ map (shifted_mark start) (take position ms)
    → marks' ≡ marks ++ (op', labels) ∷ []
    → marks' ≡ front ++ map (shifted_mark start) (take next ms)
one_more start position next ms front marks marks' op op' labels en ho hl eo em em' =
    let xs : List Mark = map (shifted_mark start) (take position ms) in
    em' ∙ ap (λ ys. ys ++ (op', labels) ∷ []) em ∙ append_assoc front xs ((op', labels) ∷ [])
    ∙ ap (λ x. front ++ (xs ++ (x, labels) ∷ [])) eo
    ∙ ap (λ ys. front ++ ys) (sym (map-append (shifted_mark start) (take position ms) ((op, labels) ∷ [])))
    ∙ ap (λ ys. front ++ map (shifted_mark start) ys) (sym (taken_next ms position op labels ho hl))
    ∙ ap (λ n. front ++ map (shifted_mark start) (take n ms)) {x = suc position} (omega (arith, en))
