-- One turn of each loop.
use Rattle.std.proofs.Common.{◌≡◌, ◌≢◌, ℕ, zero, suc, ◌+◌, ◌^◌, ◌<◌, ◌≤◌, nat_lt, eqb, true, false}
use Rattle.std.proofs.Common.{if◌then◌else◌, List, [], ◌∷◌, ◌++◌, length, take, drop, reverse, get_or, Option}
use Rattle.std.proofs.Common.{Some, None, option_map, slice_get, slice_set, refl, ap, sym, ◌∙◌, subst}
use Rattle.std.proofs.Common.{append_assoc, arith, add-one}
use Rattle.std.proofs.Math.ListN.{drop_of_length-le}
use Rattle.std.proofs.Math.Seq.{drop-cons}
use Rattle.std.proofs.lemmas.Bool.{lt-ltb}
use Rattle.std.proofs.lemmas.List.{length-take-le, length-reverse, get_or-take, drop-set, take-set}
use Rattle.std.proofs.lemmas.List.{length-set, take-append-drop}
use Rattle.std.proofs.lemmas.Option.{slice_get-get_or}
use Rattle.w4_defs.specs.declared.operation.Op.{Op}
use Rattle.w4_defs.specs.declared.operation.Op.TheVariants.{Block, Loop, If, End}
use Rattle.w4_defs.specs.declared.module.Locals.{Locals}
use Rattle.w4_defs.specs.Lookup.{local_count}
use Rattle.w4_defs.specs.Tree.{Mark}
use Rattle.w4_defs.specs.Reading.{◌>>=◌}
use Rattle.wasm_read.specs.declared.brackets.Close.{Close}
use Rattle.wasm_read.specs.declared.brackets.Close.TheVariants.{Ends, Parts}
use Rattle.wasm_read.specs.declared.refusal.ReadRefusal.{ReadRefusal}
use Rattle.wasm_read.specs.declared.refusal.ReadRefusal.TheVariants.{Malformed, OutOfMemory}
use Rattle.wasm_read.specs.Reader.{Reader, read_as, IsUnread}
use Rattle.wasm_read.specs.Combine.{items_at, after_items}
use Rattle.wasm_read.proofs.Passes.{filled_as}
use Rattle.wasm_read.proofs.ExpressionLaws.{placed_as}
use Rattle.wasm_read.proofs.Basics.{numbers_differ_tested}
use Rattle.wasm_read.specs.ReadExpression.{mark_at, depth_after, marks_at, mark_with_positions}
use Rattle.wasm_read.specs.ReadExpression.{marks_with_positions, is_one_end, matched}

pub refused : (M N : Type 0) → (M → N) → (e : ReadRefusal) → IsUnread M e → IsUnread N e
refused M N f Malformed h = f h
refused M N f OutOfMemory h = h

-- items of a vector
after_more : {A : Type 0} (xs : List A) (x : A) (o : Option (List A × List ℕ))
    → after_items xs (o >>= λ y. read_as (x ∷ y.0) y.1) ≡ after_items (xs ++ x ∷ []) o
after_more xs x None = refl
after_more xs x (Some y) = ap (λ zs. read_as zs y.1) (sym (append_assoc xs (x ∷ []) y.0))

pub items_more : {A : Type 0} (p : Reader A) (xs : List A) (x : A) (n m : ℕ) (bytes after : List ℕ)
    (all : Option (List A × List ℕ))
    → after_items xs (items_at p n bytes) ≡ all → n ≡ suc m → p bytes ≡ Some (x, after)
    → after_items (xs ++ x ∷ []) (items_at p m after) ≡ all
items_more {A} p xs x n m bytes after all inv e h =
    let step : after_items xs (items_at p (suc m) bytes) ≡ after_items xs
    (items_at p m after >>= λ y. read_as (x ∷ y.0) y.1) = rw h refl in
    sym (after_more xs x (items_at p m after)) ∙ sym step
    ∙ ap (λ k. after_items xs (items_at p k bytes)) (sym e) ∙ inv

pub items_none : {A : Type 0} (p : Reader A) (xs : List A) (n m : ℕ) (bytes : List ℕ)
    (all : Option (List A × List ℕ))
    → after_items xs (items_at p n bytes) ≡ all → n ≡ suc m → p bytes ≡ None → all ≡ None
items_none p xs n m bytes all inv e h =
    let step : after_items xs (items_at p (suc m) bytes) ≡ None = rw h refl in
    sym inv ∙ ap (λ k. after_items xs (items_at p k bytes)) e ∙ step

-- marks of an expression
pub depth_at_most : (op : Op) (depth : ℕ) → depth_after op depth ≤ depth + 1
depth_at_most (Block r end) depth = omega arith
depth_at_most (Loop r end) depth = omega arith
depth_at_most (If r other end) depth = omega arith
depth_at_most End depth = omega arith
depth_at_most op depth = omega arith

pub marks_more : (ms : List Mark) (m : Mark) (depth n k : ℕ) (bytes after : List ℕ)
    (all : Option (List Mark × List ℕ))
    → after_items ms (marks_at n depth bytes) ≡ all → n ≡ suc k → mark_at bytes ≡ Some (m, after)
    → depth_after m.0 depth ≢ 0
    → after_items (ms ++ m ∷ []) (marks_at k (depth_after m.0 depth) after) ≡ all
marks_more ms m depth n k bytes after all inv e h open_left =
    let test : eqb (depth_after m.0 depth) 0 ≡ false =
    numbers_differ_tested (depth_after m.0 depth) 0 open_left in
    let step : after_items ms (marks_at (suc k) depth bytes) ≡ after_items ms
    (marks_at k (depth_after m.0 depth) after >>= λ y. read_as (m ∷ y.0) y.1) = rw (h, test) refl in
    sym (after_more ms m (marks_at k (depth_after m.0 depth) after)) ∙ sym step
    ∙ ap (λ i. after_items ms (marks_at i depth bytes)) (sym e) ∙ inv

pub marks_none : (ms : List Mark) (depth n k : ℕ) (bytes : List ℕ) (all : Option (List Mark × List ℕ))
    → after_items ms (marks_at n depth bytes) ≡ all → n ≡ suc k → mark_at bytes ≡ None → all ≡ None
marks_none ms depth n k bytes all inv e h =
    let step : after_items ms (marks_at (suc k) depth bytes) ≡ None = rw h refl in
    sym inv ∙ ap (λ i. after_items ms (marks_at i depth bytes)) e ∙ step

-- the positions, from the last mark to the first
take_fewer : (i : ℕ) (xs : List Mark) → take i (take (suc i) xs) ≡ take i xs
take_fewer zero xs = refl
take_fewer (suc i) [] = refl
take_fewer (suc i) (x ∷ xs) = ap (λ ys. x ∷ ys) (take_fewer i xs)

before_less : (i : ℕ) (xs ys : List Mark) → take (suc i) xs ≡ take (suc i) ys → take i xs ≡ take i ys
before_less i xs ys e = sym (take_fewer i xs) ∙ ap (λ zs. take i zs) e ∙ take_fewer i ys

same_mark : (i : ℕ) (xs ys : List Mark) (d : Mark) → take (suc i) xs ≡ take (suc i) ys
    → get_or xs i d ≡ get_or ys i d
same_mark i xs ys d e =
    let low : i < suc i = omega arith in
    sym (get_or-take (suc i) xs i d low) ∙ ap (λ zs. get_or zs i d) e ∙ get_or-take (suc i) ys i d low

-- the mark at position i, when those after it are filled
mark_filled : (i : ℕ) (start : List Mark) (m d : Mark) (after : List Mark) (cs : List Close)
    → i < length start → get_or start i d ≡ m
    → marks_with_positions (i + 1) (drop (suc i) start) ≡ filled_as after cs
    → marks_with_positions i (drop i start)
    ≡ (mark_with_positions i m.0 cs >>= λ p. filled_as ((p.0, m.1) ∷ after) p.1)
mark_filled i start m d after cs low e f =
    let split : drop i start ≡ m ∷ drop (suc i) start = drop-cons start i d low
    ∙ ap (λ x. x ∷ drop (suc i) start) e in
    ap (λ xs. marks_with_positions i xs) split ∙ (rw f refl)

known_before : (i at : ℕ) (start ms : List Mark) → at ≡ suc i → take at ms ≡ take at start
    → take (suc i) ms ≡ take (suc i) start
known_before i at start ms e h =
    let P : ℕ → Type 0 = λ k. take k ms ≡ take k start in
    subst P e h

known_after : (i at : ℕ) (start ms : List Mark) (cs : List Close) → at ≡ suc i
    → marks_with_positions at (drop at start) ≡ filled_as (drop at ms) cs
    → marks_with_positions (i + 1) (drop (suc i) start) ≡ filled_as (drop (suc i) ms) cs
known_after i at start ms cs e h =
    let next : i + 1 ≡ at = omega arith in
    ap (λ k. marks_with_positions k (drop (suc i) start)) next
    ∙ ap (λ k. marks_with_positions at (drop k start)) (sym e) ∙ h
    ∙ ap (λ k. filled_as (drop k ms) cs) e

fill_more : (i : ℕ) (start ms ns : List Mark) (cs ds : List Close) (was op : Op) → i < length ms
    → length ms ≡ length start → take (suc i) ms ≡ take (suc i) start
    → marks_with_positions (i + 1) (drop (suc i) start) ≡ filled_as (drop (suc i) ms) cs
    → option_map (λ (m : Mark). m.0) (slice_get ms i) ≡ Some was
    → mark_with_positions i was cs ≡ placed_as op ds
    → ns ≡ slice_set ms i (op, (get_or ms i (op, [])).1)
    → marks_with_positions i (drop i start) ≡ filled_as (drop i ns) ds
fill_more i start ms ns cs ds was op low long before f read p e =
    let d : Mark = (op, []) in
    let m : Mark = get_or ms i d in
    let same : get_or start i d ≡ m = sym (same_mark i ms start d before) in
    let got : slice_get ms i ≡ Some m = slice_get-get_or ms i d low in
    let value : Some m.0 ≡ Some was = sym (ap (λ o. option_map (λ (x : Mark). x.0) o) got) ∙ read in
    let is : m.0 ≡ was = cc in
    let new : Mark = (op, m.1) in
    let tail : drop i ns ≡ new ∷ drop (i + 1) ms = ap (λ xs. drop i xs) e ∙ drop-set ms i new low in
    let last : drop (i + 1) ms ≡ drop (suc i) ms = ap (λ k. drop k ms) (add-one i) in
    let first = mark_filled i start m d (drop (suc i) ms) cs (omega arith) same f in
    let placing : mark_with_positions i m.0 cs ≡ placed_as op ds = ap (λ o. mark_with_positions i o cs) is
    ∙ p in
    first ∙ ap (λ q. q >>= λ r. filled_as ((r.0, m.1) ∷ drop (suc i) ms) r.1) placing
    ∙ ap (λ xs. filled_as xs ds) (ap (λ xs. new ∷ xs) (sym last) ∙ sym tail)

pub turn_filled : (i at : ℕ) (start ms ns : List Mark) (cs ds : List Close) (was op : Op) → at ≡ suc i
    → i < length ms → length ms ≡ length start → take at ms ≡ take at start
    → marks_with_positions at (drop at start) ≡ filled_as (drop at ms) cs
    → option_map (λ (m : Mark). m.0) (slice_get ms i) ≡ Some was
    → mark_with_positions i was cs ≡ placed_as op ds
    → ns ≡ slice_set ms i (op, (get_or ms i (op, [])).1) → (length ns ≡ length start)
    × (take i ns ≡ take i start) × (marks_with_positions i (drop i start) ≡ filled_as (drop i ns) ds)
turn_filled i at start ms ns cs ds was op there low long before f read p e =
    let new : Mark = (op, (get_or ms i (op, [])).1) in
    let earlier = known_before i at start ms there before in (
      ap (λ xs. length xs) e ∙ length-set ms i new ∙ long,
      ap (λ xs. take i xs) e ∙ take-set ms i new ∙ before_less i ms start earlier,
      fill_more i start ms ns cs ds was op low long earlier (known_after i at start ms cs there f) read p e,
    )

-- the order of the unmatched makes no difference to whether there is just one end
several : (cs : List Close) → 2 ≤ length cs → is_one_end cs ≡ false
several [] h = absurd (omega arith)
several (Ends k ∷ []) h = absurd (omega arith)
several (Parts k ∷ cs) h = refl
several (Ends k ∷ (c ∷ cs)) h = refl

one_end_reversed : (cs : List Close) → is_one_end (reverse cs) ≡ is_one_end cs
one_end_reversed [] = refl
one_end_reversed (c ∷ []) = refl
one_end_reversed (c ∷ (d ∷ cs)) =
    let count : length (reverse (c ∷ (d ∷ cs))) ≡ length (c ∷ (d ∷ cs)) = length-reverse (c ∷ (d ∷ cs)) in
    several (reverse (c ∷ (d ∷ cs))) (omega (arith, count)) ∙ sym (several (c ∷ (d ∷ cs)) (omega arith))

pub unmatched_left : (at : ℕ) (start ms : List Mark) (cs : List Close) → at ≡ 0
    → marks_with_positions at (drop at start) ≡ filled_as (drop at ms) (reverse cs)
    → is_one_end cs ≡ false → matched start ≡ None
unmatched_left at start ms cs e f h =
    let all : marks_with_positions 0 start ≡ filled_as ms (reverse cs) =
    ap (λ k. marks_with_positions k (drop k start)) (sym e) ∙ f
    ∙ ap (λ k. filled_as (drop k ms) (reverse cs)) e in
    let test : is_one_end (reverse cs) ≡ false = one_end_reversed cs ∙ h in
    rw (all, test) refl

fill_none : (before : List Mark) (at n : ℕ) (after : List Mark) → n ≡ at + length before
    → marks_with_positions n after ≡ None → marks_with_positions at (before ++ after) ≡ None
fill_none [] at n after e h =
    let same : at ≡ n = omega arith in
    ap (λ k. marks_with_positions k after) same ∙ h
fill_none (m ∷ ms) at n after e h =
    let next = fill_none ms (at + 1) n after (omega arith) h in
    rw next refl

taken_count : (i : ℕ) (xs : List Mark) → i ≤ length xs → i ≡ 0 + length (take i xs)
taken_count i xs low = let e = length-take-le i xs low in omega (arith, e)

fill_stopped : (i : ℕ) (start ms : List Mark) (cs : List Close) (was : Op) → i < length ms
    → length ms ≡ length start → take (suc i) ms ≡ take (suc i) start
    → marks_with_positions (i + 1) (drop (suc i) start) ≡ filled_as (drop (suc i) ms) cs
    → option_map (λ (m : Mark). m.0) (slice_get ms i) ≡ Some was → mark_with_positions i was cs ≡ None
    → matched start ≡ None
fill_stopped i start ms cs was low long before f read p =
    let d : Mark = (was, []) in
    let m : Mark = get_or ms i d in
    let same : get_or start i d ≡ m = sym (same_mark i ms start d before) in
    let got : slice_get ms i ≡ Some m = slice_get-get_or ms i d low in
    let value : Some m.0 ≡ Some was = sym (ap (λ o. option_map (λ (x : Mark). x.0) o) got) ∙ read in
    let is : m.0 ≡ was = cc in
    let here = mark_filled i start m d (drop (suc i) ms) cs (omega arith) same f in
    let none : marks_with_positions i (drop i start) ≡ None =
    here ∙ ap (λ o. mark_with_positions i o cs >>= λ r. filled_as ((r.0, m.1) ∷ drop (suc i) ms) r.1) is
    ∙ ap (λ q. q >>= λ r. filled_as ((r.0, m.1) ∷ drop (suc i) ms) r.1) p in
    let count : i ≡ 0 + length (take i start) = taken_count i start (omega arith) in
    let all = fill_none (take i start) 0 i (drop i start) count none in
    ap (λ o. o >>= λ g. if is_one_end g.1 then Some g.0 else None)
    (ap (λ xs. marks_with_positions 0 xs) (sym (take-append-drop i start)) ∙ all)

pub turn_stopped : (i at : ℕ) (start ms : List Mark) (cs : List Close) (was : Op) → at ≡ suc i
    → i < length ms → length ms ≡ length start → take at ms ≡ take at start
    → marks_with_positions at (drop at start) ≡ filled_as (drop at ms) cs
    → option_map (λ (m : Mark). m.0) (slice_get ms i) ≡ Some was → mark_with_positions i was cs ≡ None
    → matched start ≡ None
turn_stopped i at start ms cs was there low long before f read p =
    fill_stopped i start ms cs was low long (known_before i at start ms there before)
    (known_after i at start ms cs there f) read p

-- the sum of all runs
pub all_counted : (runs : List Locals) (at sum : ℕ) → sum + local_count (drop at runs) ≡ local_count runs
    → length runs ≤ at → sum < 2 ^ 32 → true ≡ nat_lt (local_count runs) (2 ^ 32)
all_counted runs at sum e past few =
    let none : drop at runs ≡ [] = drop_of_length-le runs past in
    let zero_left : local_count (drop at runs) ≡ 0 = ap (λ xs. local_count xs) none in
    let total : sum ≡ local_count runs = omega (arith, e, zero_left) in
    sym (lt-ltb (local_count runs) (2 ^ 32) (omega (arith, total)))
