-- The marks of a tree, before their positions are known, and what the two passes make of them.
use Rattle.std.proofs.Common.{◌≡◌, ◌≢◌, ℕ, zero, suc, ◌+◌, ◌-◌, ◌≤◌, eqb, true, false, if◌then◌else◌, ◌⊎◌}
use Rattle.std.proofs.Common.{inl, inr, List, [], ◌∷◌, ◌++◌, length, Option, Some, None, refl, ap, sym, ◌∙◌}
use Rattle.std.proofs.Common.{subst, append_assoc, append-nil, arith}
use Rattle.std.proofs.lemmas.Bool.{eq-eqb}
use Rattle.w4_defs.specs.declared.operation.Op.{Op}
use Rattle.w4_defs.specs.declared.operation.Op.TheVariants.{Block, Loop, If, Else, End}
use Rattle.w4_defs.specs.BinaryText.{Texts, ◌then◌, byte, items}
use Rattle.w4_defs.specs.BinaryType.{block_type}
use Rattle.w4_defs.specs.BinaryInstruction.{list}
use Rattle.w4_defs.specs.Tree.{Mark, mark, Expr, done, plain, block, loop, if_then, if_else, span, flat_at}
use Rattle.w4_defs.specs.Flattening.{IsLeaf, IsProper}
use Rattle.w4_defs.specs.Reading.{◌>>=◌}
use Rattle.w4_defs.proofs.OptionLaws.{bind_some}
use Rattle.wasm_read.specs.declared.brackets.Close.{Close}
use Rattle.wasm_read.specs.declared.brackets.Close.TheVariants.{Ends, Parts}
use Rattle.wasm_read.specs.Reader.{Takes}
use Rattle.wasm_read.specs.ReadExpression.{mark_at, depth_after, marks_at, mark_with_positions}
use Rattle.wasm_read.specs.ReadExpression.{marks_with_positions}
use Rattle.wasm_read.proofs.Basics.{split_if, takes_as_read, numbers_differ_tested}
use Rattle.wasm_read.proofs.MarkLaws.{mark_texts, mark_encoding, instruction_mark, instruction_leaf}
use Rattle.wasm_read.proofs.MarkLaws.{mark_reads}

abbrev pub raw : Op → Expr → List Mark
raw close done = mark close ∷ []
raw close (plain m rest) = m ∷ raw close rest
raw close (block r inner rest) = mark (Block r 0) ∷ (raw End inner ++ raw close rest)
raw close (loop r inner rest) = mark (Loop r 0) ∷ (raw End inner ++ raw close rest)
raw close (if_then r taken rest) = mark (If r None 0) ∷ (raw End taken ++ raw close rest)
raw close (if_else r taken other rest) =
    mark (If r None 0) ∷ (raw Else taken ++ (raw End other ++ raw close rest))

-- a list of instructions has no brackets among its plain ones
pub list_proper : (k : ℕ) (e : Expr) (text : List ℕ) → list k e text → IsProper e
list_proper k done text h = tt
list_proper k (plain m rest) text h = (instruction_leaf m.0 m.1 h.0 h.3, list_proper k rest h.1 h.4)
list_proper k (block r inner rest) text h =
    let t = h.4.4 in
    (list_proper 0x0b inner t.0 t.3, list_proper k rest t.1 t.4)
list_proper k (loop r inner rest) text h =
    let t = h.4.4 in
    (list_proper 0x0b inner t.0 t.3, list_proper k rest t.1 t.4)
list_proper k (if_then r taken rest) text h =
    let t = h.4.4 in
    (list_proper 0x0b taken t.0 t.3, list_proper k rest t.1 t.4)
list_proper k (if_else r taken other rest) text h =
    let t = h.4.4 in
    let u = t.4 in
    (list_proper 0x05 taken t.0 t.3, list_proper 0x0b other u.0 u.3, list_proper k rest u.1 u.4)

items_joined : (xs ys : List Mark) (a b : List ℕ) → items mark_encoding xs a → items mark_encoding ys b
    → items mark_encoding (xs ++ ys) (a ++ b)
items_joined [] ys a b h k =
    let P : List ℕ → Type 0 = λ t. items mark_encoding ys (t ++ b) in
    subst P (sym h) k
items_joined (x ∷ xs) ys a b h k =
    (h.0, h.1 ++ b, ap (λ t. t ++ b) h.2 ∙ append_assoc h.0 h.1 b, h.3, items_joined xs ys h.1 b h.4 k)

-- a mark that opens a list, and the marks after it
opened_items : (x : Op) (code : ℕ) (P Q : Texts) (others : List Mark)
    → ((t : List ℕ) → (byte code then P) t → mark_texts x [] t)
    → ((t : List ℕ) → Q t → items mark_encoding others t) → (text : List ℕ) → (byte code then P then Q) text
    → items mark_encoding (mark x ∷ others) text
opened_items x code P Q others spelled next text h =
    let t = h.4 in (
      h.0 ++ t.0,
      t.1,
      h.2 ∙ ap (λ u. h.0 ++ u) t.2 ∙ sym (append_assoc h.0 t.0 t.1),
      spelled (h.0 ++ t.0) (h.0, t.0, refl, h.3, t.3),
      next t.1 t.4,
    )

two_joined : (P Q : Texts) (xs ys : List Mark) → ((t : List ℕ) → P t → items mark_encoding xs t)
    → ((t : List ℕ) → Q t → items mark_encoding ys t)
    → (text : List ℕ) → (P then Q) text → items mark_encoding (xs ++ ys) text
two_joined P Q xs ys p q text h =
    let R : List ℕ → Type 0 = λ t. items mark_encoding (xs ++ ys) t in
    subst R (sym h.2) (items_joined xs ys h.0 h.1 (p h.0 h.3) (q h.1 h.4))

pub end_spelled : (t : List ℕ) → byte 0x0b t → mark_texts End [] t
end_spelled t h = (refl, h)

else_spelled : (t : List ℕ) → byte 0x05 t → mark_texts Else [] t
else_spelled t h = (refl, h)

-- a text of the tree is one of its marks
pub raw_spelled : (k : ℕ) (close : Op) → ((t : List ℕ) → byte k t → mark_texts close [] t)
    → (e : Expr) (text : List ℕ) → list k e text → items mark_encoding (raw close e) text
raw_spelled k close c done text h = (text, [], sym (append-nil text), c text h, refl)
raw_spelled k close c (plain m rest) text h =
    (h.0, h.1, h.2, instruction_mark m.0 m.1 h.0 h.3, raw_spelled k close c rest h.1 h.4)
raw_spelled k close c (block r inner rest) text h =
    opened_items (Block r 0) 0x02 (block_type r) (list 0x0b inner then list k rest)
    (raw End inner ++ raw close rest) (λ t p. ((refl, refl), p))
    (two_joined (list 0x0b inner) (list k rest) (raw End inner) (raw close rest)
    (raw_spelled 0x0b End end_spelled inner) (raw_spelled k close c rest)) text h
raw_spelled k close c (loop r inner rest) text h =
    opened_items (Loop r 0) 0x03 (block_type r) (list 0x0b inner then list k rest)
    (raw End inner ++ raw close rest) (λ t p. ((refl, refl), p))
    (two_joined (list 0x0b inner) (list k rest) (raw End inner) (raw close rest)
    (raw_spelled 0x0b End end_spelled inner) (raw_spelled k close c rest)) text h
raw_spelled k close c (if_then r taken rest) text h =
    opened_items (If r None 0) 0x04 (block_type r) (list 0x0b taken then list k rest)
    (raw End taken ++ raw close rest) (λ t p. ((refl, refl, refl), p))
    (two_joined (list 0x0b taken) (list k rest) (raw End taken) (raw close rest)
    (raw_spelled 0x0b End end_spelled taken) (raw_spelled k close c rest)) text h
raw_spelled k close c (if_else r taken other rest) text h =
    opened_items (If r None 0) 0x04 (block_type r) (list 0x05 taken then list 0x0b other then list k rest)
    (raw Else taken ++ (raw End other ++ raw close rest)) (λ t p. ((refl, refl, refl), p))
    (two_joined (list 0x05 taken) (list 0x0b other then list k rest) (raw Else taken)
    (raw End other ++ raw close rest) (raw_spelled 0x05 Else else_spelled taken)
    (two_joined (list 0x0b other) (list k rest) (raw End other) (raw close rest)
    (raw_spelled 0x0b End end_spelled other) (raw_spelled k close c rest))) text h

-- these marks leave no list open just at their end
abbrev Walks : ℕ → List Mark → Type 0
Walks depth [] = ⊥
Walks depth (m ∷ ms) =
    ((depth_after m.0 depth ≡ 0) × (ms ≡ []))
    ⊎ ((depth_after m.0 depth ≢ 0) × Walks (depth_after m.0 depth) ms)

leaf_depth : (op : Op) (depth : ℕ) → IsLeaf op → depth_after op depth ≡ depth
leaf_depth (Block r end) depth h = absurd h
leaf_depth (Loop r end) depth h = absurd h
leaf_depth (If r other end) depth h = absurd h
leaf_depth Else depth h = absurd h
leaf_depth End depth h = absurd h
leaf_depth op depth h = refl

walks_at : (k n : ℕ) (ms : List Mark) → k ≡ n → Walks n ms → Walks k ms
walks_at k n ms e w =
    let P : ℕ → Type 0 = λ d. Walks d ms in
    subst P (sym e) w

walk_regrouped : (depth : ℕ) (a b c : List Mark) → Walks depth (a ++ (b ++ c)) → Walks depth ((a ++ b) ++ c)
walk_regrouped depth a b c w =
    let P : List Mark → Type 0 = λ ms. Walks depth ms in
    subst P (sym (append_assoc a b c)) w

-- after a list in another one
end_walks : (depth : ℕ) (others : List Mark) → Walks (depth + 1) others
    → Walks (depth + 1 + 1) (mark End ∷ others)
end_walks depth others w =
    let same : depth + 1 + 1 - 1 ≡ depth + 1 = omega arith in
    inr (omega arith, walks_at (depth + 1 + 1 - 1) (depth + 1) others same w)

else_walks : (depth : ℕ) (others : List Mark) → Walks (depth + 1 + 1) others
    → Walks (depth + 1 + 1) (mark Else ∷ others)
else_walks depth others w = inr (omega arith, w)

walks : (close : Op) (depth : ℕ) (more : List Mark) → Walks (depth + 1) (mark close ∷ more) → (e : Expr)
    → IsProper e → Walks (depth + 1) (raw close e ++ more)
walks close depth more base done h = base
walks close depth more base (plain m rest) h =
    let same = leaf_depth m.0 (depth + 1) h.0 in
    inr (
      omega (arith, same),
      walks_at (depth_after m.0 (depth + 1)) (depth + 1) (raw close rest ++ more)
          same (walks close depth more base rest h.1),
    )
walks close depth more base (block r inner rest) h =
    let others : List Mark = raw close rest ++ more in
    inr (
      omega arith,
      walk_regrouped (depth + 1 + 1) (raw End inner) (raw close rest) more
          (walks End (depth + 1) others (end_walks depth others (walks close depth more base rest h.1))
          inner h.0),
    )
walks close depth more base (loop r inner rest) h =
    let others : List Mark = raw close rest ++ more in
    inr (
      omega arith,
      walk_regrouped (depth + 1 + 1) (raw End inner) (raw close rest) more
          (walks End (depth + 1) others (end_walks depth others (walks close depth more base rest h.1))
          inner h.0),
    )
walks close depth more base (if_then r inner rest) h =
    let others : List Mark = raw close rest ++ more in
    inr (
      omega arith,
      walk_regrouped (depth + 1 + 1) (raw End inner) (raw close rest) more
          (walks End (depth + 1) others (end_walks depth others (walks close depth more base rest h.1))
          inner h.0),
    )
walks close depth more base (if_else r taken other rest) h =
    let last : List Mark = raw close rest ++ more in
    let others : List Mark = (raw End other ++ raw close rest) ++ more in
    let second = walk_regrouped (depth + 1 + 1) (raw End other) (raw close rest) more
    (walks End (depth + 1) last (end_walks depth last (walks close depth more base rest h.2)) other
    h.1) in
    inr (
      omega arith,
      walk_regrouped (depth + 1 + 1) (raw Else taken) (raw End other ++ raw close rest) more
          (walks Else (depth + 1) others (else_walks depth others second) taken h.0),
    )

pub whole_walks : (e : Expr) → IsProper e → Walks 1 (raw End e)
whole_walks e h =
    let P : List Mark → Type 0 = λ ms. Walks 1 ms in
    subst P (append-nil (raw End e)) (walks End 0 [] (inl (refl, refl)) e h)

abbrev only_as : Mark → List ℕ → Option (List Mark × List ℕ)
only_as m rest = Some (m ∷ [], rest)

abbrev all_as : Mark → List Mark → List ℕ → Option (List Mark × List ℕ)
all_as m ms rest = Some (m ∷ ms, rest)

abbrev all_read : List Mark → List ℕ → Option (List Mark × List ℕ)
all_read ms rest = Some (ms, rest)

-- the first pass reads them
pub marks_found : (turns depth : ℕ) (ms : List Mark) (text rest : List ℕ) → items mark_encoding ms text
    → Walks depth ms → length ms ≤ turns
    → marks_at turns depth (text ++ rest) ≡ Some (ms, rest)
marks_found zero depth [] text rest h w few = absurd w
marks_found (suc turns) depth [] text rest h w few = absurd w
marks_found zero depth (m ∷ ms) text rest h w few = absurd (omega arith)
marks_found (suc turns) depth (m ∷ ms) text rest h (inl (zero_left, none)) few =
    let e = mark_reads.complete h.0 (h.1 ++ rest) m h.3 in
    let test : eqb (depth_after m.0 depth) 0 ≡ true = eq-eqb (depth_after m.0 depth) 0 zero_left in
    let P : List Mark → Type 0 = λ xs. items mark_encoding xs h.1 in
    let empty : h.1 ≡ [] = subst P none h.4 in
    ap (marks_at (suc turns) depth) (ap (λ t. t ++ rest) h.2 ∙ append_assoc h.0 h.1 rest)
    ∙ (rw (e, test) (ap (λ t. only_as m (t ++ rest)) empty ∙ ap (λ xs. all_as m xs rest) (sym none)))
marks_found (suc turns) depth (m ∷ ms) text rest h (inr (open_left, w)) few =
    let e = mark_reads.complete h.0 (h.1 ++ rest) m h.3 in
    let test : eqb (depth_after m.0 depth) 0 ≡ false =
    numbers_differ_tested (depth_after m.0 depth) 0 open_left in
    let others = marks_found turns (depth_after m.0 depth) ms h.1 rest h.4 w (omega arith) in
    ap (marks_at (suc turns) depth) (ap (λ t. t ++ rest) h.2 ∙ append_assoc h.0 h.1 rest)
    ∙ (rw (e, test, others) refl)

-- what the first pass reads is encoded
pub marks_sound : (turns depth : ℕ) (bytes : List ℕ) (ms : List Mark) (rest : List ℕ)
    → marks_at turns depth bytes ≡ Some (ms, rest) → Takes (items mark_encoding) bytes ms rest
marks_sound zero depth bytes ms rest e = absurd cc
marks_sound (suc turns) depth bytes ms rest e =
    let x = bind_some (mark_at bytes)
    (λ (x : Mark × List ℕ). if eqb (depth_after x.0.0 depth) 0 then only_as x.0 x.1
    else (marks_at turns (depth_after x.0.0 depth) x.1 >>= λ y. all_as x.0 y.0 y.1)) (ms, rest) e in
    let front = mark_reads.sound bytes x.0.0 x.0.1 x.1 in
    elim (split_if (eqb (depth_after x.0.0.0 depth) 0) (only_as x.0.0 x.0.1)
    (marks_at turns (depth_after x.0.0.0 depth) x.0.1 >>= λ y. all_as x.0.0 y.0 y.1)
    (all_read ms rest) x.2) [
      | inl h ↦ takes_as_read (items mark_encoding) bytes (x.0.0 ∷ []) ms x.0.1 rest
          (front.0, front.1, (front.0, [], sym (append-nil front.0), front.2, refl)) h.1
      | inr h ↦
          let y = bind_some (marks_at turns (depth_after x.0.0.0 depth) x.0.1)
          (λ (y : List Mark × List ℕ). all_as x.0.0 y.0 y.1) (ms, rest) h.1 in
          let others = marks_sound turns (depth_after x.0.0.0 depth) x.0.1 y.0.0 y.0.1 y.1 in
          takes_as_read (items mark_encoding) bytes (x.0.0 ∷ y.0.0) ms y.0.1 rest (
            front.0 ++ others.0,
            front.1 ∙ ap (λ m. front.0 ++ m) others.1
                ∙ sym (append_assoc front.0 others.0 y.0.1),
            (front.0, others.0, refl, front.2, others.2),
          )
          y.2
    ]

-- the second pass
leaf_placed : (at : ℕ) (op : Op) (c : Close) (cs : List Close) → IsLeaf op
    → mark_with_positions at op (c ∷ cs) ≡ Some (op, c ∷ cs)
leaf_placed at (Block r end) c cs h = absurd h
leaf_placed at (Loop r end) c cs h = absurd h
leaf_placed at (If r other end) c cs h = absurd h
leaf_placed at Else c cs h = absurd h
leaf_placed at End c cs h = absurd h
leaf_placed at op c cs h = refl

abbrev pub filled_as : List Mark → List Close → Option (List Mark × List Close)
filled_as ms cs = Some (ms, cs)

abbrev Closing : Op → (ℕ → Close) → Type 0
Closing close closing = (at : ℕ) (cs : List Close)
    → mark_with_positions at close cs ≡ Some (close, closing at ∷ cs)

pub filled_raw : (close : Op) (closing : ℕ → Close) → Closing close closing → (e : Expr) → IsProper e
    → (at n k : ℕ) → n ≡ at + span e + 1 → k ≡ at + span e
    → (more : List Mark) (after : List Mark) (cs : List Close)
    → marks_with_positions n more ≡ filled_as after cs
    → marks_with_positions at (raw close e ++ more) ≡ filled_as (flat_at close at e ++ after) (closing k ∷ cs)
filled_raw close closing c done h at n k en ek more after cs f =
    let same : at + 1 ≡ n = omega arith in
    let there : at ≡ k = omega arith in
    let e : marks_with_positions (at + 1) more ≡ filled_as after cs =
    ap (λ i. marks_with_positions i more) same ∙ f in
    let p = c at cs in
    (rw (e, p) refl) ∙ ap (λ i. filled_as (mark close ∷ after) (closing i ∷ cs)) there
filled_raw close closing c (plain m rest) h at n k en ek more after cs f =
    let e = filled_raw close closing c rest h.1 (at + 1) n k (omega arith) (omega arith) more after cs f in
    let p = leaf_placed at m.0 (closing k) cs h.0 in
    rw (e, p) refl
filled_raw close closing c (block r inner rest) h at n k en ek more after cs f =
    let end : ℕ = at + 1 + span inner in
    let back : List Mark = flat_at close (end + 1) rest in
    let front : List Mark = flat_at End (at + 1) inner in
    let last = filled_raw close closing c rest h.1 (end + 1) n k (omega arith) (omega arith) more after cs f
    in
    let first = filled_raw End Ends (λ i ds. refl) inner h.0 (at + 1) (end + 1) end refl refl
    (raw close rest ++ more) (back ++ after) (closing k ∷ cs) last in
    ap (λ ms. marks_with_positions at (mark (Block r 0) ∷ ms))
    (append_assoc (raw End inner) (raw close rest) more)
    ∙ (rw first refl)
    ∙ ap (λ ms. filled_as (mark (Block r end) ∷ ms) (closing k ∷ cs)) (sym (append_assoc front back after))
filled_raw close closing c (loop r inner rest) h at n k en ek more after cs f =
    let end : ℕ = at + 1 + span inner in
    let back : List Mark = flat_at close (end + 1) rest in
    let front : List Mark = flat_at End (at + 1) inner in
    let last = filled_raw close closing c rest h.1 (end + 1) n k (omega arith) (omega arith) more after cs f
    in
    let first = filled_raw End Ends (λ i ds. refl) inner h.0 (at + 1) (end + 1) end refl refl
    (raw close rest ++ more) (back ++ after) (closing k ∷ cs) last in
    ap (λ ms. marks_with_positions at (mark (Loop r 0) ∷ ms))
    (append_assoc (raw End inner) (raw close rest) more)
    ∙ (rw first refl)
    ∙ ap (λ ms. filled_as (mark (Loop r end) ∷ ms) (closing k ∷ cs)) (sym (append_assoc front back after))
filled_raw close closing c (if_then r inner rest) h at n k en ek more after cs f =
    let end : ℕ = at + 1 + span inner in
    let back : List Mark = flat_at close (end + 1) rest in
    let front : List Mark = flat_at End (at + 1) inner in
    let last = filled_raw close closing c rest h.1 (end + 1) n k (omega arith) (omega arith) more after cs f
    in
    let first = filled_raw End Ends (λ i ds. refl) inner h.0 (at + 1) (end + 1) end refl refl
    (raw close rest ++ more) (back ++ after) (closing k ∷ cs) last in
    ap (λ ms. marks_with_positions at (mark (If r None 0) ∷ ms))
    (append_assoc (raw End inner) (raw close rest) more)
    ∙ (rw first refl)
    ∙ ap (λ ms. filled_as (mark (If r None end) ∷ ms) (closing k ∷ cs)) (sym (append_assoc front back after))
filled_raw close closing c (if_else r taken other rest) h at n k en ek more after cs f =
    let middle : ℕ = at + 1 + span taken in
    let end : ℕ = middle + 1 + span other in
    let back : List Mark = flat_at close (end + 1) rest in
    let second : List Mark = flat_at End (middle + 1) other in
    let front : List Mark = flat_at Else (at + 1) taken in
    let last = filled_raw close closing c rest h.2 (end + 1) n k (omega arith) (omega arith) more after cs f
    in
    let mid = filled_raw End Ends (λ i ds. refl) other h.1 (middle + 1) (end + 1) end refl refl
    (raw close rest ++ more) (back ++ after) (closing k ∷ cs) last in
    let first = filled_raw Else Parts (λ i ds. refl) taken h.0 (at + 1) (middle + 1) middle refl refl
    (raw End other ++ (raw close rest ++ more)) (second ++ (back ++ after))
    (Ends end ∷ closing k ∷ cs) mid in
    ap (λ ms. marks_with_positions at (mark (If r None 0) ∷ ms))
    (append_assoc (raw Else taken) (raw End other ++ raw close rest) more
    ∙ ap (λ ms. raw Else taken ++ ms) (append_assoc (raw End other) (raw close rest) more))
    ∙ (rw first refl)
    ∙ ap (λ ms. filled_as (mark (If r (Some middle) end) ∷ ms) (closing k ∷ cs))
    (ap (λ ms. front ++ ms) (sym (append_assoc second back after))
    ∙ sym (append_assoc front (second ++ back) after)
    ∙ ap (λ ms. ms ++ after) (sym (append_assoc front second back)))
