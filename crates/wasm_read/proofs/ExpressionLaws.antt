-- What the second pass makes of marks are the flattenings of trees that the bytes encode.
use Rattle.std.proofs.Common.{◌≡◌, ℕ, ◌+◌, ◌≤◌, true, if◌then◌else◌, List, [], ◌∷◌, ◌++◌, length, Option}
use Rattle.std.proofs.Common.{Some, None, refl, ap, sym, ◌∙◌, subst, append_assoc, append-nil, arith}
use Rattle.std.proofs.lemmas.List.{length-append}
use Rattle.w4_defs.specs.declared.value.ValType.{ValType}
use Rattle.w4_defs.specs.declared.operation.Op.{Op}
use Rattle.w4_defs.specs.declared.operation.Op.TheVariants.{Block, Loop, If, Else, End}
use Rattle.w4_defs.specs.BinaryText.{Texts, ◌then◌, byte, items}
use Rattle.w4_defs.specs.BinaryType.{block_type}
use Rattle.w4_defs.specs.BinaryInstruction.{instruction, list, expression}
use Rattle.w4_defs.specs.Tree.{Mark, mark, Expr, done, plain, block, loop, if_then, if_else, span, flat_at}
use Rattle.w4_defs.specs.Tree.{flat}
use Rattle.w4_defs.specs.Flattening.{read_flat}
use Rattle.w4_defs.specs.Reading.{◌>>=◌}
use Rattle.w4_defs.proofs.ReadBack.{flattening_read_back}
use Rattle.w4_defs.proofs.OptionLaws.{bind_some, held_if}
use Rattle.wasm_tree.specs.Expressions.{IsFlat}
use Rattle.wasm_read.specs.declared.brackets.Close.{Close}
use Rattle.wasm_read.specs.declared.brackets.Close.TheVariants.{Ends, Parts}
use Rattle.wasm_read.specs.Reader.{read_as, Reads}
use Rattle.wasm_read.specs.ReadExpression.{marks_at, mark_with_positions, marks_with_positions, is_one_end}
use Rattle.wasm_read.specs.ReadExpression.{matched, flattening_at, expression_at}
use Rattle.wasm_read.proofs.Basics.{takes_as_read}
use Rattle.wasm_read.proofs.MarkLaws.{mark_texts, mark_encoding, marks_long}
use Rattle.wasm_read.proofs.Passes.{filled_as, raw, list_proper, raw_spelled, end_spelled, whole_walks}
use Rattle.wasm_read.proofs.Passes.{marks_found, marks_sound, filled_raw}

abbrev position_of : Close → ℕ
position_of (Ends position) = position
position_of (Parts position) = position

abbrev close_byte : Close → ℕ
close_byte (Ends position) = 0x0b
close_byte (Parts position) = 0x05

abbrev op_of : Close → Op
op_of (Ends position) = End
op_of (Parts position) = Else

-- the text encodes the lists that these close, one after the other, and the marks are their flattenings
abbrev Forest : ℕ → List Close → List ℕ → List Mark → Type 0
Forest at [] text ms = (text ≡ []) × (ms ≡ [])
Forest at (c ∷ cs) text ms =
    (e : Expr) × (next : ℕ) × (a b : List ℕ) × (more : List Mark) × (next ≡ at + span e + 1)
    × (next ≡ position_of c + 1)
    × (text ≡ a ++ b) × list (close_byte c) e a × (ms ≡ flat_at (op_of c) at e ++ more)
    × Forest next cs b more

abbrev pub placed_as : Op → List Close → Option (Op × List Close)
placed_as op cs = Some (op, cs)

forest_moved : (at : ℕ) (text : List ℕ) (labels : List ℕ) (ms : List Mark) (x y : Op) (cs ds : List Close)
    → placed_as x cs ≡ placed_as y ds → Forest at cs text ((x, labels) ∷ ms)
    → Forest at ds text ((y, labels) ∷ ms)
forest_moved at text labels ms x y cs ds e f =
    let first : x ≡ y = ap (λ o. elim o [ Some p ↦ p.0 | None ↦ x ]) e in
    let second : cs ≡ ds = ap (λ o. elim o [ Some p ↦ p.1 | None ↦ cs ]) e in
    let P : Op → Type 0 = λ o. Forest at cs text ((o, labels) ∷ ms) in
    let Q : List Close → Type 0 = λ c. Forest at c text ((y, labels) ∷ ms) in
    subst Q second (subst P first f)

labels_moved : (at : ℕ) (text : List ℕ) (op : Op) (labels : List ℕ) (cs : List Close) (ms : List Mark)
    → labels ≡ []
    → Forest at cs text (mark op ∷ ms) → Forest at cs text ((op, labels) ∷ ms)
labels_moved at text op labels cs ms none f =
    let P : List ℕ → Type 0 = λ ls. Forest at cs text ((op, ls) ∷ ms) in
    subst P (sym none) f

-- a closing mark begins a list
grow_done : (at : ℕ) (c : Close) → position_of c ≡ at → (cs : List Close) (a b : List ℕ) (ms : List Mark)
    → a ≡ close_byte c ∷ [] → Forest (at + 1) cs b ms
    → Forest at (c ∷ cs) (a ++ b) (mark (op_of c) ∷ ms)
grow_done at c e cs a b ms h f = (done, at + 1, a, b, ms, omega arith, omega (arith, e), refl, h, refl, f)

grow_plain : (at : ℕ) (m : Mark) (c : Close) (cs : List Close) (a b : List ℕ) (ms : List Mark)
    → instruction m a → Forest (at + 1) (c ∷ cs) b ms
    → Forest at (c ∷ cs) (a ++ b) (m ∷ ms)
grow_plain at m c cs a b ms h (e, next, a1, b1, more, e1, e2, t, l, f, tail) = (
  plain m e,
  next,
  a ++ a1,
  b1,
  more,
  omega arith,
  e2,
  ap (λ x. a ++ x) t ∙ sym (append_assoc a a1 b1),
  (a, a1, refl, h, l),
  ap (λ x. m ∷ x) f,
  tail,
)

-- a mark that opens a list takes the two trees that stand next
grow_text : (code : ℕ) (r : Option ValType) (a b a1 b1 a2 b2 : List ℕ) (P Q : Texts)
    → (byte code then block_type r) a → b ≡ a1 ++ b1 → b1 ≡ a2 ++ b2 → P a1 → Q a2
    → (text : List ℕ) × (a ++ b ≡ text ++ b2) × (byte code then block_type r then P then Q) text
grow_text code r a b a1 b1 a2 b2 P Q h t1 t2 p q =
    let inside : List ℕ = a1 ++ a2 in (
      a ++ inside,
      ap (λ x. a ++ x) (t1 ∙ ap (λ x. a1 ++ x) t2 ∙ sym (append_assoc a1 a2 b2))
          ∙ sym (append_assoc a inside b2),
      (
        h.0,
        h.1 ++ inside,
        ap (λ x. x ++ inside) h.2 ∙ append_assoc h.0 h.1 inside,
        h.3,
        (h.1, inside, refl, h.4, (a1, a2, refl, p, q)),
      ),
    )

flat_block : (r : Option ValType) (close : Op) (at end k : ℕ) (inner rest : Expr) (ms more more1 : List Mark)
    → end ≡ at + 1 + span inner → k ≡ end
    → ms ≡ flat_at End (at + 1) inner ++ more1 → more1 ≡ flat_at close (end + 1) rest ++ more
    → mark (Block r k) ∷ ms ≡ flat_at close at (block r inner rest) ++ more
flat_block r close at end k inner rest ms more more1 e ek f1 f2 =
    let position : ℕ = at + 1 + span inner in
    let same : k ≡ position = ek ∙ e in
    let front : List Mark = flat_at End (at + 1) inner in
    let back : List Mark = flat_at close (position + 1) rest in
    let tail : more1 ≡ back ++ more = f2 ∙ ap (λ n. flat_at close (n + 1) rest ++ more) e in
    ap (λ n. mark (Block r n) ∷ ms) same
    ∙ ap (λ x. mark (Block r position) ∷ x) (f1 ∙ ap (λ x. front ++ x) tail
    ∙ sym (append_assoc front back more))

grow_block : (at : ℕ) (r : Option ValType) (k : ℕ) (c : Close) (cs : List Close) (a b : List ℕ)
    (ms : List Mark) → (byte 2 then block_type r) a
    → Forest (at + 1) (Ends k ∷ (c ∷ cs)) b ms → Forest at (c ∷ cs) (a ++ b) (mark (Block r k) ∷ ms)
grow_block at r k c cs a b ms h
    (inner, n1, a1, b1, m1, e1, e2, t1, l1, f1, (rest, n2, a2, b2, m2, g1, g2, t2, l2, f2, tail)) =
    let t = grow_text 2 r a b a1 b1 a2 b2 (list 0x0b inner) (list (close_byte c) rest) h t1 t2 l1 l2 in
    let end : ℕ = at + 1 + span inner in
    let same : k ≡ end = omega arith in
    let there : n1 ≡ end + 1 = omega arith in
    let second : m1 ≡ flat_at (op_of c) (end + 1) rest ++ m2 =
    f2 ∙ ap (λ n. flat_at (op_of c) n rest ++ m2) there in (
      block r inner rest,
      n2,
      t.0,
      b2,
      m2,
      omega arith,
      g2,
      t.1,
      t.2,
      flat_block r (op_of c) at end k inner
          rest ms m2 m1 refl same f1 second,
      tail,
    )

flat_loop : (r : Option ValType) (close : Op) (at end k : ℕ) (inner rest : Expr) (ms more more1 : List Mark)
    → end ≡ at + 1 + span inner → k ≡ end
    → ms ≡ flat_at End (at + 1) inner ++ more1 → more1 ≡ flat_at close (end + 1) rest ++ more
    → mark (Loop r k) ∷ ms ≡ flat_at close at (loop r inner rest) ++ more
flat_loop r close at end k inner rest ms more more1 e ek f1 f2 =
    let position : ℕ = at + 1 + span inner in
    let same : k ≡ position = ek ∙ e in
    let front : List Mark = flat_at End (at + 1) inner in
    let back : List Mark = flat_at close (position + 1) rest in
    let tail : more1 ≡ back ++ more = f2 ∙ ap (λ n. flat_at close (n + 1) rest ++ more) e in
    ap (λ n. mark (Loop r n) ∷ ms) same
    ∙ ap (λ x. mark (Loop r position) ∷ x) (f1 ∙ ap (λ x. front ++ x) tail
    ∙ sym (append_assoc front back more))

grow_loop : (at : ℕ) (r : Option ValType) (k : ℕ) (c : Close) (cs : List Close) (a b : List ℕ)
    (ms : List Mark) → (byte 3 then block_type r) a
    → Forest (at + 1) (Ends k ∷ (c ∷ cs)) b ms → Forest at (c ∷ cs) (a ++ b) (mark (Loop r k) ∷ ms)
grow_loop at r k c cs a b ms h
    (inner, n1, a1, b1, m1, e1, e2, t1, l1, f1, (rest, n2, a2, b2, m2, g1, g2, t2, l2, f2, tail)) =
    let t = grow_text 3 r a b a1 b1 a2 b2 (list 0x0b inner) (list (close_byte c) rest) h t1 t2 l1 l2 in
    let end : ℕ = at + 1 + span inner in
    let same : k ≡ end = omega arith in
    let there : n1 ≡ end + 1 = omega arith in
    let second : m1 ≡ flat_at (op_of c) (end + 1) rest ++ m2 =
    f2 ∙ ap (λ n. flat_at (op_of c) n rest ++ m2) there in (
      loop r inner rest,
      n2,
      t.0,
      b2,
      m2,
      omega arith,
      g2,
      t.1,
      t.2,
      flat_loop r (op_of c) at end k inner rest
          ms m2 m1 refl same f1 second,
      tail,
    )

flat_if_then : (r : Option ValType) (close : Op) (at end k : ℕ) (inner rest : Expr)
    (ms more more1 : List Mark) → end ≡ at + 1 + span inner → k ≡ end
    → ms ≡ flat_at End (at + 1) inner ++ more1 → more1 ≡ flat_at close (end + 1) rest ++ more
    → mark (If r None k) ∷ ms ≡ flat_at close at (if_then r inner rest) ++ more
flat_if_then r close at end k inner rest ms more more1 e ek f1 f2 =
    let position : ℕ = at + 1 + span inner in
    let same : k ≡ position = ek ∙ e in
    let front : List Mark = flat_at End (at + 1) inner in
    let back : List Mark = flat_at close (position + 1) rest in
    let tail : more1 ≡ back ++ more = f2 ∙ ap (λ n. flat_at close (n + 1) rest ++ more) e in
    ap (λ n. mark (If r None n) ∷ ms) same
    ∙ ap (λ x. mark (If r None position) ∷ x)
    (f1 ∙ ap (λ x. front ++ x) tail ∙ sym (append_assoc front back more))

grow_if_then : (at : ℕ) (r : Option ValType) (k : ℕ) (c : Close) (cs : List Close) (a b : List ℕ)
    (ms : List Mark) → (byte 4 then block_type r) a
    → Forest (at + 1) (Ends k ∷ (c ∷ cs)) b ms → Forest at (c ∷ cs) (a ++ b) (mark (If r None k) ∷ ms)
grow_if_then at r k c cs a b ms h
    (inner, n1, a1, b1, m1, e1, e2, t1, l1, f1, (rest, n2, a2, b2, m2, g1, g2, t2, l2, f2, tail)) =
    let t = grow_text 4 r a b a1 b1 a2 b2 (list 0x0b inner) (list (close_byte c) rest) h t1 t2 l1 l2 in
    let end : ℕ = at + 1 + span inner in
    let same : k ≡ end = omega arith in
    let there : n1 ≡ end + 1 = omega arith in
    let second : m1 ≡ flat_at (op_of c) (end + 1) rest ++ m2 =
    f2 ∙ ap (λ n. flat_at (op_of c) n rest ++ m2) there in (
      if_then r inner rest,
      n2,
      t.0,
      b2,
      m2,
      omega arith,
      g2,
      t.1,
      t.2,
      flat_if_then r (op_of c) at end k inner rest ms m2 m1 refl same f1 second,
      tail,
    )

grow_text3 : (r : Option ValType) (a b a1 b1 a2 b2 a3 b3 : List ℕ) (P Q R : Texts)
    → (byte 4 then block_type r) a → b ≡ a1 ++ b1 → b1 ≡ a2 ++ b2 → b2 ≡ a3 ++ b3 → P a1 → Q a2 → R a3
    → (text : List ℕ) × (a ++ b ≡ text ++ b3) × (byte 4 then block_type r then P then Q then R) text
grow_text3 r a b a1 b1 a2 b2 a3 b3 P Q R h t1 t2 t3 p q s =
    grow_text 4 r a b a1 b1 (a2 ++ a3) b3 P (Q then R) h t1
    (t2 ∙ ap (λ x. a2 ++ x) t3 ∙ sym (append_assoc a2 a3 b3)) p (a2, a3, refl, q, s)

flat_else : (r : Option ValType) (close : Op) (at middle end j k : ℕ) (taken other rest : Expr)
    (ms more more1 more2 : List Mark) → middle ≡ at + 1 + span taken → end ≡ middle + 1 + span other
    → j ≡ middle → k ≡ end → ms ≡ flat_at Else (at + 1) taken ++ more1
    → more1 ≡ flat_at End (middle + 1) other ++ more2 → more2 ≡ flat_at close (end + 1) rest ++ more
    → mark (If r (Some j) k) ∷ ms ≡ flat_at close at (if_else r taken other rest) ++ more
flat_else r close at middle end j k taken other rest ms more more1 more2 em ee ej ek f1 f2 f3 =
    let first : ℕ = at + 1 + span taken in
    let last : ℕ = first + 1 + span other in
    let last_same : end ≡ last = omega arith in
    let front : List Mark = flat_at Else (at + 1) taken in
    let mid : List Mark = flat_at End (first + 1) other in
    let back : List Mark = flat_at close (last + 1) rest in
    let tail2 : more2 ≡ back ++ more = f3 ∙ ap (λ n. flat_at close (n + 1) rest ++ more) last_same in
    let tail1 : more1 ≡ mid ++ more2 = f2 ∙ ap (λ n. flat_at End (n + 1) other ++ more2) em in
    ap (λ n. mark (If r (Some n) k) ∷ ms) (ej ∙ em)
    ∙ ap (λ n. mark (If r (Some first) n) ∷ ms) (ek ∙ last_same)
    ∙ ap (λ x. mark (If r (Some first) last) ∷ x)
    (f1 ∙ ap (λ x. front ++ x) (tail1 ∙ ap (λ x. mid ++ x) tail2)
    ∙ sym (append_assoc front mid (back ++ more)) ∙ sym (append_assoc (front ++ mid) back more))

grow_else : (at : ℕ) (r : Option ValType) (j k : ℕ) (c : Close) (cs : List Close) (a b : List ℕ)
    (ms : List Mark) → (byte 4 then block_type r) a
    → Forest (at + 1) (Parts j ∷ (Ends k ∷ (c ∷ cs))) b ms
    → Forest at (c ∷ cs) (a ++ b) (mark (If r (Some j) k) ∷ ms)
grow_else at r j k c cs a b ms h (
  taken,
  n1,
  a1,
  b1,
  m1,
  e1,
  e2,
  t1,
  l1,
  f1,
  (other, n2, a2, b2, m2, g1, g2, t2, l2, f2, (rest, n3, a3, b3, m3, h1, h2, t3, l3, f3, tail)),
) =
    let t =
    grow_text3 r a b a1 b1 a2 b2 a3 b3 (list 0x05 taken) (list 0x0b other) (list (close_byte c) rest) h
    t1 t2 t3 l1 l2 l3 in
    let middle : ℕ = at + 1 + span taken in
    let end : ℕ = middle + 1 + span other in
    let j_same : j ≡ middle = omega arith in
    let k_same : k ≡ end = omega arith in
    let first : n1 ≡ middle + 1 = omega arith in
    let second : n2 ≡ end + 1 = omega arith in
    let f2' : m1 ≡ flat_at End (middle + 1) other ++ m2 = f2 ∙ ap (λ n. flat_at End n other ++ m2) first in
    let f3' : m2 ≡ flat_at (op_of c) (end + 1) rest ++ m3 =
    f3 ∙ ap (λ n. flat_at (op_of c) n rest ++ m3) second in (
      if_else r taken other rest,
      n3,
      t.0,
      b3,
      m3,
      omega arith,
      h2,
      t.1,
      t.2,
      flat_else r (op_of c) at middle end j k taken other rest ms m3 m1 m2 refl refl j_same k_same f1
          f2' f3',
      tail,
    )

-- one mark more, from the front
abbrev Grows : ℕ → Op → List ℕ → List Close → Op → List Close → List ℕ → List ℕ → List Mark → Type 0
Grows at op labels cs x ds a b ms =
    mark_texts op labels a → mark_with_positions at op cs ≡ placed_as x ds → Forest (at + 1) cs b ms
    → Forest at ds (a ++ b) ((x, labels) ∷ ms)

grow : (at : ℕ) (op : Op) (labels : List ℕ) (cs : List Close) (x : Op) (ds : List Close) (a b : List ℕ)
    (ms : List Mark) → Grows at op labels cs x ds a b ms
grow at End labels cs x ds a b ms h e f =
    forest_moved at (a ++ b) labels ms End x (Ends at ∷ cs) ds e
    (labels_moved at (a ++ b) End labels (Ends at ∷ cs) ms h.0
    (grow_done at (Ends at) refl cs a b ms h.1 f))
grow at Else labels cs x ds a b ms h e f =
    forest_moved at (a ++ b) labels ms Else x (Parts at ∷ cs) ds e
    (labels_moved at (a ++ b) Else labels (Parts at ∷ cs) ms h.0
    (grow_done at (Parts at) refl cs a b ms h.1 f))
grow at (Block r end) labels [] x ds a b ms h e f = absurd cc
grow at (Block r end) labels (Ends k ∷ []) x ds a b ms h e f = absurd cc
grow at (Block r end) labels (Ends k ∷ (c ∷ cs)) x ds a b ms h e f =
    forest_moved at (a ++ b) labels ms (Block r k) x (c ∷ cs) ds e
    (labels_moved at (a ++ b) (Block r k) labels (c ∷ cs) ms h.0.0
    (grow_block at r k c cs a b ms h.1 f))
grow at (Block r end) labels (Parts k ∷ cs) x ds a b ms h e f = absurd cc
grow at (Loop r end) labels [] x ds a b ms h e f = absurd cc
grow at (Loop r end) labels (Ends k ∷ []) x ds a b ms h e f = absurd cc
grow at (Loop r end) labels (Ends k ∷ (c ∷ cs)) x ds a b ms h e f =
    forest_moved at (a ++ b) labels ms (Loop r k) x (c ∷ cs) ds e
    (labels_moved at (a ++ b) (Loop r k) labels (c ∷ cs) ms h.0.0
    (grow_loop at r k c cs a b ms h.1 f))
grow at (Loop r end) labels (Parts k ∷ cs) x ds a b ms h e f = absurd cc
grow at (If r other end) labels [] x ds a b ms h e f = absurd cc
grow at (If r other end) labels (Ends k ∷ []) x ds a b ms h e f = absurd cc
grow at (If r other end) labels (Ends k ∷ (c ∷ cs)) x ds a b ms h e f =
    forest_moved at (a ++ b) labels ms (If r None k) x (c ∷ cs) ds e
    (labels_moved at (a ++ b) (If r None k) labels (c ∷ cs) ms h.0.0
    (grow_if_then at r k c cs a b ms h.1 f))
grow at (If r other end) labels (Parts j ∷ []) x ds a b ms h e f = absurd cc
grow at (If r other end) labels (Parts j ∷ (Parts k ∷ cs)) x ds a b ms h e f = absurd cc
grow at (If r other end) labels (Parts j ∷ (Ends k ∷ [])) x ds a b ms h e f = absurd cc
grow at (If r other end) labels (Parts j ∷ (Ends k ∷ (c ∷ cs))) x ds a b ms h e f =
    forest_moved at (a ++ b) labels ms (If r (Some j) k) x (c ∷ cs) ds e
    (labels_moved at (a ++ b) (If r (Some j) k) labels (c ∷ cs) ms h.0.0
    (grow_else at r j k c cs a b ms h.1 f))
grow at op labels [] x ds a b ms h e f = absurd cc
grow at op labels (c ∷ cs) x ds a b ms h e f =
    forest_moved at (a ++ b) labels ms op x (c ∷ cs) ds e (grow_plain at (op, labels) c cs a b ms h f)

forest_joined : (at : ℕ) (text ts : List ℕ) (ms ns : List Mark) (cs ds : List Close) → text ≡ ts
    → filled_as ms cs ≡ filled_as ns ds → Forest at cs ts ms → Forest at ds text ns
forest_joined at text ts ms ns cs ds t e f =
    let first : ms ≡ ns = ap (λ o. elim o [ Some p ↦ p.0 | None ↦ ms ]) e in
    let second : cs ≡ ds = ap (λ o. elim o [ Some p ↦ p.1 | None ↦ cs ]) e in
    let P : List ℕ → Type 0 = λ x. Forest at cs x ms in
    let Q : List Mark → Type 0 = λ x. Forest at cs text x in
    let R : List Close → Type 0 = λ x. Forest at x text ns in
    subst R second (subst Q first (subst P (sym t) f))

filled_sound : (ms : List Mark) (at : ℕ) (text : List ℕ) (ns : List Mark) (cs : List Close)
    → items mark_encoding ms text → marks_with_positions at ms ≡ filled_as ns cs → Forest at cs text ns
filled_sound [] at text ns cs h e = forest_joined at text [] [] ns [] cs h e (refl, refl)
filled_sound (m ∷ ms) at text ns cs h e =
    let after = bind_some (marks_with_positions (at + 1) ms)
    (λ (f : List Mark × List Close). mark_with_positions at m.0 f.1 >>= λ p. filled_as
    ((p.0, m.1) ∷ f.0) p.1) (ns, cs) e in
    let f = filled_sound ms (at + 1) h.1 after.0.0 after.0.1 h.4 after.1 in
    let p = bind_some (mark_with_positions at m.0 after.0.1)
    (λ (p : Op × List Close). filled_as ((p.0, m.1) ∷ after.0.0) p.1) (ns, cs) after.2 in
    forest_joined at text (h.0 ++ h.1) ((p.0.0, m.1) ∷ after.0.0) ns p.0.1 cs h.2 p.2
    (grow at m.0 m.1 after.0.1 p.0.0 p.0.1 h.0 h.1 after.0.0 h.3 p.1 f)

-- the whole: one tree, and its text
abbrev pub Spelled : List ℕ → List Mark → Type 0
Spelled text ms = (e : Expr) × expression e text × (ms ≡ flat e)

one_tree : (k : ℕ) (text : List ℕ) (ms : List Mark) → Forest 0 (Ends k ∷ []) text ms → Spelled text ms
one_tree k text ms (e, next, a, b, more, e1, e2, t, l, f, (none, empty)) =
    let same : text ≡ a = t ∙ ap (λ x. a ++ x) none ∙ append-nil a in
    let P : List ℕ → Type 0 = λ x. expression e x in
    (e, subst P (sym same) l, f ∙ ap (λ x. flat e ++ x) empty ∙ append-nil (flat e))

closed_tree : (cs : List Close) (text : List ℕ) (ms : List Mark) → is_one_end cs ≡ true → Forest 0 cs text ms
    → Spelled text ms
closed_tree [] text ms e f = absurd cc
closed_tree (Parts k ∷ cs) text ms e f = absurd cc
closed_tree (Ends k ∷ []) text ms e f = one_tree k text ms f
closed_tree (Ends k ∷ (c ∷ cs)) text ms e f = absurd cc

matched_sound : (ms : List Mark) (text : List ℕ) (ns : List Mark) → items mark_encoding ms text
    → matched ms ≡ Some ns → Spelled text ns
matched_sound ms text ns h e =
    let f = bind_some (marks_with_positions 0 ms)
    (λ (f : List Mark × List Close). if is_one_end f.1 then Some f.0 else None) ns e in
    let i = held_if (is_one_end f.0.1) (Some f.0.0) ns f.2 in
    let forest = filled_sound ms 0 text f.0.0 f.0.1 h f.1 in
    let P : List Mark → Type 0 = λ x. Spelled text x in
    let same : f.0.0 ≡ ns = cc in
    subst P same (closed_tree f.0.1 text f.0.0 i.0 forest)

pub spelled_flat : (text : List ℕ) (ms : List Mark) → Spelled text ms → IsFlat ms
spelled_flat text ms s = (s.0, list_proper 0x0b s.0 text s.1, s.2)

pub flattening_sound : (bytes : List ℕ) (ms : List Mark) (rest : List ℕ)
    → flattening_at bytes ≡ Some (ms, rest) → (text : List ℕ) × (bytes ≡ text ++ rest) × Spelled text ms
flattening_sound bytes ms rest e =
    let x = bind_some (marks_at (length bytes) 1 bytes)
    (λ (x : List Mark × List ℕ). matched x.0 >>= λ ns. read_as ns x.1) (ms, rest) e in
    let t = marks_sound (length bytes) 1 bytes x.0.0 x.0.1 x.1 in
    let n = bind_some (matched x.0.0) (λ ns. read_as ns x.0.1) (ms, rest) x.2 in
    takes_as_read (λ ns text. Spelled text ns) bytes n.0 ms x.0.1 rest
    (t.0, t.1, matched_sound x.0.0 t.0 n.0 t.2 n.1) n.2

flattening_complete : (text rest : List ℕ) (e : Expr) → expression e text
    → flattening_at (text ++ rest) ≡ read_as (flat e) rest
flattening_complete text rest e h =
    let proper = list_proper 0x0b e text h in
    let spelled = raw_spelled 0x0b End end_spelled e text h in
    let few : length (raw End e) ≤ length (text ++ rest) =
    omega (arith, marks_long (raw End e) text spelled, length-append text rest) in
    let first = marks_found (length (text ++ rest)) 1 (raw End e) text rest spelled (whole_walks e proper)
    few in
    let second = filled_raw End Ends (λ i ds. refl) e proper 0 (0 + span e + 1) (0 + span e) refl refl [] []
    [] refl in
    let same = append-nil (raw End e) in
    let filled_whole : marks_with_positions 0 (raw End e) ≡ filled_as (flat e) (Ends (0 + span e) ∷ []) =
    ap (λ ms. marks_with_positions 0 ms) (sym same) ∙ second
    ∙ ap (λ ms. filled_as ms (Ends (0 + span e) ∷ [])) (append-nil (flat e)) in
    rw (first, filled_whole) refl

pub expression_reads : Reads expression expression_at
unfolding expression_at
expression_reads = record {
  sound = λ bytes e rest h.
      let s = bind_some (flattening_at bytes) (λ (x : List Mark × List ℕ). read_as (read_flat x.0) x.1)
      (e, rest) h in
      let t = flattening_sound bytes s.0.0 s.0.1 s.1 in
      let tree : Expr = t.2.0 in
      let back : read_flat s.0.0 ≡ tree = ap read_flat t.2.2
      ∙ flattening_read_back tree (list_proper 0x0b tree t.0 t.2.1) in
      let P : Expr → Type 0 = λ x. expression x t.0 in
      takes_as_read expression bytes (read_flat s.0.0) e s.0.1 rest (t.0, t.1, subst P (sym back) t.2.1) s.2;
  complete = λ text rest e h.
      let first = flattening_complete text rest e h in
      let back = flattening_read_back e (list_proper 0x0b e text h) in
      (rw first refl) ∙ ap (λ x. read_as x rest) back;
}

pub matched_flat : (turns depth : ℕ) (bytes : List ℕ) (ms : List Mark) (rest : List ℕ) (ns : List Mark)
    → marks_at turns depth bytes ≡ Some (ms, rest) → matched ms ≡ Some ns → IsFlat ns
matched_flat turns depth bytes ms rest ns e h =
    let t = marks_sound turns depth bytes ms rest e in
    spelled_flat t.0 ns (matched_sound ms t.0 ns t.2 h)
