-- What a row of an oval is painted, by the extents of its own cells and of those beside it.
use Rattle.std.proofs.Common.{◌≡◌, ℕ, ◌+◌, ◌≤◌, ◌<◌, ◌≢◌, min, max, Bool, true, false, ◌&&◌, ◌||◌, List}
use Rattle.std.proofs.Common.{length, Option, Some, None, refl, sym, ◌∙◌, ap, inl, inr, arith}
use Rattle.std.specs.Prelude.{nat_le, nat_lt, ◌==◌, not, ℤ, pos, ◌+ℤ◌, ◌-ℤ◌, ◌≤ℤ◌}
use Rattle.std.specs.Option.{option_or}
use Rattle.std.proofs.lemmas.Bool.{cases_eq, cases_lt}
use Rattle.std.proofs.lemmas.Bool.Decides.{nat_tests}
use Rattle.std.proofs.lemmas.Int.{ints}
use Rattle.w4_defs.specs.Colours.{palette_index}
use Rattle.w4_defs.specs.Framebuffer.{Painter, paint, over}
use Rattle.w4_defs.specs.Shapes.{only_if, is_edge, is_inside, is_within, oval_index, span_painter}
use Rattle.w4_defs.proofs.PaintLaws.{paint-paint, paint_step}
use Rattle.w4_pixels.specs.Clipping.{clipped}
use Rattle.w4_shapes.specs.OvalCells.{Spans, extent_painter, has, is_inner, painter_of}
use Rattle.w4_shapes.specs.declared.oval_cells.Columns.{Columns}
use Rattle.w4_shapes.specs.declared.oval_cells.Extent.{Extent}
use Rattle.w4_shapes.proofs.CellTests.{both, first_fails, gone, is_cell, passes, second_fails}

-- columns counted from one left of the screen
pub span_extent : (first end row u v : ℕ) (index : Option ℕ)
    → span_painter (pos first -ℤ pos 1) (pos end -ℤ pos 1) (pos row) index u v
    ≡ extent_painter first end row index u v
span_extent first end row u v index = ap (λ t. only_if t index) (grind (arith, ints, nat_tests))

-- three paintings, one after the other
pub three_painted : (page : List ℕ) (a b c all : Painter) → length page ≡ 65536
    → ((u v : ℕ) → u < 160 → v < 160 → option_or (c u v) (option_or (b u v) (a u v)) ≡ all u v)
    → paint (paint (paint page a) b) c ≡ paint page all
three_painted page a b c all len same =
    ap (λ p. paint p c) (paint-paint page a b len) ∙ paint_step page (over b a) c all len same

or_nothing : (o : Option ℕ) → option_or o None ≡ o
or_nothing None = refl
or_nothing (Some n) = refl

no_spans : (a b c : Bool) (edge inner : Option ℕ) → a ≡ false → b ≡ false → c ≡ false
    → option_or (only_if c edge) (option_or (only_if b inner) (only_if a edge)) ≡ None
no_spans false false false edge inner ea eb ec = refl
no_spans false false true edge inner ea eb ec = absurd (cc)
no_spans false true c edge inner ea eb ec = absurd (cc)
no_spans true b c edge inner ea eb ec = absurd (cc)

-- an edge, an inside and an edge
three_spans : (a b c within around : Bool) (second first : Option ℕ) → within ≡ (a || (b || c))
    → (a && b) ≡ false → (a && c) ≡ false → (b && c) ≡ false → (within ≡ true → around ≡ b)
    → option_or (only_if c (option_or (only_if true second) first))
    (option_or (only_if b (option_or (only_if false second) first))
    (only_if a (option_or (only_if true second) first)))
    ≡ only_if within (option_or (only_if (not around) second) first)
three_spans true true c within around second first w ab ac bc n = absurd (cc)
three_spans true false true within around second first w ab ac bc n = absurd (cc)
three_spans true false false within around second first w ab ac bc n = rw (n w, w) refl
three_spans false true true within around second first w ab ac bc n = absurd (cc)
three_spans false true false within around second first w ab ac bc n = rw (n w, w) (or_nothing first)
three_spans false false true within around second first w ab ac bc n =
    rw (n w, w) (or_nothing (option_or second first))
three_spans false false false within around second first w ab ac bc n = rw w refl

same_cell : (w h : ℕ) (i k j l : ℤ) → i ≡ k → j ≡ l → is_within w h i j ≡ is_within w h k l
same_cell w h i k j l e f = ap (λ z. is_within w h z j) e ∙ ap (is_within w h k) f

four : (a b c d e f g h : Bool) → a ≡ e → b ≡ f → c ≡ g → d ≡ h → (a && b && c && d) ≡ (e && f && g && h)
four a b c d e f g h p q r s = rw (p, q, r, s) refl

-- the columns of a row on the screen, cut in three
in_columns : (first end left right s : ℕ) → left < s → s < right + 1
    → (nat_le first s && nat_lt s end) ≡ (nat_le (max first (left + 1)) s && nat_lt s (min end (right + 1)))
in_columns first end left right s low high = grind (arith, nat_tests)

in_three : (a b c d s : ℕ) → min a d ≤ b → b ≤ c → c ≤ d
    → (nat_le a s && nat_lt s d)
    ≡ ((nat_le a s && nat_lt s b) || ((nat_le b s && nat_lt s c) || (nat_le c s && nat_lt s d)))
in_three a b c d s low order high = grind (arith, nat_tests)

in_one : (a b c d s : ℕ) → b ≤ c → ((nat_le a s && nat_lt s b) && (nat_le c s && nat_lt s d)) ≡ false
in_one a b c d s order = grind (arith, nat_tests)

inside_both : (a d s : ℕ) → (nat_le a s && nat_lt s d) ≡ true → (a ≤ s) × (s < d)
inside_both a d s e = (grind (arith, nat_tests), grind (arith, nat_tests))

row_test : (v : ℕ) (a : Bool) → (a && v == v) ≡ a
row_test v true = grind (arith, nat_tests)
row_test v false = refl

-- a pixel of the row, in one of its columns
column_pixel : (columns : Columns) (v : ℕ) (above here below whole inner : Extent) (u : ℕ)
    → columns.left ≤ u → u < columns.right
    → Spans columns v above → Spans columns (v + 1) here → Spans columns (v + 2) below
    → whole.first ≡ max here.first (columns.left + 1) → whole.end ≡ min here.end (columns.right + 1)
    → min whole.first whole.end ≤ inner.first → inner.first ≤ inner.end → inner.end ≤ whole.end
    → ((k : ℕ) → whole.first ≤ k + 1 → k + 1 < whole.end → has inner (k + 1) ≡ is_inner above here below k)
    → (second first : Option ℕ) (i j : ℤ) → i ≡ (pos u -ℤ columns.cells.x) → j ≡ (pos v -ℤ columns.cells.y)
    → option_or (extent_painter inner.end whole.end v (option_or (only_if true second) first) u v)
    (option_or (extent_painter inner.first inner.end v (option_or (only_if false second) first) u v)
    (extent_painter whole.first inner.first v (option_or (only_if true second) first) u v))
    ≡ only_if (is_within columns.cells.w columns.cells.h i j)
    (option_or (only_if (is_edge columns.cells.w columns.cells.h i j) second) first)
column_pixel columns v above here below whole inner u left right sa sh sb wf we low order high same
    second first i j ei ej =
    let cells = columns.cells in
    let w = cells.w in
    let h = cells.h in
    let mine : is_within w h i j ≡ has here (u + 1) =
    same_cell w h i ((pos (u + 1) -ℤ pos 1) -ℤ cells.x) j ((pos (v + 1) -ℤ pos 1) -ℤ cells.y)
    (omega (arith, ints)) (omega (arith, ints)) ∙ sh (u + 1) (omega arith) (omega arith) in
    let west : is_within w h (i -ℤ pos 1) j ≡ has here u =
    same_cell w h (i -ℤ pos 1) ((pos u -ℤ pos 1) -ℤ cells.x) j ((pos (v + 1) -ℤ pos 1) -ℤ cells.y)
    (omega (arith, ints)) (omega (arith, ints)) ∙ sh u (omega arith) (omega arith) in
    let east : is_within w h (i +ℤ pos 1) j ≡ has here (u + 2) =
    same_cell w h (i +ℤ pos 1) ((pos (u + 2) -ℤ pos 1) -ℤ cells.x) j ((pos (v + 1) -ℤ pos 1) -ℤ cells.y)
    (omega (arith, ints)) (omega (arith, ints)) ∙ sh (u + 2) (omega arith) (omega arith) in
    let north : is_within w h i (j -ℤ pos 1) ≡ has above (u + 1) =
    same_cell w h i ((pos (u + 1) -ℤ pos 1) -ℤ cells.x) (j -ℤ pos 1) ((pos v -ℤ pos 1) -ℤ cells.y)
    (omega (arith, ints)) (omega (arith, ints)) ∙ sa (u + 1) (omega arith) (omega arith) in
    let south : is_within w h i (j +ℤ pos 1) ≡ has below (u + 1) =
    same_cell w h i ((pos (u + 1) -ℤ pos 1) -ℤ cells.x) (j +ℤ pos 1) ((pos (v + 2) -ℤ pos 1) -ℤ cells.y)
    (omega (arith, ints)) (omega (arith, ints)) ∙ sb (u + 1) (omega arith) (omega arith) in
    let around = four _ _ _ _ _ _ _ _ west east north south in
    let s : ℕ = u + 1 in
    let shown : has here s ≡ has whole s =
    in_columns here.first here.end columns.left columns.right s (omega arith) (omega arith)
    ∙ ap (λ n. nat_le n s && nat_lt s (min here.end (columns.right + 1))) (sym wf)
    ∙ ap (λ n. nat_le whole.first s && nat_lt s n) (sym we) in
    let test : (t : Bool) → (t && v == v) ≡ t = row_test v in
    rw (
      test (nat_le whole.first s && nat_lt s inner.first),
      test (nat_le inner.first s && nat_lt s inner.end),
      test (nat_le inner.end s && nat_lt s whole.end),
    )
    (three_spans (nat_le whole.first s && nat_lt s inner.first) (nat_le inner.first s && nat_lt s inner.end)
    (nat_le inner.end s && nat_lt s whole.end) (is_within w h i j)
    (is_within w h (i -ℤ pos 1) j && is_within w h (i +ℤ pos 1) j && is_within w h i (j -ℤ pos 1)
    && is_within w h i (j +ℤ pos 1))
    second first
    (mine ∙ shown ∙ in_three whole.first inner.first inner.end whole.end s low order high)
    (in_one whole.first inner.first inner.first inner.end s (omega arith))
    (in_one whole.first inner.first inner.end whole.end s order)
    (in_one inner.first inner.end inner.end whole.end s (omega arith))
    (λ is. (
    let ends = inside_both whole.first whole.end s (sym shown ∙ sym mine ∙ is) in
    around ∙ sym (same u ends.0 ends.1))))

-- neither in the row nor in the columns
other_row : (b v : ℕ) (t : Bool) → b ≢ v → (t && b == v) ≡ false
other_row b v true n = grind (arith, nat_tests)
other_row b v false n = refl

not_row : (b v : ℕ) → b ≢ v → (nat_le v b && nat_lt b (v + 1)) ≡ false
not_row b v n = grind (arith, nat_tests)

outside_range : (first end n : ℕ) → (first ≤ n → end ≤ n) → (nat_le first n && nat_lt n end) ≡ false
outside_range first end n out = grind (arith, nat_tests)

between : (first end n : ℕ) → first ≤ n → n < end → (nat_le first n && nat_lt n end) ≡ true
between first end n from to = grind (arith, nat_tests)

-- the row's three spans are the oval's row
pub row_pixel : (columns : Columns) (v : ℕ) (above here below whole inner : Extent) (u b : ℕ)
    → columns.cells.x ≤ℤ pos columns.left → pos columns.right ≤ℤ (columns.cells.x +ℤ pos columns.cells.w)
    → columns.cells.y ≤ℤ pos v → pos (v + 1) ≤ℤ (columns.cells.y +ℤ pos columns.cells.h)
    → Spans columns v above → Spans columns (v + 1) here → Spans columns (v + 2) below
    → whole.first ≡ max here.first (columns.left + 1) → whole.end ≡ min here.end (columns.right + 1)
    → min whole.first whole.end ≤ inner.first → inner.first ≤ inner.end → inner.end ≤ whole.end
    → ((k : ℕ) → whole.first ≤ k + 1 → k + 1 < whole.end → has inner (k + 1) ≡ is_inner above here below k)
    → (edge inside : Option ℕ)
    → edge ≡ option_or (only_if true (palette_index columns.cells.colors 2)) (palette_index
    columns.cells.colors 1)
    → inside ≡ option_or (only_if false (palette_index columns.cells.colors 2)) (palette_index
    columns.cells.colors 1)
    → option_or (extent_painter inner.end whole.end v edge u b)
    (option_or (extent_painter inner.first inner.end v inside u b)
    (extent_painter whole.first inner.first v edge u b))
    ≡ clipped (painter_of columns.cells) columns.left columns.right v (v + 1) u b
row_pixel columns v above here below whole inner u b left right top bottom sa sh sb wf we low order high
    same edge inside ee ei =
    let cells = columns.cells in
    let first : Bool = (nat_le whole.first (u + 1) && nat_lt (u + 1) inner.first) && b == v in
    let second : Bool = (nat_le inner.first (u + 1) && nat_lt (u + 1) inner.end) && b == v in
    let third : Bool = (nat_le inner.end (u + 1) && nat_lt (u + 1) whole.end) && b == v in
    let all : Bool = (nat_le columns.left u && nat_lt u columns.right) && (nat_le v b && nat_lt b (v + 1)) in
    let off : first ≡ false → second ≡ false → third ≡ false → all ≡ false
    → option_or (only_if third edge) (option_or (only_if second inside) (only_if first edge))
    ≡ clipped (painter_of cells) columns.left columns.right v (v + 1) u b =
    λ ef es et ea. no_spans first second third edge inside ef es et ∙ gone all (painter_of cells u b) ea in
    let bare : (whole.first ≤ u + 1 → inner.first ≤ u + 1) → (inner.first ≤ u + 1 → inner.end ≤ u + 1)
    → (inner.end ≤ u + 1 → whole.end ≤ u + 1) → (columns.left ≤ u → columns.right ≤ u)
    → option_or (only_if third edge) (option_or (only_if second inside) (only_if first edge))
    ≡ clipped (painter_of cells) columns.left columns.right v (v + 1) u b =
    λ one two three four. off
    (first_fails _ (b == v) (outside_range whole.first inner.first (u + 1) one))
    (first_fails _ (b == v) (outside_range inner.first inner.end (u + 1) two))
    (first_fails _ (b == v) (outside_range inner.end whole.end (u + 1) three))
    (first_fails _ (nat_le v b && nat_lt b (v + 1)) (outside_range columns.left columns.right u four)) in
    elim (cases_eq b v) [
      | inr n ↦ off (other_row b v _ n) (other_row b v _ n) (other_row b v _ n)
          (second_fails (nat_le columns.left u && nat_lt u columns.right) _ (not_row b v n))
      | inl e ↦ elim (cases_lt u columns.left) [
        | inl under ↦ bare (omega arith) (omega arith) (omega arith) (omega arith)
        | inr from ↦ elim (cases_lt u columns.right) [
          | inr beyond ↦ bare (omega arith) (omega arith) (omega arith) (omega arith)
          | inl to ↦ (
              let here_too : all ≡ true = both _ _ (between columns.left columns.right u from to)
              (between v (v + 1) b (omega arith) (omega arith)) in
              let cell : is_inside cells.x (cells.x +ℤ pos cells.w) cells.y (cells.y +ℤ pos cells.h) u b
              ≡ true =
              is_cell cells.x (cells.x +ℤ pos cells.w) cells.y (cells.y +ℤ pos cells.h) u b
              (omega (arith, ints)) (omega (arith, ints)) (omega (arith, ints)) (omega (arith, ints)) in
              let painted : option_or (only_if third edge)
              (option_or (only_if second inside) (only_if first edge))
              ≡ oval_index cells.colors cells.w cells.h (pos u -ℤ cells.x) (pos b -ℤ cells.y) =
              rw (ee, ei, e) (column_pixel columns v above here below whole inner u from to sa sh sb wf
              we low
              order high same (palette_index cells.colors 2) (palette_index cells.colors 1)
              (pos u -ℤ cells.x) (pos v -ℤ cells.y) refl refl) in
              painted
              ∙ passes (is_inside cells.x (cells.x +ℤ pos cells.w) cells.y (cells.y +ℤ pos cells.h) u b)
              (oval_index cells.colors cells.w cells.h (pos u -ℤ cells.x) (pos b -ℤ cells.y)) cell
              ∙ passes all (painter_of cells u b) here_too)
        ]
      ]
    ]
