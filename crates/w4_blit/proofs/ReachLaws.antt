-- A sprite reads no more of the framebuffer than is kept.
use Rattle.std.proofs.Common.{◌≡◌, ℕ, ◌+◌, ◌-◌, ◌*◌, ◌/◌, ◌%◌, ◌^◌, ◌<◌, Bool, true, false, ◌&&◌, cond, List}
use Rattle.std.proofs.Common.{length, get_or, Option, refl, ap, subst, arith}
use Rattle.std.specs.Prelude.{slice_range, ℤ, pos, negsuc, ◌+ℤ◌, ◌-ℤ◌, ◌≤ℤ◌, ◌<ℤ◌, int_le, int_lt}
use Rattle.std.proofs.lemmas.Int.{ints}
use Rattle.w4_defs.specs.declared.sprite.Sprite.{Sprite}
use Rattle.w4_defs.specs.Colours.{palette_index}
use Rattle.w4_defs.specs.Shapes.{natural, only_if, is_inside}
use Rattle.w4_defs.specs.Blit.{blit_painter, cell_index, has_flag, height_on_screen, landed_index}
use Rattle.w4_defs.specs.Blit.{source_column, source_row, source_value, width_on_screen}
use Rattle.w4_blit.specs.Reach.{InReach}
use Rattle.w4_blit.specs.FramebufferCopy.{with_copied_bytes}
use Rattle.w4_blit.proofs.FramebufferCopyLaws.{kept_own}

value_same : (two : Bool) (page other : List ℕ) (ptr q : ℕ)
    → (two ≡ true → get_or other (ptr + q / 4) 0 ≡ get_or page (ptr + q / 4) 0)
    → (two ≡ false → get_or other (ptr + q / 8) 0 ≡ get_or page (ptr + q / 8) 0)
    → cond two (get_or other (ptr + q / 4) 0 / 4 ^ (3 - q % 4) % 4)
    (get_or other (ptr + q / 8) 0 / 2 ^ (7 - q % 8) % 2)
    ≡ cond two (get_or page (ptr + q / 4) 0 / 4 ^ (3 - q % 4) % 4)
    (get_or page (ptr + q / 8) 0 / 2 ^ (7 - q % 8) % 2)
value_same true page other ptr q two one = ap (λ (b : ℕ). b / 4 ^ (3 - q % 4) % 4) (two refl)
value_same false page other ptr q two one = ap (λ (b : ℕ). b / 2 ^ (7 - q % 8) % 2) (one refl)

kept_value : (page : List ℕ) (sprite : Sprite) (first len q : ℕ) → length page ≡ 65536
    → InReach sprite q first len
    → source_value (with_copied_bytes page first (slice_range page first (first + len))) sprite q
    ≡ source_value page sprite q
kept_value page sprite first len q size there =
    value_same (has_flag sprite 1) page (with_copied_bytes page first (slice_range page first (first + len)))
    sprite.ptr q
    (λ two. kept_own page first len (sprite.ptr + q / 4) size (there.0 two))
    (λ one. kept_own page first len (sprite.ptr + q / 8) size (there.1 one))

cond_same : (b : Bool) (o p q r : Option ℕ) → (b ≡ true → o ≡ q) → (b ≡ false → p ≡ r) → cond b o p
    ≡ cond b q r
cond_same true o p q r eo ep = eo refl
cond_same false o p q r eo ep = ep refl

shown_same : (test : Bool) (o p : Option ℕ) → (test ≡ true → o ≡ p) → only_if test o ≡ only_if test p
shown_same true o p e = e refl
shown_same false o p e = refl

first_holds : (a b : Bool) → (a && b) ≡ true → a ≡ true
first_holds true b e = refl
first_holds false b e = absurd (cc)

second_holds : (a b : Bool) → (a && b) ≡ true → b ≡ true
second_holds true b e = e
second_holds false b e = absurd (cc)

natural_there : (z : ℤ) → pos 0 ≤ℤ z → pos (natural z) ≡ z
natural_there (pos n) h = refl
natural_there (negsuc n) h = absurd (omega (arith, ints))

left_of : (x : ℤ) (u : ℕ) → int_le x (pos u) ≡ true → x ≤ℤ pos u
left_of x u e = grind (arith, ints)

right_of : (x : ℤ) (u : ℕ) → int_lt (pos u) x ≡ true → pos u <ℤ x
right_of x u e = grind (arith, ints)

side_below : (x : ℤ) (u n : ℕ) → (int_le x (pos u) && int_lt (pos u) (x +ℤ pos n)) ≡ true
    → natural (pos u -ℤ x) < n
side_below x u n e =
    let low : int_le x (pos u) ≡ true = first_holds (int_le x (pos u)) (int_lt (pos u) (x +ℤ pos n)) e in
    let high : int_lt (pos u) (x +ℤ pos n)
    ≡ true = second_holds (int_le x (pos u)) (int_lt (pos u) (x +ℤ pos n)) e in
    let from : x ≤ℤ pos u = left_of x u low in
    let to : pos u <ℤ (x +ℤ pos n) = right_of (x +ℤ pos n) u high in
    let there = natural_there (pos u -ℤ x) (omega (arith, ints)) in
    omega (arith, ints, there)

-- the same sprite, from the page and what is kept of its framebuffer
pub kept_blit : (page : List ℕ) (sprite : Sprite) (first len : ℕ) (x y : ℤ) (u v : ℕ) → length page ≡ 65536
    → ((i j : ℕ) → i < sprite.w → j < sprite.h
    → InReach sprite (source_row sprite j * sprite.stride + source_column sprite i) first len)
    → blit_painter (with_copied_bytes page first (slice_range page first (first + len))) sprite x y u v
    ≡ blit_painter page sprite x y u v
kept_blit page sprite first len x y u v size reach =
    let copy_bytes = with_copied_bytes page first (slice_range page first (first + len)) in
    let right = natural (pos u -ℤ x) in
    let below = natural (pos v -ℤ y) in
    let cell : (i j : ℕ) → i < sprite.w → j < sprite.h → cell_index copy_bytes sprite i j
    ≡ cell_index page sprite i j =
    λ i j hi hj. ap (λ (value : ℕ). palette_index sprite.colors (value + 1))
    (kept_value page sprite first len (source_row sprite j * sprite.stride + source_column sprite i) size
    (reach i j hi hj)) in
    shown_same
    (is_inside x (x +ℤ pos (width_on_screen sprite)) y (y +ℤ pos (height_on_screen sprite)) u v)
    (landed_index copy_bytes sprite right below) (landed_index page sprite right below) (λ inside.
    let columns : right < width_on_screen sprite = side_below x u (width_on_screen sprite)
    (first_holds _ _ inside) in
    let rows : below < height_on_screen sprite = side_below y v (height_on_screen sprite)
    (second_holds _ _ inside) in
    cond_same (has_flag sprite 8) (cell_index copy_bytes sprite below right)
    (cell_index copy_bytes sprite right below)
    (cell_index page sprite below right) (cell_index page sprite right below)
    (λ turned. cell below right
    (subst (λ (b : Bool). below < cond b sprite.w sprite.h) turned rows)
    (subst (λ (b : Bool). right < cond b sprite.h sprite.w) turned columns))
    (λ upright. cell right below
    (subst (λ (b : Bool). right < cond b sprite.h sprite.w) upright columns)
    (subst (λ (b : Bool). below < cond b sprite.w sprite.h) upright rows)))
