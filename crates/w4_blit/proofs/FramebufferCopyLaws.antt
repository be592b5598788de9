-- The page of the call's beginning doesn't change while the framebuffer is painted.
use Rattle.std.proofs.Common.{◌≡◌, ℕ, ◌+◌, ◌-◌, ◌*◌, ◌/◌, Bool, true, false, cond, Option, refl, ◌<◌, ◌≤◌}
use Rattle.std.proofs.Common.{◌⊎◌, List, length, take, drop, get_or, sym, ◌∙◌, ap, subst, inl, inr, arith}
use Rattle.std.specs.Prelude.{slice_range, ℤ, pos, ◌+ℤ◌, ◌-ℤ◌}
use Rattle.std.proofs.lemmas.Bool.{cases_lt}
use Rattle.std.proofs.lemmas.Bool.Decides.{nat_tests}
use Rattle.std.proofs.lemmas.List.{ext_get_or, get_or_past, get_or-take, get_or-drop, length-drop}
use Rattle.std.proofs.lemmas.List.FromFn.{length-map-range_with_len, get_or-map-range_with_len}
use Rattle.w4_defs.specs.declared.console.TextSource.{TextSource}
use Rattle.w4_defs.specs.declared.console.TextSource.TheVariants.{Cstr, Utf8, Utf16}
use Rattle.w4_defs.specs.Framebuffer.{Painter, paint}
use Rattle.w4_defs.specs.Text.{before_zero, text_codes, units}
use Rattle.w4_defs.specs.declared.sprite.Sprite.{Sprite}
use Rattle.w4_defs.specs.Colours.{palette_index}
use Rattle.w4_defs.specs.Shapes.{natural, only_if, is_inside}
use Rattle.w4_defs.specs.Blit.{has_flag, source_column, source_row, source_value, cell_index, width_on_screen}
use Rattle.w4_defs.specs.Blit.{height_on_screen, blit_painter}
use Rattle.w4_defs.proofs.PaintLaws.{length-paint, paint-outside}
use Rattle.w4_blit.specs.FramebufferCopy.{IsAtHand, byte_with_copy, source_start, with_copied_bytes}

pub length-with_copied_bytes : (page : List ℕ) (first : ℕ) (copy_bytes : List ℕ)
    → length (with_copied_bytes page first copy_bytes) ≡ length page
unfolding with_copied_bytes
length-with_copied_bytes page first copy_bytes =
    length-map-range_with_len (byte_with_copy page first copy_bytes) 0 (length page)

pub get_or-with_copied_bytes : (page : List ℕ) (first : ℕ) (copy_bytes : List ℕ) (i : ℕ) → i < length page
    → get_or (with_copied_bytes page first copy_bytes) i 0 ≡ byte_with_copy page first copy_bytes i
unfolding with_copied_bytes
get_or-with_copied_bytes page first copy_bytes i h =
    get_or-map-range_with_len (byte_with_copy page first copy_bytes) 0 (length page) i i 0 h (omega arith)

-- a byte outside the framebuffer is read where it stands
pub kept_outside : (page : List ℕ) (first : ℕ) (copy_bytes : List ℕ) (i : ℕ) → i < length page
    → (i < 160) ⊎ (6560 ≤ i) → get_or (with_copied_bytes page first copy_bytes) i 0 ≡ get_or page i 0
kept_outside page first copy_bytes i h out = get_or-with_copied_bytes page first copy_bytes i h
    ∙ grind (arith, nat_tests)

-- one of the framebuffer from what is kept
pub kept_inside : (page : List ℕ) (first : ℕ) (copy_bytes : List ℕ) (i : ℕ) → i < length page → 160 ≤ i → i
    < 6560
    → get_or (with_copied_bytes page first copy_bytes) i 0 ≡ get_or copy_bytes (i - first) 0
kept_inside page first copy_bytes i h low high =
    get_or-with_copied_bytes page first copy_bytes i h ∙ grind (arith, nat_tests)

pub kept_past : (page : List ℕ) (first : ℕ) (copy_bytes : List ℕ) (i : ℕ) → length page ≤ i
    → get_or (with_copied_bytes page first copy_bytes) i 0 ≡ 0
kept_past page first copy_bytes i h =
    get_or_past (with_copied_bytes page first copy_bytes) i 0
    (subst (λ (n : ℕ). n ≤ i) (sym (length-with_copied_bytes page first copy_bytes)) h)

-- where two pages agree outside the framebuffer
byte_with_copy_same : (page other : List ℕ) (first : ℕ) (copy_bytes : List ℕ) (i : ℕ)
    → ((i < 160) ⊎ (6560 ≤ i) → get_or other i 0 ≡ get_or page i 0)
    → byte_with_copy other first copy_bytes i ≡ byte_with_copy page first copy_bytes i
byte_with_copy_same page other first copy_bytes i same = elim (cases_lt i 160) [
  | inl low ↦ (let e = same (inl low) in grind (arith, nat_tests))
  | inr above ↦ elim (cases_lt i 6560) [
    | inl below ↦ grind (arith, nat_tests)
    | inr high ↦ (let e = same (inr high) in grind (arith, nat_tests))
  ]
]

-- what is painted doesn't show
pub with_copied_bytes-paint : (page : List ℕ) (first : ℕ) (copy_bytes : List ℕ) (f : Painter)
    → with_copied_bytes (paint page f) first copy_bytes ≡ with_copied_bytes page first copy_bytes
with_copied_bytes-paint page first copy_bytes f =
    let size : length (with_copied_bytes (paint page f) first copy_bytes) ≡ length page =
    length-with_copied_bytes (paint page f) first copy_bytes ∙ length-paint page f in
    ext_get_or 0 (with_copied_bytes (paint page f) first copy_bytes) (with_copied_bytes page first copy_bytes)
    (size ∙ sym (length-with_copied_bytes page first copy_bytes)) (λ i hi.
    let below : i < length page = subst (λ (n : ℕ). i < n) size hi in
    get_or-with_copied_bytes (paint page f) first copy_bytes i
    (subst (λ (n : ℕ). i < n) (sym (length-paint page f)) below)
    ∙ byte_with_copy_same page (paint page f) first copy_bytes i (paint-outside page f i)
    ∙ sym (get_or-with_copied_bytes page first copy_bytes i below))

-- a range of a list has the list's own items
pub copied : (page : List ℕ) (a b i : ℕ) → a ≤ i → i < b
    → get_or (slice_range page a b) (i - a) 0 ≡ get_or page i 0
copied page a b i low high =
    get_or-take (b - a) (drop a page) (i - a) 0 (omega arith) ∙ get_or-drop a page (i - a) 0
    ∙ ap (λ j. get_or page j 0) (omega arith)

-- what is kept when the call begins is the page's own
pub kept_own : (page : List ℕ) (first len i : ℕ) → length page ≡ 65536 → IsAtHand first len i
    → get_or (with_copied_bytes page first (slice_range page first (first + len))) i 0 ≡ get_or page i 0
kept_own page first len i size there = elim (cases_lt i 65536) [
  | inr past ↦ kept_past page first (slice_range page first (first + len)) i (omega arith)
      ∙ sym (get_or_past page i 0 (omega arith))
  | inl below ↦ elim there [
    | inl outside ↦ kept_outside page first (slice_range page first (first + len)) i (omega arith) outside
    | inr within ↦ elim (cases_lt i 160) [
      | inl low ↦ kept_outside page first (slice_range page first (first + len)) i (omega arith) (inl low)
      | inr above ↦ elim (cases_lt i 6560) [
        | inr high ↦ kept_outside page first (slice_range page first (first + len)) i (omega arith)
            (inr high)
        | inl inside ↦ kept_inside page first (slice_range page first (first + len)) i (omega arith) above
            inside
            ∙ copied page first (first + len) i within.0 within.1
      ]
    ]
  ]
]

pub length-dropped : (page : List ℕ) (first : ℕ) (copy_bytes : List ℕ) (ptr : ℕ)
    → length (drop ptr (with_copied_bytes page first copy_bytes)) ≡ length (drop ptr page)
length-dropped page first copy_bytes ptr =
    length-drop ptr (with_copied_bytes page first copy_bytes)
    ∙ ap (λ n. n - ptr) (length-with_copied_bytes page first copy_bytes)
    ∙ sym (length-drop ptr page)

-- ---- a source that lies behind the framebuffer is read where it stands

pub behind : (page : List ℕ) (first : ℕ) (copy_bytes : List ℕ) (i : ℕ) → length page ≡ 65536 → 6560 ≤ i
    → get_or (with_copied_bytes page first copy_bytes) i 0 ≡ get_or page i 0
behind page first copy_bytes i len h = elim (cases_lt i 65536) [
  | inl below ↦ kept_outside page first copy_bytes i (omega arith) (inr h)
  | inr past ↦ kept_past page first copy_bytes i (omega arith) ∙ sym (get_or_past page i 0 (omega arith))
]

behind_value : (page copy : List ℕ) (sprite : Sprite) (q : ℕ) → length page ≡ 65536
    → 6560 ≤ sprite.ptr
    → source_value (with_copied_bytes page 160 copy) sprite q ≡ source_value page sprite q
behind_value page copy sprite q len h =
    rw (
      behind page 160 copy (sprite.ptr + q / 4) len (omega arith),
      behind page 160 copy (sprite.ptr + q / 8) len (omega arith),
    ) refl

behind_cell : (page copy : List ℕ) (sprite : Sprite) (i j : ℕ) → length page ≡ 65536
    → 6560 ≤ sprite.ptr
    → cell_index (with_copied_bytes page 160 copy) sprite i j ≡ cell_index page sprite i j
behind_cell page copy sprite i j len h =
    ap (λ (value : ℕ). palette_index sprite.colors (value + 1))
    (behind_value page copy sprite (source_row sprite j * sprite.stride + source_column sprite i) len
    h)

either_same : (b : Bool) (o p q r : Option ℕ) → o ≡ q → p ≡ r → cond b o p ≡ cond b q r
either_same true o p q r eo ep = eo
either_same false o p q r eo ep = ep

pub behind_blit : (page copy : List ℕ) (sprite : Sprite) (x y : ℤ) (u v : ℕ) → length page ≡ 65536
    → 6560 ≤ sprite.ptr
    → blit_painter (with_copied_bytes page 160 copy) sprite x y u v ≡ blit_painter page sprite x y u v
behind_blit page copy sprite x y u v len h =
    let right = natural (pos u -ℤ x) in
    let below = natural (pos v -ℤ y) in
    ap (only_if (is_inside x (x +ℤ pos (width_on_screen sprite)) y (y +ℤ pos (height_on_screen sprite)) u
    v))
    (either_same (has_flag sprite 8) _ _ _ _ (behind_cell page copy sprite below right len h)
    (behind_cell page copy sprite right below len h))

behind_bytes : (page : List ℕ) (first : ℕ) (copy_bytes : List ℕ) (ptr : ℕ) → length page ≡ 65536 → 6560 ≤ ptr
    → drop ptr (with_copied_bytes page first copy_bytes) ≡ drop ptr page
behind_bytes page first copy_bytes ptr len h =
    ext_get_or 0 (drop ptr (with_copied_bytes page first copy_bytes)) (drop ptr page)
    (length-dropped page first copy_bytes ptr)
    (λ i hi.
    get_or-drop ptr (with_copied_bytes page first copy_bytes) i 0
    ∙ behind page first copy_bytes (ptr + i) len (omega arith)
    ∙ sym (get_or-drop ptr page i 0))

pub behind_codes : (page : List ℕ) (first : ℕ) (copy_bytes : List ℕ) (source : TextSource) → length page
    ≡ 65536
    → 6560 ≤ source_start source
    → text_codes (with_copied_bytes page first copy_bytes) source ≡ text_codes page source
behind_codes page first copy_bytes (Cstr ptr) len h = ap before_zero
    (behind_bytes page first copy_bytes ptr len h)
behind_codes page first copy_bytes (Utf8 ptr size) len h = ap (take size)
    (behind_bytes page first copy_bytes ptr len h)
behind_codes page first copy_bytes (Utf16 ptr size) len h =
    ap (λ bytes. units (take size bytes)) (behind_bytes page first copy_bytes ptr len h)

pub from_the_first : (xs : List ℕ) (len : ℕ) → slice_range xs 0 len ≡ take len xs
from_the_first xs len = ap (λ n. take n xs) (omega arith)
