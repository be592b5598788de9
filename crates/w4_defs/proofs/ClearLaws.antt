-- A cleared framebuffer, byte by byte and as the painted page.
use Rattle.std.proofs.Common.{◌≡◌, ℕ, ◌+◌, ◌-◌, ◌*◌, ◌/◌, ◌%◌, ◌^◌, ◌<◌, ◌≤◌, ◌⊎◌, inl, inr, List, ◌++◌, take, drop, replicate, length, length-append, get_or, Some, refl, ◌∙◌, ap, arith}
use Rattle.std.proofs.lemmas.List.{get_or_append_left, get_or-take, get_or-drop, get_or-replicate, length-take-le, length-drop, length-replicate}
use Rattle.std.proofs.Math.Seq.{get_or-append_right}
use Rattle.std.proofs.Math.Nat.{zero-div}
use Rattle.w4_defs.proofs.PaintLaws.{paint_only}
use Rattle.w4_defs.specs.Bytes.{replaced}
use Rattle.w4_defs.specs.Framebuffer.{Painter, pixel, Paints}
use Rattle.w4_defs.specs.State.{page_size}
use Rattle.w4_defs.specs.Frame.{cleared, ClearedIsPainted}

abbrev zero_painter : Painter
zero_painter x y = Some 0

-- three lists, one after another, by index
first_part : (a b c : List ℕ) (i : ℕ) → i < length a → get_or (a ++ b ++ c) i 0 ≡ get_or a i 0
first_part a b c i h =
    get_or_append_left (a ++ b) c 0 i (omega (arith, length-append a b)) ∙ get_or_append_left a b 0 i h

middle_part : (a b c : List ℕ) (i : ℕ) → length a ≤ i → i < length a + length b
    → get_or (a ++ b ++ c) i 0 ≡ get_or b (i - length a) 0
middle_part a b c i h k =
    get_or_append_left (a ++ b) c 0 i (omega (arith, length-append a b)) ∙ get_or-append_right a b i 0 h

last_part : (a b c : List ℕ) (i : ℕ) → length a + length b ≤ i
    → get_or (a ++ b ++ c) i 0 ≡ get_or c (i - (length a + length b)) 0
last_part a b c i h =
    get_or-append_right (a ++ b) c i 0 (omega (arith, length-append a b))
    ∙ ap (λ n. get_or c (i - n) 0) (length-append a b)

-- so many zeros over a page from an address on
over_zeros : List ℕ → ℕ → ℕ → List ℕ
over_zeros page at count = replaced page at count (replicate count 0)

before_zeros : (page : List ℕ) (at count i : ℕ) → at ≤ length page → i < at
    → get_or (over_zeros page at count) i 0 ≡ get_or page i 0
unfolding over_zeros
before_zeros page at count i room h =
    let len : length (take at page) ≡ at = length-take-le at page room in
    first_part (take at page) (replicate count 0) (drop (at + count) page) i (omega (arith, len))
    ∙ get_or-take at page i 0 h

within_zeros : (page : List ℕ) (at count i : ℕ) → at ≤ length page → at ≤ i → i < at + count
    → get_or (over_zeros page at count) i 0 ≡ 0
unfolding over_zeros
within_zeros page at count i room h k =
    let len : length (take at page) ≡ at = length-take-le at page room in
    let zeros : length {A = ℕ} (replicate count 0) ≡ count = length-replicate count 0 in
    middle_part (take at page) (replicate count 0) (drop (at + count) page) i (omega (arith, len))
    (omega (arith, len, zeros))
    ∙ get_or-replicate count (i - length (take at page)) 0 0 (omega (arith, len))

after_zeros : (page : List ℕ) (at count i : ℕ) → at ≤ length page → at + count ≤ i
    → get_or (over_zeros page at count) i 0 ≡ get_or page i 0
unfolding over_zeros
after_zeros page at count i room h =
    let len : length (take at page) ≡ at = length-take-le at page room in
    let zeros : length {A = ℕ} (replicate count 0) ≡ count = length-replicate count 0 in
    let same : (at + count) + (i - (length (take at page) + length {A = ℕ} (replicate count 0))) ≡ i =
    omega (arith, len, zeros) in
    last_part (take at page) (replicate count 0) (drop (at + count) page) i (omega (arith, len, zeros))
    ∙ (get_or-drop (at + count) page (i - (length (take at page) + length {A = ℕ} (replicate count 0))) 0
    ∙ ap (λ n. get_or page n 0) same)

length-over_zeros : (page : List ℕ) (at count : ℕ) → at + count ≤ length page
    → length (over_zeros page at count) ≡ length page
unfolding over_zeros
length-over_zeros page at count room =
    let a = take at page in
    let b : List ℕ = replicate count 0 in
    let c = drop (at + count) page in
    omega (
      arith,
      length-append (a ++ b) c,
      length-append a b,
      length-take-le at page (omega arith),
      length-replicate {A = ℕ} count 0,
      length-drop (at + count) page,
    )

cleared_is : (page : List ℕ) → cleared page ≡ over_zeros page 160 6400
unfolding cleared over_zeros
cleared_is page = refl

cleared_byte : (page : List ℕ) (i : ℕ) → length page ≡ page_size → 160 ≤ i → i < 6560
    → get_or (cleared page) i 0 ≡ 0
cleared_byte page i len h k = ap (λ bytes. get_or bytes i 0) (cleared_is page)
    ∙ within_zeros page 160 6400 i (omega arith) h (omega arith)

cleared_pixel : (page : List ℕ) (x y : ℕ) → length page ≡ page_size → x < 160 → y < 160
    → pixel (cleared page) x y ≡ 0
cleared_pixel page x y len hx hy =
    ap (λ b. b / 4 ^ (x % 4) % 4)
    (cleared_byte page (160 + (160 * y + x) / 4) len (omega arith) (omega arith))
    ∙ ap (λ b. b % 4) (zero-div (4 ^ (x % 4)))

cleared_outside : (page : List ℕ) (i : ℕ) → length page ≡ page_size → (i < 160) ⊎ (6560 ≤ i)
    → get_or (cleared page) i 0 ≡ get_or page i 0
cleared_outside page i len (inl h) = ap (λ bytes. get_or bytes i 0) (cleared_is page)
    ∙ before_zeros page 160 6400 i (omega arith) h
cleared_outside page i len (inr h) = ap (λ bytes. get_or bytes i 0) (cleared_is page)
    ∙ after_zeros page 160 6400 i (omega arith) h

-- clearing in the words of painting
pub clears : (page : List ℕ) → length page ≡ page_size → Paints page (cleared page) zero_painter
clears page len = record {
  pixels = λ x y hx hy. cleared_pixel page x y len hx hy;
  outside = λ i h. cleared_outside page i len h;
  len = ap length (cleared_is page) ∙ length-over_zeros page 160 6400 (omega arith);
  bytes = λ i h k. omega (arith, cleared_byte page i len h k);
}

pub cleared_is_painted : ClearedIsPainted
cleared_is_painted page len = paint_only page (cleared page) zero_painter len (clears page len)
