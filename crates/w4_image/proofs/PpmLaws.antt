-- The steps of writing an image: what is written so far and the colours that are left are the image.
use Rattle.std.proofs.Common.{◌≡◌, ℕ, zero, suc, ◌+◌, ◌-◌, ◌*◌, ◌/◌, ◌%◌, ◌^◌, ◌<◌, ◌≤◌, List, [], ◌∷◌, ◌++◌}
use Rattle.std.proofs.Common.{length, take, drop, get_or, refl, sym, ◌∙◌, ap, append_assoc, arith}
use Rattle.std.proofs.lemmas.List.{take_all, append-nil, get_or-take}
use Rattle.std.proofs.lemmas.Grind.{common_steps}
use Rattle.w4_defs.specs.Bytes.{replaced}
use Rattle.w4_defs.specs.Framebuffer.{pixel}
use Rattle.w4_defs.specs.Image.{image_header, pixel_colour, pixel_colours, image}
use Rattle.w4_defs.specs.MemoryMap.{palette}
use Rattle.w4_defs.proofs.PaintLaws.{below_four}
use Rattle.w4_image.specs.Quads.{index_colour, quad_colours}

-- ---- four pixels

-- the colours of all palette indices
abbrev pub palettes : List ℕ → List ℕ
palettes page = palette page 0 ++ palette page 1 ++ palette page 2 ++ palette page 3

picked : (page : List ℕ) (index : ℕ) → index < 4 → index_colour (palettes page) index ≡ palette page index
picked page index h =
    let P : ℕ → Type 0 = λ k. index_colour (palettes page) k ≡ palette page k in
    below_four P refl refl refl refl index h

-- the k-th of the pixels in a byte
pixel_in_byte : (page : List ℕ) (q k : ℕ) → k < 4
    → pixel page ((4 * q + k) % 160) ((4 * q + k) / 160) ≡ get_or page (160 + q) 0 / 4 ^ k % 4
pixel_in_byte page q k h =
    let byte_is : (160 * ((4 * q + k) / 160) + (4 * q + k) % 160) / 4 ≡ q = omega arith in
    let digit : (4 * q + k) % 160 % 4 ≡ k = omega arith in
    rw (byte_is, digit) refl

colour_in_byte : (page : List ℕ) (q k n index : ℕ) → k < 4 → n ≡ 4 * q + k
    → index ≡ get_or page (160 + q) 0 / 4 ^ k % 4
    → index_colour (palettes page) index ≡ pixel_colour page n
colour_in_byte page q k n index h en e =
    picked page index (omega arith)
    ∙ ap (palette page) (e ∙ sym (pixel_in_byte page q k h) ∙ ap (λ m. pixel page (m % 160) (m / 160)) (sym
    en))

four_colours : (page : List ℕ) (n : ℕ)
    → pixel_colours page n 4
    ≡ pixel_colour page n ++ pixel_colour page (n + 1) ++ pixel_colour page (n + 1 + 1)
    ++ pixel_colour page (n + 1 + 1 + 1)
unfolding pixel_colours
four_colours page n = refl

together : (a b c d i j k l : List ℕ) → a ≡ i → b ≡ j → c ≡ k → d ≡ l
    → a ++ b ++ c ++ d ≡ i ++ j ++ k ++ l
together a b c d i j k l ea eb ec ed = rw (ea, eb, ec, ed) refl

-- the twelve bytes of four pixels, by the four digits of their byte
by_digits : (page colours : List ℕ) (q a b c d : ℕ) → colours ≡ palettes page
    → a ≡ get_or page (160 + q) 0 % 4 → b ≡ get_or page (160 + q) 0 / 4 % 4
    → c ≡ get_or page (160 + q) 0 / 16 % 4 → d ≡ get_or page (160 + q) 0 / 64 % 4
    → index_colour colours a ++ index_colour colours b ++ index_colour colours c ++ index_colour colours d
    ≡ pixel_colours page (4 * q) 4
by_digits page colours q a b c d e ea eb ec ed =
    let n = 4 * q in
    rw e (together _ _ _ _ _ _ _ _
    (colour_in_byte page q 0 n a (omega arith) (omega arith) (ea ∙ omega arith))
    (colour_in_byte page q 1 (n + 1) b (omega arith) (omega arith) eb)
    (colour_in_byte page q 2 (n + 1 + 1) c (omega arith) (omega arith) ec)
    (colour_in_byte page q 3 (n + 1 + 1 + 1) d (omega arith) (omega arith) ed)
    ∙ sym (four_colours page n))

pub quad_in_page : (page colours : List ℕ) (q : ℕ) → colours ≡ palettes page
    → quad_colours colours (get_or page (160 + q) 0) ≡ pixel_colours page (4 * q) 4
quad_in_page page colours q e = by_digits page colours q _ _ _ _ e refl refl refl refl

-- ---- the loop

pub image_starts : (page out : List ℕ)
    → take 15 (image_header ++ drop 15 out) ++ pixel_colours page 0 25600 ≡ image page
unfolding image
image_starts page out = refl

shown_next : (page : List ℕ) (n next count rest : ℕ) → next ≡ n + 1 + 1 + 1 + 1
    → count ≡ suc (suc (suc (suc rest)))
    → pixel_colours page n count ≡ pixel_colours page n 4 ++ pixel_colours page next rest
unfolding pixel_colours
shown_next page n next count rest en ec =
    ap (pixel_colours page n) ec ∙ ap (λ m. pixel_colours page n 4 ++ pixel_colours page m rest) (sym en)

length-four : (page : List ℕ) (n : ℕ) → length (pixel_colours page n 4) ≡ 12
unfolding pixel_colours
length-four page n = refl

front : (out colours : List ℕ) (at next : ℕ) → length colours ≡ 12 → next ≡ at + 12 → next ≤ length out
    → take next (replaced out at 12 colours) ≡ take at out ++ colours
front out colours at next twelve e h = grind (arith, common_steps)

-- four more pixels
pub image_more : (page out next colours : List ℕ) (q : ℕ) → q < 6400 → length out ≡ 76815
    → colours ≡ pixel_colours page (4 * q) 4
    → next ≡ replaced out (15 + 12 * q) 12 colours
    → take (15 + 12 * q) out ++ pixel_colours page (4 * q) (25600 - 4 * q) ≡ image page
    → take (15 + 12 * (q + 1)) next ++ pixel_colours page (4 * (q + 1)) (25600 - 4 * (q + 1)) ≡ image page
image_more page out next colours q h len ec en so_far =
    let at = 15 + 12 * q in
    let rest = pixel_colours page (4 * (q + 1)) (25600 - 4 * (q + 1)) in
    let further : pixel_colours page (4 * q) (25600 - 4 * q) ≡ pixel_colours page (4 * q) 4 ++ rest =
    shown_next page (4 * q) (4 * (q + 1)) (25600 - 4 * q) (25600 - 4 * (q + 1)) (omega arith) (omega arith) in
    ap (λ o. take (15 + 12 * (q + 1)) o ++ rest) en
    ∙ ap (λ f. f ++ rest) (front out colours at (15 + 12 * (q + 1))
    (ap length ec ∙ length-four page (4 * q)) (omega arith) (omega arith))
    ∙ append_assoc (take at out) colours rest
    ∙ ap (λ t. take at out ++ (t ++ rest)) ec
    ∙ ap (λ t. take at out ++ t) (sym further)
    ∙ so_far

-- all pixels
pub image_done : (page out : List ℕ) (q : ℕ) → q ≡ 6400 → length out ≡ 76815
    → take (15 + 12 * q) out ++ pixel_colours page (4 * q) (25600 - 4 * q) ≡ image page → out ≡ image page
unfolding pixel_colours
image_done page out q e len so_far =
    let none : 25600 - 4 * q ≡ 0 = omega arith in
    let whole : take (15 + 12 * q) out ≡ out = take_all (15 + 12 * q) out (omega arith) in
    sym (ap (λ m. take (15 + 12 * q) out ++ pixel_colours page (4 * q) m) none
    ∙ append-nil (take (15 + 12 * q) out)
    ∙ whole) ∙ so_far

-- ---- the screen of a page has its image

module _ (page : List ℕ) where
  abbrev screen : List ℕ
  screen = take 6560 page

  screen_palette : (index : ℕ) → index < 4 → palette screen index ≡ palette page index
  screen_palette index h =
      let at = 4 + 4 * index in
      (λ k. get_or-take 6560 page (at + 2) 0 (omega arith) k
      ∷ get_or-take 6560 page (at + 1) 0 (omega arith) k
      ∷ get_or-take 6560 page at 0 (omega arith) k ∷ [])

  screen_pixel : (n : ℕ) → n < 25600 → pixel screen (n % 160) (n / 160) ≡ pixel page (n % 160) (n / 160)
  screen_pixel n h =
      ap (λ byte. byte / 4 ^ (n % 160 % 4) % 4)
      (get_or-take 6560 page (160 + (160 * (n / 160) + n % 160) / 4) 0 (omega (arith, h)))

  screen_colour : (n : ℕ) → n < 25600 → pixel_colour screen n ≡ pixel_colour page n
  screen_colour n h =
      ap (palette screen) (screen_pixel n h)
      ∙ screen_palette (pixel page (n % 160) (n / 160)) (omega arith)

  screen_colours : (count n : ℕ) → n + count ≤ 25600
      → pixel_colours screen n count ≡ pixel_colours page n count
  unfolding pixel_colours
  screen_colours zero n h = refl
  screen_colours (suc count) n h =
      (λ k. screen_colour n (omega (arith, h)) k ++ screen_colours count (n + 1) (omega (arith, h)) k)

  pub screen_image : image screen ≡ image page
  unfolding image
  screen_image = ap (λ colours. image_header ++ colours) (screen_colours 25600 0 (omega arith))
