-- The laws of the registers and of the image's length.
use Rattle.std.proofs.Common.{◌≡◌, ℕ, zero, suc, ◌+◌, ◌*◌, ◌<◌, ◌≤◌, ◌⊎◌, List, ◌++◌, length, get_or, take, drop, refl, ◌∙◌, inl, arith}
use Rattle.std.proofs.lemmas.Grind.{common_steps}
use Rattle.w4_defs.specs.Framebuffer.{paint}
use Rattle.w4_defs.specs.MemoryMap.{input_bytes, InputIsPut, PaintLeavesRegisters}
use Rattle.w4_defs.specs.Image.{pixel_colours, image}
use Rattle.w4_defs.proofs.PaintLaws.{paint-outside}

-- a list whose middle was put in place of as many elements
pub spliced : (xs mid : List ℕ) (at next : ℕ) → length mid + at ≡ next → next ≤ length xs →
    (length (take at xs ++ mid ++ drop next xs) ≡ length xs)
    × ((k : ℕ) → k < length mid → get_or (take at xs ++ mid ++ drop next xs) (at + k) 0 ≡ get_or mid k 0)
    × ((i : ℕ) → (i < at) ⊎ (next ≤ i) → get_or (take at xs ++ mid ++ drop next xs) i 0 ≡ get_or xs i 0)
spliced xs mid at next e h = (
  grind (arith, common_steps),
  λ k hk. grind (arith, common_steps),
  λ i out. grind (arith, common_steps),
)

pub input_is_put : InputIsPut
input_is_put page input len =
    let all = spliced page (input_bytes input) 22 31 refl (omega arith) in
    (all.0 ∙ len, all.1, all.2)

pub paint_leaves_registers : PaintLeavesRegisters
paint_leaves_registers page f len =
    let same : (i : ℕ) → i < 160 → get_or (paint page f) i 0 ≡ get_or page i 0 =
    λ i h. paint-outside page f i (inl h) in (
      rw (same 20 (omega arith), same 21 (omega arith)) refl,
      same 31 (omega arith),
      λ index h. rw (
        same (4 + 4 * index + 2) (omega arith),
        same (4 + 4 * index + 1) (omega arith),
        same (4 + 4 * index) (omega arith),
      ) refl,
    )

pub length-shown_from : (page : List ℕ) (n count : ℕ) → length (pixel_colours page n count) ≡ 3 * count
unfolding pixel_colours
length-shown_from page n zero = refl
length-shown_from page n (suc count) = let rest : length (pixel_colours page (n + 1) count) ≡ 3 * count =
    length-shown_from page (n + 1) count in omega arith

pub length-image : (page : List ℕ) → length (image page) ≡ 76815
unfolding image
length-image page = let all : length (pixel_colours page 0 25600) ≡ 3 * 25600 =
    length-shown_from page 0 25600 in omega arith
