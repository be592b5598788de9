use Rattle.std.proofs.Common.{◌≡◌, ℕ, ◌+◌, ◌*◌, ◌/◌, ◌%◌, ◌^◌, ◌<◌, [], ◌∷◌, ◌∙◌, ap, get_or, arith}
use Rattle.w4_defs.proofs.PaintLaws.{below_four}
use Rattle.w4_blit.proofs.StripLaws.{word_written}
use Rattle.w4_blit.proofs.WindowLaws.{four_bytes}
use Rattle.w4_blit.proofs.strips.put_strip.Goals as goal

pub returns : goal.returns
returns c =
    let page = c.args.page.now in
    let row = c.args.row in
    let q = c.args.q in
    let strip = c.args.strip in
    let at = 160 + (40 * row + q) in
    let a = c.from-a.result in
    let b = c.from-b.result in
    let d = c.from-c.result in
    let e = c.from-d.result in
    let ha : a < 256 = omega (arith, c.from-a.ensures, c.fits-page at) in
    let hb : b < 256 = omega (arith, c.from-b.ensures, c.fits-page (at + 1)) in
    let hd : d < 256 = omega (arith, c.from-c.ensures, c.fits-page (at + 2)) in
    let he : e < 256 = omega (arith, c.from-d.ensures, c.fits-page (at + 3)) in
    let Q : ℕ → Type 0 = λ i. get_or (a ∷ b ∷ d ∷ e ∷ []) i 0 ≡ get_or page (160 + (40 * row + (q + i))) 0 in
    let byte = λ (i : ℕ) (hi : i < 4). below_four Q
    (c.from-a.ensures ∙ ap (λ (j : ℕ). get_or page j 0) (omega arith))
    (c.from-b.ensures ∙ ap (λ (j : ℕ). get_or page j 0) (omega arith))
    (c.from-c.ensures ∙ ap (λ (j : ℕ). get_or page j 0) (omega arith))
    (c.from-d.ensures ∙ ap (λ (j : ℕ). get_or page j 0) (omega arith)) i hi in
    word_written page row q c.chosen-word.result at (at + 1) (at + 2) (at + 3) (c.chosen-word.result % 256)
    strip
    c.told-page c.fits-page c.requires.row c.requires.column c.args.strip.given (omega arith) (omega arith)
    (omega arith) (omega arith) (omega arith)
    (λ k hk none. c.chosen-word.ensures.word k hk none ∙ four_bytes a b d e ha hb hd he k
    ∙ ap (λ (n : ℕ). n / 4 ^ (k % 4) % 4) (byte (k / 4) (omega arith)))
    (λ k hk all. c.chosen-word.ensures.other k hk all)
