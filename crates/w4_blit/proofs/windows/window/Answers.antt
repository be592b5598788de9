use Rattle.std.proofs.Common.{◌≡◌, ℕ, ◌+◌, ◌-◌, ◌*◌, ◌/◌, ◌%◌, ◌^◌, ◌<◌, get_or, ◌∙◌, ap, arith}
use Rattle.w4_blit.specs.FramebufferCopy.{page_of}
use Rattle.w4_blit.proofs.ByteLaws.{digit_at}
use Rattle.w4_blit.proofs.windows.window.Goals as goal

pub returns : goal.returns
returns c = λ k hk.
    let page = page_of c.args.source in
    let ptr = c.args.ptr in
    let pixel = c.args.pixel in
    let word = c.eight_from-word.result in
    let i = 7 - (pixel % 4 + k) / 4 in
    let m = 3 - (pixel % 4 + k) % 4 in
    let hi : i < 8 = omega arith in
    let digit : 16 - pixel % 4 + (15 - k) ≡ 4 * i + m = omega arith in
    let byte : c.from.result + pixel / 4 + (7 - i) ≡ ptr + (pixel + k) / 4 = omega (arith, c.from.ensures) in
    let place : m ≡ 3 - (pixel + k) % 4 = omega arith in
    c.sixteen_of.ensures (15 - k) (omega arith)
    ∙ digit_at word i m (16 - pixel % 4 + (15 - k)) (omega arith) digit
    ∙ ap (λ (b : ℕ). b / 4 ^ m % 4) (c.eight_from-word.ensures i hi)
    ∙ ap (λ (j : ℕ). get_or page j 0 / 4 ^ m % 4) byte
    ∙ ap (λ (d : ℕ). get_or page (ptr + (pixel + k) / 4) 0 / 4 ^ d % 4) place
