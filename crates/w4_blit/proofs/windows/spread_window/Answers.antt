use Rattle.std.proofs.Common.{◌≡◌, ℕ, ◌+◌, ◌-◌, ◌*◌, ◌/◌, ◌%◌, ◌^◌, get_or, ◌∙◌, ap, arith}
use Rattle.w4_blit.specs.FramebufferCopy.{page_of}
use Rattle.w4_blit.proofs.WindowLaws.{of_words}
use Rattle.w4_blit.proofs.windows.spread_window.Goals as goal

pub returns : goal.returns
returns c = λ k hk.
    let page = page_of c.args.source in
    let at = c.from.result + c.args.pixel / 8 in
    let from_ptr : at ≡ c.args.ptr + c.args.pixel / 8 = omega (arith, c.from.ensures) in
    let start : at + 0 ≡ at = omega arith in
    let bytes = c.eight_from-word.ensures in
    c.wide_digits_from.ensures k hk
    ∙ of_words page c.args.ptr c.args.pixel at k c.spread-a.result c.spread-b.result c.spread-c.result
    from_ptr hk
    (λ m hm. c.spread-a.ensures m hm ∙ ap (λ (n : ℕ). 3 * (n / 2 ^ (7 - m) % 2))
    (c.byte_of.ensures ∙ bytes 7 (omega arith) ∙ ap (λ (j : ℕ). get_or page j 0) start))
    (λ m hm. c.spread-b.ensures m hm ∙ ap (λ (n : ℕ). 3 * (n / 2 ^ (7 - m) % 2))
    (c.byte_of-2.ensures ∙ bytes 6 (omega arith)))
    (λ m hm. c.spread-c.ensures m hm ∙ ap (λ (n : ℕ). 3 * (n / 2 ^ (7 - m) % 2))
    (c.byte_of-3.ensures ∙ bytes 5 (omega arith)))
