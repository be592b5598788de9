use Rattle.std.proofs.Common.{◌≡◌, ℕ, ◌+◌, ◌-◌, get_or, ◌∙◌, ap, arith}
use Rattle.w4_blit.specs.FramebufferCopy.{page_of}
use Rattle.w4_blit.proofs.ByteLaws.{eight_numbers}
use Rattle.w4_blit.proofs.source.eight_read.Goals as goal

pub returns : goal.returns
returns c = λ i hi.
    let page = page_of c.args.source in
    let get : ℕ → ℕ = λ j. get_or page (c.args.at + j) 0 in
    eight_numbers get c.four_read-first.result c.four_read.result i c.four_read.ensures.bound hi
    c.four_read-first.ensures.bytes
    (λ j hj. (
    let more : c.args.at + 4 + (3 - j) ≡ c.args.at + (7 - j) = omega arith in
    c.four_read.ensures.bytes j hj ∙ ap (λ (m : ℕ). get_or page m 0) more))
