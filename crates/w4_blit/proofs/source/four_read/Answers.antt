use Rattle.std.proofs.Common.{◌≡◌, ℕ, ◌+◌, ◌-◌, [], ◌∷◌, get_or, ◌∙◌, ap, arith}
use Rattle.w4_defs.proofs.PaintLaws.{below_four}
use Rattle.w4_blit.specs.FramebufferCopy.{page_of}
use Rattle.w4_blit.proofs.source.four_read.Goals as goal

pub returns-clause-bytes : goal.returns-clause-bytes
returns-clause-bytes c = λ i hi.
    let page = page_of c.args.source in
    let at = c.args.at in
    let start : at ≡ at + 0 = omega arith in
    let P : ℕ → Type 0 = λ i. get_or (c.byte_at-4.result ∷ c.byte_at-3.result ∷ c.byte_at-2.result
    ∷ c.byte_at.result ∷ []) i 0 ≡ get_or page (at + (3 - i)) 0 in
    c.four_of.ensures.bytes i hi
    ∙ below_four P c.byte_at-4.ensures c.byte_at-3.ensures c.byte_at-2.ensures
    (c.byte_at.ensures ∙ ap (λ (j : ℕ). get_or page j 0) start) i hi
