use Rattle.std.proofs.Common.{◌≡◌, ℕ, ◌+◌, ◌-◌, get_or, sym, ◌∙◌, ap, arith}
use Rattle.w4_blit.proofs.FramebufferCopyLaws.{kept_inside}
use Rattle.w4_blit.proofs.source.eight_inside.Goals as goal

pub returns-then-has_eight : goal.returns-then-has_eight
returns-then-has_eight c = λ i hi.
    let a = c.args in
    let there = c.has_eight.ensures c.if-has_eight.true in
    let at = a.at + (7 - i) in
    let byte : a.at - a.source.kept.first + (7 - i) ≡ at - a.source.kept.first = omega (arith, there) in
    c.eight_there.ensures i hi ∙ ap (λ (j : ℕ). get_or a.source.kept.bytes.now j 0) byte
    ∙ sym (kept_inside a.source.page.now a.source.kept.first a.source.kept.bytes.now at (omega (
      arith,
      there,
    )) (omega (arith, there))
    (omega (arith, there)))
