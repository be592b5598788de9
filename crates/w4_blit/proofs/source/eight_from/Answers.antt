use Rattle.std.proofs.Common.{◌+◌, ◌-◌, sym, ◌∙◌, inr, arith}
use Rattle.w4_blit.proofs.FramebufferCopyLaws.{kept_outside}
use Rattle.w4_blit.proofs.source.eight_from.Goals as goal

pub returns-then-at-le65528 : goal.returns-then-at-le65528
returns-then-at-le65528 c = λ i hi.
    c.eight_there.ensures i hi
    ∙ sym (kept_outside c.args.source.page.now c.args.source.kept.first c.args.source.kept.bytes.now
    (c.args.at + (7 - i)) (omega arith)
    (inr (omega arith)))
