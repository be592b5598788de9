use Rattle.std.proofs.Common.{get_or, sym, ap, inl, inr, ◌∙◌, arith}
use Rattle.w4_blit.proofs.FramebufferCopyLaws.{kept_outside, kept_inside, kept_past}
use Rattle.w4_blit.proofs.source.byte_at.Goals as goal

pub returns-then-at-ge65536 : goal.returns-then-at-ge65536
returns-then-at-ge65536 c =
    sym (kept_past c.args.source.page.now c.args.source.kept.first c.args.source.kept.bytes.now c.args.at
    (omega arith))

pub returns-then-at : goal.returns-then-at
returns-then-at c =
    sym (kept_outside c.args.source.page.now c.args.source.kept.first c.args.source.kept.bytes.now c.args.at
    (omega arith)
    (inr (omega arith)))

pub returns-then-at-2 : goal.returns-then-at-2
returns-then-at-2 c =
    sym (kept_outside c.args.source.page.now c.args.source.kept.first c.args.source.kept.bytes.now c.args.at
    (omega arith)
    (inl (omega arith)))

pub returns-else-at-2 : goal.returns-else-at-2
returns-else-at-2 c =
    c.copied_byte.ensures
    ∙ ap (λ i. get_or c.args.source.kept.bytes.now i 0) c.saturating_sub.ensures
    ∙ sym (kept_inside c.args.source.page.now c.args.source.kept.first c.args.source.kept.bytes.now c.args.at
    (omega arith)
    (omega arith)
    (omega arith))
