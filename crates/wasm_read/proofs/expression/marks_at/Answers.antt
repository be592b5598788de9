use Rattle.std.proofs.Common.{◌≡◌, ℕ, suc, ◌+◌, ◌-◌, length, List, [], ◌∷◌, ◌++◌, None, ap, ◌∙◌, arith}
use Rattle.std.proofs.lemmas.Result.{err_from_is_err_and}
use Rattle.w4_defs.specs.Tree.{Mark}
use Rattle.wasm_read.specs.Combine.{after_items}
use Rattle.wasm_read.specs.ReadExpression.{mark_at, marks_at}
use Rattle.wasm_read.proofs.LoopLaws.{refused, marks_more, marks_none, depth_at_most}
use Rattle.wasm_read.proofs.expression.marks_at.Goals as goal

pub returns-in_err-more : goal.returns-in_err-more
returns-in_err-more c =
    let left : length c.args.bytes.now - c.loop.counter
    ≡ suc (length c.args.bytes.now - (c.loop.counter + 1)) = omega arith in
    let p = err_from_is_err_and c.from_residual-in_err-more.result c.from_residual-in_err-more.ensures.1 in
    rw (p.1, p.2) (refused (mark_at c.loop.rest.now ≡ None)
    (marks_at (length c.args.bytes.now) 1 c.args.bytes.now ≡ None)
    (marks_none c.loop.marks c.loop.depth _ _ c.loop.rest.now _ c.loop.invariant.more left)
    c.in_err-more.field-0.0 c.in_err-more.ensures)

pub loop-preserved : goal.loop-preserved
loop-preserved c =
    let h = c.in_ok-more.ensures in
    let op = c.in_ok-more.op in
    let m : Mark = (op, h.0) in
    let count : ℕ = length c.args.bytes.now - (c.loop.counter + 1) in
    let left : length c.args.bytes.now - c.loop.counter ≡ suc count = omega arith in
    let depth = c.depth_after-depth.ensures in
    let after : List ℕ = c.in_ok-more.after.now in
    let next = marks_more c.loop.marks m c.loop.depth _ count c.loop.rest.now after _ c.loop.invariant.more
    left h.1 (λ z. c.if-depth-eq0.false (depth ∙ z)) in
    record {
      few = omega (arith, depth, depth_at_most op c.loop.depth);
      more =
          ap (λ ms. after_items ms (marks_at count c.depth_after-depth.result after)) h.2
          ∙ ap (λ d. after_items (c.loop.marks ++ m ∷ []) (marks_at count d after)) depth ∙ next;
    }
