use Rattle.std.proofs.Common.{◌≡◌, ℕ, suc, ◌-◌, reverse, None, ap, sym, ◌∙◌, arith}
use Rattle.std.proofs.lemmas.Result.{err_from_is_err_and}
use Rattle.wasm_read.specs.ReadExpression.{is_one_end, mark_with_positions, matched}
use Rattle.wasm_read.proofs.LoopLaws.{refused, turn_filled, turn_stopped, unmatched_left}
use Rattle.wasm_read.proofs.brackets.matched.Goals as goal

pub returns-in_err-op : goal.returns-in_err-op
returns-in_err-op c =
    let i : ℕ = c.loop-at.at - 1 in
    let there : c.loop-at.at ≡ suc i = omega arith in
    let inv = c.loop-at.invariant in
    let p = err_from_is_err_and c.from_residual.result c.from_residual.ensures.1 in
    let stopped = turn_stopped i c.loop-at.at c.args.marks c.loop-at.marks (reverse c.loop-at.closes.items)
    c.op.result there (omega arith) inv.long inv.before inv.after c.op.ensures in
    rw (p.1, p.2) (refused (mark_with_positions i c.op.result (reverse c.loop-at.closes.items) ≡ None)
    (matched c.args.marks ≡ None) stopped c.in_err-op.field-0.0 c.in_err-op.ensures)

pub loop-at-preserved : goal.loop-at-preserved
loop-at-preserved c =
    let i : ℕ = c.loop-at.at - 1 in
    let there : c.loop-at.at ≡ suc i = omega arith in
    let inv = c.loop-at.invariant in
    let t = turn_filled i c.loop-at.at c.args.marks c.loop-at.marks c.set_op.new.self
    (reverse c.loop-at.closes.items) (reverse c.placed.new.closes.items) c.op.result c.in_ok-op.op
    there (omega arith) inv.long inv.before inv.after c.op.ensures c.in_ok-op.ensures
    c.set_op.ensures in
    record { long = t.0; before = t.1; after = t.2 }

pub returns-else-is_one_end : goal.returns-else-is_one_end
returns-else-is_one_end c = unmatched_left c.loop-at.at c.args.marks c.loop-at.marks c.loop-at.closes.items
    (omega arith) c.loop-at.invariant.after
    (ap is_one_end (sym c.deref.ensures.value) ∙ sym c.is_one_end.ensures ∙ c.if-is_one_end.false)
