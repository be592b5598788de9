use Rattle.std.proofs.Common.{ℕ, ◌≤◌, length, List, ap, ◌∙◌, arith}
use Rattle.std.proofs.lemmas.List.{length-take-le}
use Rattle.w4_devices.proofs.trace_log.TraceLog.copy_from.Goals as goal

pub push-requires : goal.push-requires
push-requires c =
    let lines = c.args.other.now.items in
    let all = ap (λ (xs : List (List ℕ)). length xs) c.lines-line-items.ensures.lines in
    let here = c.loop-line-test.true in
    let few = c.lines-line-items.ensures.few in
    let there : c.loop-line.line-index ≤ length lines = omega (arith, here, all) in
    let many = ap (λ (xs : List (List ℕ)). length xs) c.loop-line.invariant
    ∙ length-take-le c.loop-line.line-index lines there in
    (omega arith, omega (arith, many, here, few))
