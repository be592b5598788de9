use Rattle.std.proofs.Common.{◌≡◌, ◌-◌, ℕ, Bool, drop, arith}
use Rattle.std.specs.Prelude.{◌==◌, not}
use Rattle.std.specs.List.{prefix_len}
use Rattle.std.proofs.lemmas.List.Sums.{prefix_len-drop_all}
use Rattle.w4_blit.proofs.CodeLaws.{passed_counted}
use Rattle.w4_blit.proofs.codes.bytes_before_zero.Goals as goal

pub returns-clause-value : goal.returns-clause-value
returns-clause-value c =
    let page = c.args.page.now in
    let p : ℕ → Bool = λ b. not (b == 0) in
    let none : prefix_len p (drop c.loop-at.at page) ≡ 0 =
    prefix_len-drop_all p page c.loop-at.at (omega arith) in
    let count : prefix_len p (drop c.min-first.result page) ≡ 65536 - c.min-first.result =
    omega (arith, c.loop-at.invariant) in
    passed_counted p page c.args.ptr c.min-first.result (65536 - c.min-first.result) c.told-page
    (omega arith) count
