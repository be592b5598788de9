use Rattle.std.proofs.Common.{◌≡◌, ◌*◌, take}
use Rattle.w4_snap.proofs.shared_page.SharedPage.same.Given as goal

abbrev pub invariant-loop-k : goal.invariant-loop-k
invariant-loop-k l = take (1024 * l.k) l.self ≡ take (1024 * l.k) l.page
