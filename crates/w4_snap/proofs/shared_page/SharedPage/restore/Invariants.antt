use Rattle.std.proofs.Common.{◌≡◌, ◌*◌, length, take}
use Rattle.w4_snap.proofs.shared_page.SharedPage.restore.Given as goal

abbrev pub invariant-loop-k : goal.invariant-loop-k
invariant-loop-k l = record {
  done : take (1024 * l.k) l.page ≡ take (1024 * l.k) l.self;
  long : length l.page ≡ 65536;
}
