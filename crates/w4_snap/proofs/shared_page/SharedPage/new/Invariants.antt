use Rattle.std.proofs.Common.{◌≡◌, ◌+◌, ◌*◌, ◌≤◌, length, take}
use Rattle.std.specs.Prelude.{All, option_map}
use Rattle.std.specs.List.{flat_map}
use Rattle.std.specs.Rc.{rc_slice_items}
use Rattle.w4_snap.specs.Chunks.{copied_among}
use Rattle.w4_snap.proofs.shared_page.SharedPage.new.Given as goal

abbrev pub invariant-loop-k : goal.invariant-loop-k
invariant-loop-k g l = record {
  many : length l.chunks.items ≡ l.k;
  long : All (λ chunk. length (rc_slice_items chunk) ≡ 1024) l.chunks.items;
  page : flat_map rc_slice_items l.chunks.items ≡ take (1024 * l.k) l.page;
  copied : l.copied ≡ copied_among (option_map (λ p. p.now) l.before) l.page l.k;
  bound : l.copied ≤ l.k;
  ticks : l.steps ≡ l.initial.steps + l.copied;
}
