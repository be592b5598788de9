use Rattle.std.proofs.Common.{◌≡◌, ℕ, ◌<◌, [], length, get_or}
use Rattle.w4_image.specs.Quads.{quad_colours}
use Rattle.w4_image.proofs.ppm.fill_quads.Given as goal

abbrev pub invariant-loop-byte : goal.invariant-loop-byte
invariant-loop-byte l = record {
  whole : length l.quads ≡ 256;
  quads_before : (k : ℕ) → k < l.byte → get_or l.quads k [] ≡ quad_colours l.colors k;
}
