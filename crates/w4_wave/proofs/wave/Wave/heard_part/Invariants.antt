use Rattle.std.proofs.Common.{◌≡◌, length}
use Rattle.w4_wave.specs.Outputs.{IsPart}
use Rattle.w4_wave.proofs.wave.Wave.heard_part.Given as goal

abbrev pub invariant-loop-tick : goal.invariant-loop-tick
invariant-loop-tick l = record {
  left_long : length l.part.left ≡ 735;
  right_long : length l.part.right ≡ 735;
  part : IsPart l.self l.channel l.tick l.part;
}
