use Rattle.std.proofs.Common.{◌≡◌, ◌-◌, ◌*◌, ◌++◌, length, take}
use Rattle.w4_defs.specs.Sound.{frame_samples}
use Rattle.w4_wave.proofs.FrameSteps.{samples_left}
use Rattle.w4_wave.proofs.wave.Wave.sound.Given as goal

abbrev pub invariant-loop-tick : goal.invariant-loop-tick
invariant-loop-tick l = record {
  whole : length l.out ≡ 2940;
  so_far : take (4 * l.tick) l.out ++ samples_left l.fn.self l.tick (735 - l.tick) ≡ frame_samples l.fn.self;
}
