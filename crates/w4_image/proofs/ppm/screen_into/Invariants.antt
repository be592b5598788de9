use Rattle.std.proofs.Common.{◌≡◌, ◌+◌, ◌-◌, ◌*◌, ◌++◌, length, take}
use Rattle.w4_defs.specs.Image.{pixel_colours, image}
use Rattle.w4_image.proofs.ppm.screen_into.Given as goal

abbrev pub invariant-loop-q : goal.invariant-loop-q
invariant-loop-q l = record {
  whole : length l.out ≡ 76815;
  so_far : take (15 + 12 * l.q) l.out ++ pixel_colours l.screen (4 * l.q) (25600 - 4 * l.q) ≡ image l.screen;
}
