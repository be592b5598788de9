use Rattle.std.proofs.Common.{◌≡◌, ◌++◌, flat_map, take}
use Rattle.w4_defs.specs.Image.{image}
use Rattle.w4_segments.proofs.filming.append_images.Given as goal

abbrev pub invariant-loop-screen : goal.invariant-loop-screen
invariant-loop-screen l = l.all.items ≡ l.fn.all.items ++ flat_map image (take l.screen-index l.screens)
