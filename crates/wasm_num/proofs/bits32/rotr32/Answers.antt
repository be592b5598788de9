-- The machine's rotation is the sum of its two parts.
use Rattle.std.proofs.Common.{◌%◌, ◌∙◌, arith}
use Rattle.wasm_num.proofs.Rotations.{rotated_right}
use Rattle.wasm_num.proofs.bits32.rotr32.Goals as goal

pub returns : goal.returns
returns c = c.rotate_right.ensures ∙ rotated_right 32 c.args.a (c.args.b % 32) (omega arith) c.ranges.a.fits
