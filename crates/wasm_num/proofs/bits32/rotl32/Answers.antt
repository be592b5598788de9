-- The machine's rotation is the sum of its two parts.
use Rattle.std.proofs.Common.{◌%◌, ◌∙◌, arith}
use Rattle.wasm_num.proofs.Rotations.{rotated_left}
use Rattle.wasm_num.proofs.bits32.rotl32.Goals as goal

pub returns : goal.returns
returns c = c.rotate_left.ensures ∙ rotated_left 32 c.args.a (c.args.b % 32) (omega arith) c.ranges.a.fits
