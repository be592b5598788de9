-- The machine's rotation is the sum of its two parts.
use Rattle.std.proofs.Common.{◌%◌, ◌∙◌, arith, ap}
use Rattle.std.proofs.Math.Nat.{mod-mod}
use Rattle.w4_defs.specs.Integers.{rotr}
use Rattle.wasm_num.proofs.Rotations.{rotated_right}
use Rattle.wasm_num.proofs.bits64.rotr64.Goals as goal

pub returns : goal.returns
returns c = c.rotate_right.ensures ∙ rotated_right 64 c.args.a (c.args.b % 64 % 64) (omega arith)
    c.ranges.a.fits ∙ ap (λ k. rotr 64 c.args.a k) (mod-mod c.args.b 64)
