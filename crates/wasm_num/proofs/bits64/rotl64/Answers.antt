-- The machine's rotation is the sum of its two parts.
use Rattle.std.proofs.Common.{◌%◌, ◌∙◌, arith, ap}
use Rattle.std.proofs.Math.Nat.{mod-mod}
use Rattle.w4_defs.specs.Integers.{rotl}
use Rattle.wasm_num.proofs.Rotations.{rotated_left}
use Rattle.wasm_num.proofs.bits64.rotl64.Goals as goal

pub returns : goal.returns
returns c = c.rotate_left.ensures ∙ rotated_left 64 c.args.a (c.args.b % 64 % 64) (omega arith)
    c.ranges.a.fits ∙ ap (λ k. rotl 64 c.args.a k) (mod-mod c.args.b 64)
