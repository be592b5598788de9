use Rattle.std.proofs.Common.{◌*◌, ◌/◌, ◌^◌, ap}
use Rattle.std.proofs.Math.Nat.{mod-add-mod}
use Rattle.w4_defs.specs.Generator.{seed_after}
use Rattle.wasm_write.proofs.made.Draws.next.Goals as goal

pub returns-clause-next : goal.returns-clause-next
unfolding seed_after
returns-clause-next c = mod-add-mod (c.args.self.now.number * 1664525) (2 ^ 32) 1013904223

pub returns-clause-draw : goal.returns-clause-draw
unfolding seed_after
returns-clause-draw c =
    ap (λ s. s / 65536) (mod-add-mod (c.args.self.now.number * 1664525) (2 ^ 32) 1013904223)
