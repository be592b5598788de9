use Rattle.std.proofs.Common.{◌+◌, ◌*◌, ◌∙◌, ap, arith, refl}
use Rattle.w4_defs.specs.Generator.{seed_after}
use Rattle.wasm_write.proofs.DrawLaws.{later_seed, one_more_function}
use Rattle.wasm_write.proofs.made.bodies.Goals as goal

pub loop-g-init : goal.loop-g-init
unfolding seed_after
loop-g-init c = record { drawn = refl; items = c.new-bodies.ensures.items }

pub loop-g-preserved : goal.loop-g-preserved
loop-g-preserved c =
    let n = c.args.draws.now.number in
    let loop = c.loop-g in
    record {
      drawn =
          c.in_ok-small_function.ensures.draws
          ∙ ap (λ s. seed_after s 3) loop.invariant.drawn
          ∙ later_seed n (3 * loop._g) 3 (3 * (loop._g + 1)) (omega arith);
      items =
          one_more_function n loop._g loop.draws.number _ _ _ loop.invariant.drawn loop.invariant.items
          c.in_ok-small_function.ensures.function c.in_ok-push.ensures.items;
    }
