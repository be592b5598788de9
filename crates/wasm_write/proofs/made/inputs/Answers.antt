use Rattle.std.proofs.Common.{◌≡◌, ◌+◌, ◌++◌, ◌∷◌, [], ◌∙◌, map, refl, ap, arith}
use Rattle.std.specs.List.{range_with_len}
use Rattle.w4_defs.specs.Generator.{draw, seed_after}
use Rattle.wasm_write.specs.Draws.{input_of_draw}
use Rattle.wasm_write.proofs.DrawLaws.{later_seed, one_more_input}
use Rattle.wasm_write.proofs.made.inputs.Goals as goal

pub loop-k-init : goal.loop-k-init
unfolding seed_after
loop-k-init c = record { drawn = refl; items = c.new-inputs.ensures.items }

pub loop-k-preserved : goal.loop-k-preserved
loop-k-preserved c =
    let n = c.args.draws.now.number in
    let loop = c.loop-k in
    record {
      drawn = c.next.ensures.next ∙ ap (λ s. seed_after s 1) loop.invariant.drawn
          ∙ later_seed n loop._k 1 (loop._k + 1) refl;
      items =
          one_more_input n loop._k loop.draws.number c.next.result loop.inputs.items c.push.new.self.items
          loop.invariant.drawn loop.invariant.items c.next.ensures.draw
          (c.in_ok-push.ensures.items ∙ ap (λ i. loop.inputs.items ++ i ∷ []) c.input.ensures);
    }

pub returns : goal.returns
returns c =
    let all : c.loop-k._k ≡ 600 = omega arith in
    c.loop-k.invariant.items
    ∙ ap (λ k. map (λ j. input_of_draw (draw c.args.draws.now.number j)) (range_with_len 0 k)) all
