use Rattle.std.proofs.Common.{◌≡◌, ◌+◌, ◌*◌, ◌/◌, true, false, sym, ◌∙◌, arith}
use Rattle.w4_defs.specs.Blit.{has_flag, source_column, source_row}
use Rattle.w4_blit.proofs.reach.framebuffer_read.Goals as goal

pub returns-then-has_flag-clause-reach : goal.returns-then-has_flag-clause-reach
returns-then-has_flag-clause-reach c = λ i j hi hj.
    let sprite = c.args.sprite.now in
    let pixel = source_row sprite j * sprite.stride + source_column sprite i in
    let flag : has_flag sprite 1 ≡ true = sym c.has_flag.ensures ∙ c.if-has_flag.true in
    let from = c.first_pixel-first.ensures.first i j in
    let to = c.last_pixel-last.ensures.last i j hi hj in (
      λ two. c.part_between.ensures.kept (sprite.ptr + pixel / 4) (omega (arith, from)) (omega (arith, to)),
      λ one. absurd (cc),
    )

pub returns-else-has_flag-clause-reach : goal.returns-else-has_flag-clause-reach
returns-else-has_flag-clause-reach c = λ i j hi hj.
    let sprite = c.args.sprite.now in
    let pixel = source_row sprite j * sprite.stride + source_column sprite i in
    let flag : has_flag sprite 1 ≡ false = sym c.has_flag.ensures ∙ c.if-has_flag.false in
    let from = c.first_pixel-first.ensures.first i j in
    let to = c.last_pixel-last.ensures.last i j hi hj in (
      λ two. absurd (cc),
      λ one. c.part_between-else-has_flag.ensures.kept (sprite.ptr + pixel / 8) (omega (arith, from))
          (omega (arith, to)),
    )
