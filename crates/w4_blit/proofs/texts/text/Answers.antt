use Rattle.std.proofs.Common.{◌≡◌, refl, w64, to_z, of_z, arith}
use Rattle.std.proofs.lemmas.Int.{ints}
use Rattle.w4_blit.proofs.texts.text.Goals as goal

pub returns-then-start_of-ge-FRAMEBUFFER_END : goal.returns-then-start_of-ge-FRAMEBUFFER_END
returns-then-start_of-ge-FRAMEBUFFER_END c =
    let column : to_z w64 (of_z w64 c.from.result) ≡ c.args.x = omega (arith, ints) in
    let row : to_z w64 (of_z w64 c.from-2.result) ≡ c.args.y = omega (arith, ints) in
    rw (c.text_outside.ensures, column, row) refl

pub returns-else-start_of-ge-FRAMEBUFFER_END : goal.returns-else-start_of-ge-FRAMEBUFFER_END
returns-else-start_of-ge-FRAMEBUFFER_END c =
    let column : to_z w64 (of_z w64 c.from.result) ≡ c.args.x = omega (arith, ints) in
    let row : to_z w64 (of_z w64 c.from-2.result) ≡ c.args.y = omega (arith, ints) in
    rw (c.text_inside.ensures, column, row) refl
