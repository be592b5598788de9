use Rattle.std.proofs.Common.{◌+◌, ◌*◌, sym}
use Rattle.w4_defs.specs.Blit.{source_column}
use Rattle.w4_blit.specs.Walks.{as_good_as}
use Rattle.w4_blit.proofs.WalkLaws.{good_down}
use Rattle.w4_blit.proofs.walks.Walk.down.Goals as goal

pub returns : goal.returns
returns c = λ n. rw c.from-4.ensures (
    let sprite = c.args.sprite.now in
    let start : as_good_as c.near.result
    (sprite.src_y * sprite.stride + source_column sprite c.args.below) =
    rw (sym c.column_of.ensures.value, sym c.from.ensures, sym c.from-2.ensures, sym c.from-3.ensures)
    c.near.ensures.pixel in
    good_down sprite c.near.result n c.args.below c.has_flag.result c.requires c.has_flag.ensures
    start)
