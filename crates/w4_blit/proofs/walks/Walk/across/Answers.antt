use Rattle.std.proofs.Common.{◌+◌, ◌*◌, sym}
use Rattle.w4_defs.specs.Blit.{source_row}
use Rattle.w4_blit.specs.Walks.{as_good_as}
use Rattle.w4_blit.proofs.WalkLaws.{good_across}
use Rattle.w4_blit.proofs.walks.Walk.across.Goals as goal

pub returns : goal.returns
returns c = λ n.
    let sprite = c.args.sprite.now in
    let start : as_good_as c.near.result (source_row sprite c.args.below * sprite.stride + sprite.src_x) =
    rw (sym c.row_of.ensures.value, sym c.from.ensures, sym c.from-2.ensures, sym c.from-3.ensures)
    c.near.ensures.pixel in
    good_across sprite c.near.result n c.args.below c.has_flag.result c.requires c.has_flag.ensures
    start
