use Rattle.std.proofs.Common.{◌+◌, ◌*◌, arith}
use Rattle.w4_pixels.proofs.PackedLaws.{bytes_filled}
use Rattle.w4_pixels.proofs.runs.put_whole.Goals as goal

pub returns : goal.returns
returns c =
    let a = c.args in
    bytes_filled a.page.now c.fill.new.self a.first a.end a.row c.filled.result a.index
    (160 + 40 * a.row + a.first) _ (160 + 40 * a.row + a.end) c.requires.order c.requires.end c.requires.row
    (omega arith) (omega arith) (omega arith) (omega arith) c.told-page c.fits-page
    c.filled.ensures
    (c.fill.ensures.after (λ y same. same))
