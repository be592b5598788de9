use Rattle.std.proofs.Common.{arith}
use Rattle.wasm_read.proofs.NumberBounds.{at_most_word, joined_below}
use Rattle.wasm_read.proofs.number.+signed_at.Goals as goal

pub overflow_mul-result : goal.overflow_mul-result
overflow_mul-result t c =
    let most = at_most_word c.args.width c.in_ok-high.high (omega arith) c.requires.width
    c.in_ok-high.ensures.fits in
    record { fits = omega (arith, most) }

pub overflow_add-result : goal.overflow_add-result
overflow_add-result t c =
    let most = at_most_word c.args.width c.in_ok-high.high (omega arith) c.requires.width
    c.in_ok-high.ensures.fits in
    record { fits = omega (arith, most) }

pub returns-clause-fits : goal.returns-clause-fits
returns-clause-fits t c =
    joined_below c.args.width c.from.result c.in_ok-high.high (omega arith)
    (omega (arith, (c.type_inv.bytes 0).fits)) c.in_ok-high.ensures.fits
