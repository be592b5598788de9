use Rattle.w4_blit.proofs.ByteLaws.{four_numbers}
use Rattle.w4_blit.proofs.source.four_of.Goals as goal

pub returns-clause-bytes : goal.returns-clause-bytes
returns-clause-bytes c = λ i hi.
    rw (c.from.ensures, c.from-2.ensures, c.from-3.ensures, c.from-4.ensures)
    (four_numbers c.args.a c.args.b c.args.c c.args.d i c.ranges.a.fits c.ranges.b.fits c.ranges.c.fits
    c.ranges.d.fits hi)
