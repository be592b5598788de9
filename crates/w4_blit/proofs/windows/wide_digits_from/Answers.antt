use Rattle.std.proofs.Common.{◌+◌, ◌*◌, ◌/◌, ◌^◌, ◌∙◌}
use Rattle.w4_blit.proofs.StripLaws.{right_digit}
use Rattle.w4_blit.proofs.WindowLaws.{low_word, three_words}
use Rattle.w4_blit.proofs.windows.wide_digits_from.Goals as goal

pub returns : goal.returns
returns c = λ k hk.
    let a = c.args in
    let word = a.a + 65536 * (a.b + 65536 * a.c) in
    rw (c.from.ensures, c.from-2.ensures, c.from-3.ensures)
    (low_word (word / 2 ^ (2 * a.first)) k hk ∙ right_digit word a.first k
    ∙ three_words a.a a.b a.c c.ranges.a.fits c.ranges.b.fits c.ranges.c.fits (a.first + k))
