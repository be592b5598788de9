use Rattle.std.proofs.Common.{◌-◌, ◌*◌, ◌/◌, ◌^◌, ◌∙◌}
use Rattle.w4_blit.proofs.StripLaws.{right_digit}
use Rattle.w4_blit.proofs.WindowLaws.{low_word}
use Rattle.w4_blit.proofs.windows.sixteen_of.Goals as goal

pub returns : goal.returns
returns c = λ k hk.
    low_word (c.args.word / 2 ^ (2 * (16 - c.args.first))) k hk ∙ right_digit c.args.word (16 -
    c.args.first) k
