use Rattle.w4_blit.proofs.StripLaws.{first_digit, other_digit}
use Rattle.w4_blit.proofs.strips.chosen.Goals as goal

pub returns-clause-word : goal.returns-clause-word
returns-clause-word c = λ k hk h. first_digit c.args.mask c.args.word c.args.other k h

pub returns-clause-other : goal.returns-clause-other
returns-clause-other c = λ k hk h. other_digit c.args.mask c.args.word c.args.other k h
