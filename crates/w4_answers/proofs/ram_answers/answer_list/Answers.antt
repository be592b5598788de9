use Rattle.w4_answers.proofs.ram_answers.answer_list.Goals as goal

pub returns-in-None-clause-out : goal.returns-in-None-clause-out
returns-in-None-clause-out g c = rw c.in-None.is c.write.ensures.out
