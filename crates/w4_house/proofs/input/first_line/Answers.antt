use Rattle.std.proofs.Common.{sym, ◌+◌}
use Rattle.std.proofs.lemmas.List.{take_rest}
use Rattle.w4_house.proofs.InputLaws.{ended_line, last_line, not_empty}
use Rattle.w4_house.proofs.input.first_line.Goals as goal

pub returns-in-Some-clause-line : goal.returns-in-Some-clause-line
returns-in-Some-clause-line c = ended_line c.args.most c.in-Some.at c.args.bytes.now c.front.result.now _
    (sym c.in-Some.ensures.value) c.front.ensures (take_rest c.args.bytes.now (c.in-Some.at + 1))

pub returns-in-None-clause-line : goal.returns-in-None-clause-line
returns-in-None-clause-line c = last_line c.args.most c.args.bytes.now c.front-in-None.result.now
    (sym c.in-None.ensures.value) (not_empty c.args.bytes.now c.if-is_empty.ensures) c.front-in-None.ensures
