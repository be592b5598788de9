use Rattle.std.proofs.Common.{ap, ◌∙◌, ◌+◌, drop}
use Rattle.w4_defs.specs.Limits.{live_line_limit}
use Rattle.w4_house.proofs.InputLaws.{line_of_input}
use Rattle.w4_house.proofs.sure.SureHouseHouse.read_line.Goals as goal

pub returns-in_ok-reserve-in-Some-clause-line : goal.returns-in_ok-reserve-in-Some-clause-line
returns-in_ok-reserve-in-Some-clause-line c =
    let house = c.args.self.now in
    line_of_input (live_line_limit + 1) house.passed c.len.result house.input.items c.left.result.now
    c.in-Some.front.now c.in_ok-line-in-Some.line.items c.in-Some.rest.now
    (c.left.ensures ∙ ap (drop house.passed) c.deref.ensures.value)
    (c.len.ensures ∙ house.input.ok.0) c.in_ok-line-in-Some.ensures.items c.in-Some.ensures.line
