use Rattle.std.proofs.Common.{arith}
use Rattle.w4_script.proofs.NameLaws.{is_a_name, isnt_a_name}
use Rattle.w4_script.proofs.names.name_after.Goals as goal

pub returns-in-Ok : goal.returns-in-Ok
returns-in-Ok c =
    is_a_name c.args.count c.args.line.now c.in-Ok.name.now (omega arith) (omega arith)
    c.in-Ok.ensures.cases.1 c.in-Ok.ensures.cases.0

pub returns-in-Err : goal.returns-in-Err
returns-in-Err c =
    isnt_a_name c.args.count c.args.line.now (omega arith) (omega arith) c.in-Err.ensures.cases.0
