use Rattle.w4_devices.proofs.HexLaws.{line_one, line_last}
use Rattle.std.proofs.Common.{arith}
use Rattle.w4_devices.proofs.hexadecimal.+add_hexadecimal.Goals as goal

pub returns-then-number-lt16 : goal.returns-then-number-lt16
returns-then-number-lt16 t c =
    line_one c.args.line.now c.add.new.self c.args.number c.hex_digit.result c.if-number-lt16.true
    c.hex_digit.ensures c.add.ensures

pub returns : goal.returns
returns t c =
    line_last c.args.line.now c.add_hexadecimal.new.line c.add-2.new.self c.args.number c.hex_digit-2.result
    c.if-number-lt16.false
    (omega arith) c.hex_digit-2.ensures c.add_hexadecimal.ensures c.add-2.ensures
