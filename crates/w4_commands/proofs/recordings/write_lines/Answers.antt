use Rattle.std.proofs.lemmas.Result.{err_from_is_err_and}
use Rattle.std.specs.Prelude.{codes}
use Rattle.w4_defs.specs.Endings.{manner_of}
use Rattle.w4_house.proofs.WorldLaws.{writing_then}
use Rattle.w4_commands.proofs.RecordingLaws.{lines_more, lines_stop}
use Rattle.w4_commands.proofs.recordings.write_lines.Goals as goal

pub loop-number-preserved : goal.loop-number-preserved
loop-number-preserved g c =
    let first = g.H.House.world c.args.house.now in
    let now = g.H.House.world c.loop-number.house in
    let next = g.H.House.world c.write_line.new.house in (
      lines_more first now next (codes "insert") c.loop-number.number c.args.inputs.now
          c.loop-number-test.true c.in_ok-write_line.ensures.out c.loop-number.invariant.0,
      writing_then first now next c.loop-number.invariant.1 c.in_ok-write_line.ensures.rest,
    )

pub returns-in_err-write_line-clause-out : goal.returns-in_err-write_line-clause-out
returns-in_err-write_line-clause-out g c =
    let p = err_from_is_err_and c.from_residual.result c.from_residual.ensures.1 in
    rw (p.1, p.2)
    (lines_stop (g.H.House.world c.args.house.now) (g.H.House.world c.loop-number.house)
    (g.H.House.world c.write_line.new.house) (manner_of c.in_err-write_line.field-0.0) (codes "insert")
    c.loop-number.number c.args.inputs.now c.loop-number-test.true c.loop-number.invariant.1.later
    c.loop-number.invariant.0 c.in_err-write_line.ensures.out)
