use Rattle.std.proofs.Common.{◌-◌, ◌*◌, arith}
use Rattle.w4_shapes.proofs.OvalLaws.{limit_none, limit_within}
use Rattle.w4_shapes.proofs.ovals.limit_at.Goals as goal

pub returns-then-far-h : goal.returns-then-far-h
returns-then-far-h c = λ n.
    let cells = c.args.cells in
    let far = c.args.far in
    rw (
      c.from.ensures,
      c.from-then-far-h.ensures,
      c.from-then-far-h-2.ensures,
      c.from-w.ensures,
      c.from-h.ensures,
    )
    (limit_within n cells.w cells.h far (cells.h * cells.h - far * far) cells.some_rows
    (omega (arith, c.if-far-h.true, c.from-h.ensures)) (omega arith))

pub returns-else-far-h : goal.returns-else-far-h
returns-else-far-h c = λ n.
    let cells = c.args.cells in
    limit_none n cells.w cells.h c.args.far cells.some_columns
    (omega (arith, c.if-far-h.false, c.from-h.ensures))
