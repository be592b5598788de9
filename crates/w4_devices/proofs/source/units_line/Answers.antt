use Rattle.std.proofs.Common.{arith, ◌∙◌, ap, sym, ◌++◌, map}
use Rattle.std.proofs.lemmas.List.{append-nil}
use Rattle.w4_defs.specs.Traces.{line_of, traced_unit}
use Rattle.w4_devices.proofs.LineLaws.{cut_kept}
use Rattle.w4_devices.proofs.UnitLaws.{step_unit, units_end}
use Rattle.w4_devices.proofs.source.units_line.Goals as goal

pub loop-i-preserved : goal.loop-i-preserved
loop-i-preserved c = record {
  cut_line = cut_kept _ _ c.add.ensures;
  rest = step_unit c.args.bytes.now c.loop-i.line c.add.new.self c.loop-i.i c.traced_unit.result
      c.loop-i-test.true c.traced_unit.ensures c.add.ensures ∙ c.loop-i.invariant.rest;
  within = omega arith;
}

pub returns : goal.returns
returns c =
    sym c.loop-i.invariant.cut_line
    ∙ (ap line_of (sym (append-nil c.loop-i.line))
    ∙ (ap (λ us. line_of (c.loop-i.line ++ map traced_unit us))
    (sym (units_end c.args.bytes.now c.loop-i.i c.loop-i-test.false))
    ∙ c.loop-i.invariant.rest))
