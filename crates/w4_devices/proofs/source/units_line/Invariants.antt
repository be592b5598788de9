use Rattle.std.proofs.Common.{◌≡◌, ◌-◌, ◌≤◌, ◌++◌, map, length, drop}
use Rattle.w4_defs.specs.Text.{units}
use Rattle.w4_defs.specs.Traces.{line_of, traced_unit}
use Rattle.w4_devices.proofs.source.units_line.Given as goal

abbrev pub invariant-loop-i : goal.invariant-loop-i
invariant-loop-i l = record {
  cut_line : line_of l.line ≡ l.line;
  rest : line_of (l.line ++ map traced_unit (units (drop l.i l.bytes)))
      ≡ line_of (map traced_unit (units l.bytes));
  within : l.i ≤ length l.bytes;
}

abbrev pub decreases-loop-i : goal.decreases-loop-i
decreases-loop-i l = length l.bytes - l.i
