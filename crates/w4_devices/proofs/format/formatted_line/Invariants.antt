use Rattle.std.proofs.Common.{◌≡◌, ◌+◌, ◌-◌, ◌*◌, ◌≤◌, ◌++◌, length, drop}
use Rattle.w4_defs.specs.Traces.{formatted, line_of}
use Rattle.w4_devices.proofs.format.formatted_line.Given as goal

abbrev pub invariant-loop-i : goal.invariant-loop-i
invariant-loop-i l = record {
  cut_line : line_of l.line ≡ l.line;
  rest : line_of (l.line ++ formatted l.page (drop l.i l.format) l.at)
      ≡ line_of (formatted l.page l.format l.args);
  within : l.i ≤ length l.format;
  place : l.at ≤ l.args + 8 * l.i;
}

abbrev pub decreases-loop-i : goal.decreases-loop-i
decreases-loop-i l = length l.format - l.i
