use Rattle.std.proofs.Common.{◌≡◌, take}
use Rattle.w4_devices.proofs.trace_log.TraceLog.copy_from.Given as goal

abbrev pub invariant-loop-line : goal.invariant-loop-line
invariant-loop-line l = l.self-inside.lines.items ≡ take l.line-index l.other.items
