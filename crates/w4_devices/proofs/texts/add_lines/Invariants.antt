use Rattle.std.proofs.Common.{◌≡◌, ◌++◌, take}
use Rattle.std.specs.List.{flat_map}
use Rattle.w4_defs.specs.FrameTexts.{trace_text_line}
use Rattle.w4_devices.proofs.texts.add_lines.Given as goal

abbrev pub invariant-loop-line : goal.invariant-loop-line
invariant-loop-line l = l.text.items ≡ l.initial.text.items
    ++ flat_map trace_text_line (take l.line-index l.lines)
