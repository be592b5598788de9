use Rattle.std.proofs.Common.{◌≡◌, length, map, string_bytes}
use Rattle.w4_script.specs.NameLines.{name_lines_left}
use Rattle.w4_defs.specs.NameLists.{name_lines, names_after}
use Rattle.w4_script.proofs.OrderFileLaws.{with_orders}
use Rattle.w4_script.proofs.names.read_names.Given as goal

abbrev pub invariant-loop-line : goal.invariant-loop-line
invariant-loop-line l =
    with_orders (map string_bytes l.names.items)
    (names_after (length l.names.items) (name_lines_left l.line-iterator))
    ≡ names_after 0 (name_lines l.bytes)
