use Rattle.std.proofs.Common.{◌≡◌, rules, length, map, string_bytes, sym, ◌∙◌, arith}
use Rattle.w4_script.specs.NameLines.{name_lines_left, named_view}
use Rattle.w4_defs.specs.NameLists.{name_lines, names_after}
use Rattle.w4_script.proofs.NameLaws.{one_more_name, bad_name, no_name, short_list}
use Rattle.w4_script.proofs.names.read_names.Goals as goal

pub loop-line-preserved : goal.loop-line-preserved
loop-line-preserved c =
    let many : c.len.result ≡ length c.loop-line.names.items = search rules in
    rw c.in_ok-push-in-Some-name_after.ensures.items
    (one_more_name c.loop-line.names.items c.in_ok-from_str-in-Some-name_after.field-0
    c.in-Some-name_after.name.now (name_lines_left c.loop-line.line-iterator)
    (name_lines_left c.next.new.self) (named_view c.in-Some.line)
    (names_after 0 (name_lines c.args.bytes.now)) c.in_ok-from_str-in-Some-name_after.ensures.ok
    c.in-Some.ensures.steps (rw (← many) (sym c.in-Some-name_after.ensures)) c.loop-line.invariant)

pub returns-in-None-name_after-clause-refused : goal.returns-in-None-name_after-clause-refused
returns-in-None-name_after-clause-refused c =
    let many : c.len.result ≡ length c.loop-line.names.items = search rules in
    short_list c.args.bytes.now (omega arith)
    ∙ bad_name (length c.loop-line.names.items) (map string_bytes c.loop-line.names.items)
    (name_lines_left c.loop-line.line-iterator) (name_lines_left c.next.new.self) (named_view c.in-Some.line)
    (names_after 0 (name_lines c.args.bytes.now)) c.in-Some.ensures.steps
    (rw (← many) (sym c.in-None-name_after.ensures)) c.loop-line.invariant

pub returns-clause-names : goal.returns-clause-names
returns-clause-names c =
    short_list c.args.bytes.now (omega arith)
    ∙ no_name (length c.loop-line.names.items) (map string_bytes c.loop-line.names.items)
    (name_lines_left c.loop-line.line-iterator) (names_after 0 (name_lines c.args.bytes.now))
    c.in-None.ensures.steps.0 c.loop-line.invariant
