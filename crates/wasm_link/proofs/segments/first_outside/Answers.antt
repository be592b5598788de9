use Rattle.std.proofs.Common.{sym, ◌∙◌}
use Rattle.wasm_link.proofs.SegmentLaws.{element_outside, data_outside, none_outside, position_small}
use Rattle.wasm_link.proofs.SegmentLaws.{data_test}
use Rattle.wasm_link.proofs.segments.first_outside.Goals as goal

pub segment_after-requires : goal.segment_after-requires
segment_after-requires c = position_small data_test c.segments-segments.result.now c.in-Some-first.i
    (sym c.first-in-None.ensures ∙ c.in-Some-first.is)

pub returns-in-Some : goal.returns-in-Some
returns-in-Some c = element_outside c.args.code.now _ c.table_size-size.result c.in-Some.i c.first.result
    c.elements-elements.ensures c.table_size-size.ensures c.first.ensures c.in-Some.is

pub returns-in-Some-first : goal.returns-in-Some-first
returns-in-Some-first c =
    data_outside c.args.code.now _ _ c.table_size-size.result c.in-Some-first.i c.segment_after.result
    c.first.result c.first-in-None.result
    c.elements-elements.ensures c.segments-segments.ensures c.table_size-size.ensures c.first.ensures
    c.in-None.is c.first-in-None.ensures c.in-Some-first.is c.segment_after.ensures

pub returns-in-None-first : goal.returns-in-None-first
returns-in-None-first c =
    none_outside c.args.code.now _ _ c.table_size-size.result c.first.result c.first-in-None.result
    c.elements-elements.ensures c.segments-segments.ensures c.table_size-size.ensures c.first.ensures
    c.in-None.is c.first-in-None.ensures c.in-None-first.is
