use Rattle.std.proofs.lemmas.List.{get_or_default}
use Rattle.std.proofs.lemmas.List.Elements.{AllWithin-more, All-from_all_within, AllWithin-upto, at_read}
use Rattle.std.proofs.lemmas.List.Elements.{recursion_from_All}
use Rattle.std.proofs.Common.{length}
use Rattle.w4_defs.specs.Recording.{IsInput}
use Rattle.w4_record.proofs.ranges.inputs_are_in_range.Goals as goal

pub loop-input-preserved : goal.loop-input-preserved
loop-input-preserved c =
    let inputs = c.args.inputs.now in
    let at = c.loop-input.input-index in
    AllWithin-more IsInput inputs 0 at c.loop-input.invariant
    (at_read inputs IsInput at _ c.loop-input-test.true (get_or_default inputs at _ _
    c.loop-input-test.true) c.input_is_in_range.ensures)

pub returns : goal.returns
returns c =
    let inputs = c.args.inputs.now in
    recursion_from_All IsInput inputs
    (All-from_all_within IsInput inputs
    (AllWithin-upto IsInput inputs 0 c.loop-input.input-index
    (length inputs) c.loop-input-test.false c.loop-input.invariant))
