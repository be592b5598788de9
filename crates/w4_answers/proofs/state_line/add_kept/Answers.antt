use Rattle.std.proofs.Common.{◌++◌}
use Rattle.std.specs.Prelude.{flat_map}
use Rattle.w4_defs.specs.FrameTexts.{spaced}
use Rattle.w4_editor.specs.Editor.{place_session}
use Rattle.w4_answers.proofs.RangeAnswerLaws.{numbers-more, numbers-all}
use Rattle.w4_answers.proofs.state_line.add_kept.Goals as goal

pub loop-i-preserved : goal.loop-i-preserved
loop-i-preserved c =
    let editor = c.args.editor.now in
    numbers-more c.loop-i.text.items c.add_number.new.text.items
    (c.args.text.now.items ++ flat_map spaced (place_session editor).current.kept)
    editor.session.current.kept c.loop-i.i c.kept_place.result (rw (← c.kept_count-i-end.ensures)
    c.loop-i-test.true)
    c.kept_place.ensures c.in_ok-add_number.ensures c.loop-i.invariant

pub returns : goal.returns
returns c =
    let editor = c.args.editor.now in
    numbers-all c.loop-i.text.items
    (c.args.text.now.items ++ flat_map spaced (place_session editor).current.kept)
    editor.session.current.kept c.loop-i.i (rw (← c.kept_count-i-end.ensures) c.loop-i-test.false)
    c.loop-i.invariant
