use Rattle.std.proofs.Common.{sym, ◌∙◌}
use Rattle.w4_record.specs.Frames.{version_number}
use Rattle.w4_record.proofs.FrameLaws.{are_frames-step, are_frames-none, are_frames-end}
use Rattle.w4_record.proofs.frames.are_frames.Goals as goal

pub returns-in_default : goal.returns-in_default
returns-in_default c =
    are_frames-none (version_number c.args.version) c.args.count c.loop.counter c.loop.rest.now _
    c.loop-test.true (sym c.in_default.ensures) c.loop.invariant

pub loop-preserved : goal.loop-preserved
loop-preserved c =
    are_frames-step (version_number c.args.version) c.args.count c.loop.counter c.loop.rest.now
    c.in-Some.after.now
    c.in-Some.field-0-0 _ c.loop-test.true (sym c.in-Some.ensures) c.loop.invariant

pub returns : goal.returns
returns c =
    c.is_empty.ensures
    ∙ are_frames-end (version_number c.args.version) c.args.count c.loop.counter c.loop.rest.now _
    c.loop-test.false c.loop.invariant
