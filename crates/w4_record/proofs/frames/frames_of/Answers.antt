use Rattle.w4_record.specs.Frames.{version_number}
use Rattle.w4_record.proofs.FrameLaws.{frames_of-step, frames_of-some, frames_of-end, some_mapped}
use Rattle.w4_record.proofs.FrameLaws.{mapped_value}
use Rattle.w4_record.proofs.frames.frames_of.Goals as goal

pub unwrap-requires : goal.unwrap-requires
unwrap-requires c =
    let some = frames_of-some (version_number c.args.version) c.args.count c.loop.counter
    c.loop.inputs.items c.loop.rest.now _
    c.loop-test.true c.loop.invariant c.requires in
    some_mapped _ c.first_frame.result _ c.first_frame.ensures some

pub loop-preserved : goal.loop-preserved
loop-preserved c =
    let first = mapped_value _ c.first_frame.result c.unwrap.result _ c.unwrap.ensures
    c.first_frame.ensures in
    rw c.in_ok-push.ensures.items
    (frames_of-step (version_number c.args.version) c.args.count c.loop.counter c.loop.inputs.items
    c.loop.rest.now
    c.unwrap.result.1.now c.unwrap.result.0 _ c.loop-test.true first c.loop.invariant)

pub returns : goal.returns
returns c =
    frames_of-end (version_number c.args.version) c.args.count c.loop.counter c.loop.inputs.items
    c.loop.rest.now _
    c.loop-test.false c.loop.invariant c.requires
