use Rattle.std.proofs.Common.{arith}
use Rattle.w4_record.proofs.PartLaws.{recording_within_limits}
use Rattle.w4_record.proofs.reading.read_recording.Goals as goal

pub invariant_of-result : goal.invariant_of-result
invariant_of-result c =
    recording_within_limits c.args.bytes.now c.copy_from_slice.new.self c.in_ok-disk.disk.items
    c.parts_of.result
    c.in_ok-parts.parts c.in_ok-frames.frames.items (λ i. omega (arith, (c.type_inv.bytes i).fits))
    c.parts_of.ensures.recording c.in_ok-parts.ensures.ok_part c.in_ok-frames.ensures
    c.copy_from_slice.ensures.after
    c.in_ok-disk.ensures.items

pub returns-clause-limits : goal.returns-clause-limits
returns-clause-limits c =
    recording_within_limits c.args.bytes.now c.copy_from_slice.new.self c.in_ok-disk.disk.items
    c.parts_of.result
    c.in_ok-parts.parts c.in_ok-frames.frames.items (λ i. omega (arith, (c.type_inv.bytes i).fits))
    c.parts_of.ensures.recording c.in_ok-parts.ensures.ok_part c.in_ok-frames.ensures
    c.copy_from_slice.ensures.after
    c.in_ok-disk.ensures.items
