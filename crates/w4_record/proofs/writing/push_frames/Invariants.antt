use Rattle.std.proofs.Common.{◌≡◌, ◌++◌, drop}
use Rattle.std.specs.List.{flat_map}
use Rattle.w4_defs.specs.Recording.{frame_bytes}
use Rattle.w4_record.proofs.writing.push_frames.Given as goal

abbrev pub invariant-loop-input : goal.invariant-loop-input
invariant-loop-input l =
    l.bytes.items ++ flat_map (frame_bytes 2) (drop l.input-index l.inputs)
    ≡ l.fn.bytes.items ++ flat_map (frame_bytes 2) l.inputs
