use Rattle.std.proofs.Common.{◌≡◌, ◌-◌}
use Rattle.std.specs.Prelude.{is_some}
use Rattle.w4_defs.specs.Recording.{frames_of}
use Rattle.w4_record.specs.Frames.{version_number}
use Rattle.w4_record.proofs.frames.are_frames.Given as goal

abbrev pub invariant-loop : goal.invariant-loop
invariant-loop l =
    is_some (frames_of (version_number l.version) (l.count - l.counter) l.rest)
    ≡ is_some (frames_of (version_number l.version) l.count l.bytes)
