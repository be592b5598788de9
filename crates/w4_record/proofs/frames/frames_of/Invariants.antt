use Rattle.std.proofs.Common.{◌≡◌, ◌-◌, ◌++◌}
use Rattle.std.specs.Prelude.{option_map}
use Rattle.w4_defs.specs.Recording.{frames_of}
use Rattle.w4_record.specs.Frames.{version_number}
use Rattle.w4_record.proofs.frames.frames_of.Given as goal

abbrev pub invariant-loop : goal.invariant-loop
invariant-loop l =
    option_map (λ more. l.inputs.items ++ more) (frames_of (version_number l.version)
    (l.count - l.counter) l.rest)
    ≡ frames_of (version_number l.version) l.count l.bytes
