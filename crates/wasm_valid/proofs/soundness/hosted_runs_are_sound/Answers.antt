use Rattle.wasm_valid.proofs.NeverStuck.{never_stuck_with, globals_keep_types_with}
use Rattle.wasm_valid.proofs.soundness.hosted_runs_are_sound.Goals as goal

pub returns-clause-never_stuck : goal.returns-clause-never_stuck
returns-clause-never_stuck g c =
    never_stuck_with (record { weight = g.H.Host.weight; effect = g.H.Host.effect })
    g.met.H.Host.answers_by_type

pub returns-clause-globals : goal.returns-clause-globals
returns-clause-globals g c =
    globals_keep_types_with (record { weight = g.H.Host.weight; effect = g.H.Host.effect })
    g.met.H.Host.answers_by_type
