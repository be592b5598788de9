use Rattle.wasm_valid.proofs.NeverStuck.{never_stuck_with, globals_keep_types_with}
use Rattle.wasm_valid.proofs.soundness.runs_are_sound.Goals as goal

pub returns-clause-never_stuck : goal.returns-clause-never_stuck
returns-clause-never_stuck g c = never_stuck_with

pub returns-clause-globals : goal.returns-clause-globals
returns-clause-globals g c = globals_keep_types_with
