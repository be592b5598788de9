use Rattle.w4_defs.proofs.UnitsThereLaws.{frames_have_units, resets_have_units}
use Rattle.w4_defs.proofs.tool_laws.units_laws.Goals as goal

pub returns-clause-resets : goal.returns-clause-resets
returns-clause-resets c = resets_have_units

pub returns-clause-frames : goal.returns-clause-frames
returns-clause-frames c = frames_have_units
