use Rattle.w4_defs.specs.Recording.{recording-cases, bad-recording-cases}
use Rattle.w4_defs.proofs.file_laws.recording_cases.Goals as goal

pub returns-clause-good : goal.returns-clause-good
returns-clause-good c = recording-cases

pub returns-clause-bad : goal.returns-clause-bad
returns-clause-bad c = bad-recording-cases
