use Rattle.w4_defs.proofs.SoundLaws.{silence_is_zeros, frames_are_counted, samples_are_counted, header_is_counted}
use Rattle.w4_defs.proofs.SampleLaws.{samples_are_bounded}
use Rattle.w4_defs.proofs.tool_laws.sound_laws.Goals as goal

pub returns-clause-silence : goal.returns-clause-silence
returns-clause-silence c = silence_is_zeros

pub returns-clause-bounded : goal.returns-clause-bounded
returns-clause-bounded c = samples_are_bounded

pub returns-clause-frames : goal.returns-clause-frames
returns-clause-frames c = frames_are_counted

pub returns-clause-counted : goal.returns-clause-counted
returns-clause-counted c = samples_are_counted

pub returns-clause-header : goal.returns-clause-header
returns-clause-header c = header_is_counted
