use Rattle.w4_defs.proofs.ClearLaws.{cleared_is_painted}
use Rattle.w4_defs.proofs.FrameLaws.{halt_stays, reset_keeps_disk}
use Rattle.w4_defs.proofs.console_laws.halts_and_resets.Goals as goal

pub returns-clause-halt_stays : goal.returns-clause-halt_stays
returns-clause-halt_stays c = halt_stays

pub returns-clause-reset_keeps_disk : goal.returns-clause-reset_keeps_disk
returns-clause-reset_keeps_disk c = reset_keeps_disk

pub returns-clause-cleared : goal.returns-clause-cleared
returns-clause-cleared c = cleared_is_painted
