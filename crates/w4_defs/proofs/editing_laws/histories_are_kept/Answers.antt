use Rattle.w4_defs.proofs.SessionLaws.{history_stays_bounded, undo_takes_back, redo_takes_back, undo_takes_back_redo}
use Rattle.w4_defs.proofs.editing_laws.histories_are_kept.Goals as goal

pub returns-clause-bounded : goal.returns-clause-bounded
returns-clause-bounded c = history_stays_bounded

pub returns-clause-undo : goal.returns-clause-undo
returns-clause-undo c = undo_takes_back

pub returns-clause-redo : goal.returns-clause-redo
returns-clause-redo c = redo_takes_back

pub returns-clause-redone : goal.returns-clause-redone
returns-clause-redone c = undo_takes_back_redo
