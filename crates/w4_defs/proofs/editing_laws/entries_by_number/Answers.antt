use Rattle.w4_defs.proofs.KeptListLaws.{unlinks_one, kept_in_order}
use Rattle.w4_defs.proofs.editing_laws.entries_by_number.Goals as goal

pub returns-clause-unlinked : goal.returns-clause-unlinked
returns-clause-unlinked c = unlinks_one

pub returns-clause-kept : goal.returns-clause-kept
returns-clause-kept c = kept_in_order
