use Rattle.w4_defs.proofs.KeptListLaws.{linked_is_run}
use Rattle.w4_defs.proofs.editing_laws.linked_entries_are_of_the_run.Goals as goal

pub returns : goal.returns
returns c = linked_is_run
