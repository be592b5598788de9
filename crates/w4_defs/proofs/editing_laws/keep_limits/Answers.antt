use Rattle.w4_defs.specs.KeptList.{kept_entries}
use Rattle.w4_defs.specs.Session.{places_alone}
use Rattle.w4_defs.proofs.KeepLimits.{keep_limit, keep_every_limit}
use Rattle.w4_defs.proofs.editing_laws.keep_limits.Goals as goal

pub returns-clause-places : goal.returns-clause-places
returns-clause-places c = keep_limit places_alone

pub returns-clause-entries : goal.returns-clause-entries
returns-clause-entries c = keep_limit kept_entries

pub returns-clause-every : goal.returns-clause-every
returns-clause-every c = keep_every_limit
