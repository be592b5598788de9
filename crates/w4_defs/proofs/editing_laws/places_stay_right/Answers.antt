use Rattle.w4_defs.proofs.RisingLaws.{places_stay_right}
use Rattle.w4_defs.proofs.KeptListLaws.{consistent_places}
use Rattle.w4_defs.proofs.editing_laws.places_stay_right.Goals as goal

pub returns-clause-stay : goal.returns-clause-stay
returns-clause-stay c = places_stay_right

pub returns-clause-consistent : goal.returns-clause-consistent
returns-clause-consistent c = consistent_places
