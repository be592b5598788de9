use Rattle.w4_defs.proofs.EditedPlaces.{places_after_edits}
use Rattle.w4_defs.proofs.editing_laws.places_after_edits.Goals as goal

pub returns : goal.returns
returns c = places_after_edits
