-- Why a file wasn't replaced.
use Rattle.std.proofs.Common.{◌≡◌, ℕ, List, [], ◌∷◌, refl}
use Rattle.w4_house.specs.declared.calls.WriteRefusal.{WriteRefusal}
use Rattle.w4_house.specs.declared.calls.WriteRefusal.TheVariants.{Failed, OutOfMemory}
use Rattle.w4_defs.specs.Endings.{manner_of}
use Rattle.w4_defs.specs.World.{Saved, World, Rises, Does, FailsToSave}
use Rattle.w4_answers.specs.Saving.{StopsSaving}
use Rattle.w4_house.specs.Calls.{write_refusal}

-- replacing a file was refused
pub save_refused : (old new : World) (why : WriteRefusal) (name bytes : List ℕ)
    → (why ≡ Failed → Rises old.write_faults new.write_faults)
    → (why ≡ Failed → FailsToSave old new [] (Saved name bytes ∷ []))
    → (why ≡ OutOfMemory → Does old new [])
    → StopsSaving old new (manner_of (write_refusal why)) name bytes
save_refused old new Failed name bytes rise fails none = (rise refl, fails refl)
save_refused old new OutOfMemory name bytes rise fails none = none refl
