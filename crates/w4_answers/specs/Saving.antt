-- What replacing a file leaves of the world.
use Rattle.std.specs.Prelude.{◌∷◌, [], List, ℕ, Result, Ok, Err}
use Rattle.w4_defs.specs.declared.status.Refusal.{Refusal}
use Rattle.w4_defs.specs.Endings.{Manner, ReadFailed, InputFailed, WriteFailed, MemoryRefused, Refused}
use Rattle.w4_defs.specs.Endings.{manner_of}
use Rattle.w4_defs.specs.World.{Saved, World, Rises, Does, FailsToSave}

-- why a file wasn't replaced; after a failure it may have been all the same
abbrev pub StopsSaving : World → World → Manner → List ℕ → List ℕ → Type 0
StopsSaving old new InputFailed name bytes = ⊥
StopsSaving old new ReadFailed name bytes = ⊥
StopsSaving old new WriteFailed name bytes =
    Rises old.write_faults new.write_faults × FailsToSave old new [] (Saved name bytes ∷ [])
StopsSaving old new MemoryRefused name bytes = Does old new []
StopsSaving old new (Refused refusal) name bytes = ⊥

-- what replacing a file gave
abbrev pub Replaces : {X : Type 0} → World → World → Result X Refusal → List ℕ → List ℕ → Type 0
Replaces old new (Ok x) name bytes = Does old new (Saved name bytes ∷ [])
Replaces old new (Err why) name bytes = StopsSaving old new (manner_of why) name bytes
