-- What an edit reads, as the definitions see it, and what it leaves of the world: its answers, then the
-- recording.
use Rattle.w4_commands.specs.declared.edit.Loaded.{Loaded}
use Rattle.w4_commands.specs.declared.load.RunFiles.{RunFiles}
use Rattle.w4_defs.specs.declared.order.Order.{Order}
use Rattle.w4_defs.specs.Output.{Loaded as GivenOrders}
use Rattle.std.specs.Prelude.{◌⊎◌, ◌++◌, ◌∷◌, [], List, ℕ, Result, Ok, Err}
use Rattle.w4_defs.specs.declared.status.Refusal.{Refusal}
use Rattle.w4_defs.specs.Endings.{Manner, ReadFailed, InputFailed, WriteFailed, MemoryRefused, Refused}
use Rattle.w4_defs.specs.Endings.{manner_of}
use Rattle.w4_defs.specs.World.{Saved, World, Rises, Does, FailsToSave, wrote}
use Rattle.w4_commands.specs.Load.{run_files_view}
use Rattle.w4_answers.specs.Writing.{DoesFront}

abbrev pub run_and_orders : RunFiles → List Order → GivenOrders
run_and_orders run orders = record { run = run_files_view run; orders = orders }

abbrev pub loaded_view : Loaded → GivenOrders
loaded_view l = run_and_orders l.run l.orders.items

-- why an edit stopped: a first part of its answers was written, or all of them, and the file wasn't replaced
abbrev pub StopsCarrying : World → World → Manner → List ℕ → List ℕ → List ℕ → Type 0
StopsCarrying old new InputFailed out name bytes = ⊥
StopsCarrying old new ReadFailed out name bytes = ⊥
StopsCarrying old new WriteFailed out name bytes = Rises old.write_faults new.write_faults
    × (DoesFront old new out ⊎ FailsToSave old new (wrote out) (Saved name bytes ∷ []))
StopsCarrying old new MemoryRefused out name bytes = DoesFront old new out
StopsCarrying old new (Refused refusal) out name bytes = ⊥

-- what an edit gave: standard output gets its answers, and then the file of this name the recording
abbrev pub Carried : {X : Type 0} → World → World → Result X Refusal → List ℕ → List ℕ → List ℕ → Type 0
Carried old new (Ok x) out name bytes = Does old new (wrote out ++ Saved name bytes ∷ [])
Carried old new (Err why) out name bytes = StopsCarrying old new (manner_of why) out name bytes
