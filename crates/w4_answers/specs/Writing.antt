-- What writing to standard output leaves of the world: all bytes, or a first part of them and why it stopped.
use Rattle.std.specs.Prelude.{◌≡◌, List, ℕ, take, Option, Result, Ok, Err}
use Rattle.w4_defs.specs.declared.status.Refusal.{Refusal}
use Rattle.w4_defs.specs.declared.status.Refusal.TheVariants as refusal
use Rattle.w4_defs.specs.Endings.{Manner, ReadFailed, InputFailed, WriteFailed, MemoryRefused, Refused}
use Rattle.w4_defs.specs.Endings.{manner_of}
use Rattle.w4_defs.specs.World.{Event, World, Rises, Appends, Does, wrote}

-- where told, standard output has got these bytes, one after another
abbrev pub AppendsOut : Option (List Event) → Option (List Event) → List ℕ → Type 0
AppendsOut old new bytes = Appends old new (wrote bytes)

-- or some first part of them
abbrev pub AppendsOutFront : Option (List Event) → Option (List Event) → List ℕ → Type 0
AppendsOutFront old new bytes = (count : ℕ) × AppendsOut old new (take count bytes)

-- why work that only writes to standard output stopped: it has got a first part of these bytes
abbrev pub StopsWriting : World → World → Manner → List ℕ → Type 0
StopsWriting old new InputFailed bytes = ⊥
StopsWriting old new ReadFailed bytes = ⊥
StopsWriting old new WriteFailed bytes =
    Rises old.write_faults new.write_faults × AppendsOutFront old.events new.events bytes
StopsWriting old new MemoryRefused bytes = AppendsOutFront old.events new.events bytes
StopsWriting old new (Refused refusal) bytes = ⊥

-- what such work gave: standard output has got these bytes, or a first part of them where it stopped
abbrev pub Written : {X : Type 0} → World → World → Result X Refusal → List ℕ → Type 0
Written old new (Ok x) bytes = AppendsOut old.events new.events bytes
Written old new (Err why) bytes = StopsWriting old new (manner_of why) bytes

-- memory ran out before it wrote anything
abbrev pub WritesNothing : {X : Type 0} → World → World → Result X Refusal → Type 0
WritesNothing old new result = (result ≡ Err refusal.OutOfMemory) × (new.events ≡ old.events)

-- a first part of these bytes was written, and no file has changed
abbrev pub DoesFront : World → World → List ℕ → Type 0
DoesFront old new out = (count : ℕ) × Does old new (take count (wrote out))
