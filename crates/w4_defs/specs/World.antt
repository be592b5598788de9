-- What stands outside the program: its files, what it has done, what it has reported, and how often a call
-- has failed (project rule). A part that a house doesn't tell is None; a house that tells its files tells all
-- of them, but for those that it makes for itself beside a file while it replaces it.
use Rattle.std.specs.Prelude.{◌≡◌, ◌⊎◌, ℕ, ◌+◌, ◌-◌, ◌^◌, ◌≤◌, min, List, [], ◌∷◌, ◌++◌, map, take, Option, Some, None, option_map, refl}
use Rattle.std.specs.Option.{ForSome}
use Rattle.std.specs.FinMap.{FinMap, get, insert}
use Rattle.std.specs.Cmp.Lexicographic.{slice_cmp}
use Rattle.std.specs.Ordering.{nat_cmp}

-- The bytes of each file, by the bytes of its name.
abbrev pub Files : Type 0
Files = FinMap (slice_cmp nat_cmp) (List ℕ)

-- What is done, one event after another. A read of a file is no event, since it changes nothing.
--   Took: a line of standard input is taken, without its byte 10; of a line of more than 1,024 bytes, its
--     first 1,025. The last line may lack its byte 10, and is a line where it has a byte.
--   InputEnded: standard input is found to be at its end.
--   InputLost: a read of standard input failed, or memory ran out for a line; what was read of it is lost.
--   Wrote: a byte is written to standard output.
--   Saved: all of a file is replaced.
--   NotSaved: replacing a file failed.
pub data Event : Type 0 where
  Took : (line : List ℕ) → Event
  InputEnded : Event
  InputLost : Event
  Wrote : (byte : ℕ) → Event
  Saved : (name bytes : List ℕ) → Event
  NotSaved : (name : List ℕ) → Event

-- bytes that are written to standard output, one after another
abbrev pub wrote : List ℕ → List Event
wrote bytes = map Wrote bytes

-- all bytes that these events write to standard output
abbrev pub written_by : List Event → List ℕ
written_by [] = []
written_by (Wrote byte ∷ events) = byte ∷ written_by events
written_by (event ∷ events) = written_by events

-- The files after these events.
abbrev pub files_after : Files → List Event → Files
files_after files [] = files
files_after files (Saved name bytes ∷ events) = files_after (insert files name bytes) events
files_after files (event ∷ events) = files_after files events

-- The counts of faults are those of reads, of writes to standard output and to files, and of writes to
-- standard error.
pub record World : Type 0 where
  pub files : Option Files
  pub events : Option (List Event)
  pub err : Option (List ℕ)
  pub read_faults : ℕ
  pub write_faults : ℕ
  pub err_faults : ℕ

-- One more, up to 2^64 - 1, where a count stays.
abbrev pub raised : ℕ → ℕ
raised count = min (count + 1) (2 ^ 64 - 1)

-- A count rises by one at least. It is also said to rise where it stands at 2^64 - 1.
abbrev pub Rises : ℕ → ℕ → Type 0
Rises before now = raised before ≤ now

-- A count rises by so many at least, or stands at 2^64 - 1.
abbrev pub RisesBy : ℕ → ℕ → ℕ → Type 0
RisesBy many before now = min (before + many) (2 ^ 64 - 1) ≤ now

-- The first `most` bytes of the file of this name, or all of them where there are fewer; None without a file.
abbrev pub front_of : Files → List ℕ → ℕ → Option (List ℕ)
front_of files name most = option_map (take most) (get files name)

-- The house tells its files and has none of this name.
abbrev pub LacksFile : Option Files → List ℕ → Type 0
LacksFile told name = (files : Files) × (told ≡ Some files) × (get files name ≡ None)

-- Where told, all these bytes or events stand behind those that were there before.
abbrev pub Appends : {A : Type 0} → Option (List A) → Option (List A) → List A → Type 0
Appends old new items = ForSome old (λ before. new ≡ Some (before ++ items))

-- Some first part of them does, be it none or all.
abbrev pub AppendsFront : {A : Type 0} → Option (List A) → Option (List A) → List A → Type 0
AppendsFront old new items = (count : ℕ) × Appends old new (take count items)

-- Where told, just these events have happened, and the files are those that they leave.
pub record Does (old new : World) (done : List Event) : Type 0 where
  pub events : Appends old.events new.events done
  pub files : new.files ≡ option_map (λ files. files_after files done) old.files

-- The events of replacing the same files, where that fails.
abbrev pub not_saved : List Event → List Event
not_saved [] = []
not_saved (Saved name bytes ∷ events) = NotSaved name ∷ not_saved events
not_saved (event ∷ events) = not_saved events

-- These events have happened, and then the file that was to be replaced wasn't; or it was, and that failed
-- all the same.
abbrev pub FailsToSave : World → World → List Event → List Event → Type 0
FailsToSave old new done saved =
    Does old new (done ++ not_saved saved) ⊎ Does old new (done ++ saved ++ not_saved saved)

-- These events have happened, and then the file was replaced, or that failed.
abbrev pub SavesOrFails : World → World → List Event → List Event → Type 0
SavesOrFails old new done saved = Does old new (done ++ saved) ⊎ FailsToSave old new done saved

-- How often replacing a file has failed among these events.
abbrev pub failed_saves : List Event → ℕ
failed_saves [] = 0
failed_saves (NotSaved name ∷ events) = failed_saves events + 1
failed_saves (event ∷ events) = failed_saves events

-- Writing to standard output failed: the count of writes has risen by one more than replacing a file failed
-- among these events.
abbrev pub OutFails : World → World → List Event → Type 0
OutFails old new done = RisesBy (failed_saves done + 1) old.write_faults new.write_faults

-- A file of which all is replaced twice has what came last; and a save that failed twice.
abbrev pub FilesAfterCases : Type 0
FilesAfterCases = (files : Files) (name one next : List ℕ) →
    (files_after files (Saved name one ∷ Wrote 7 ∷ Saved name next ∷ NotSaved name ∷ [])
    ≡ insert (insert files name one) name next)
    × (not_saved (Saved name one ∷ []) ≡ NotSaved name ∷ [])
    × (failed_saves (NotSaved name ∷ Wrote 7 ∷ Saved name one ∷ NotSaved name ∷ InputEnded ∷ []) ≡ 2)

pub files-after-cases : FilesAfterCases
files-after-cases files name one next = (refl, refl, refl)

-- Where told, the file of this name has just these bytes, and all other files are unchanged.
abbrev pub Puts : Option Files → Option Files → List ℕ → List ℕ → Type 0
Puts old new name bytes = ForSome old (λ files. new ≡ Some (insert files name bytes))

-- What a read leaves: all but the count of reads, which doesn't fall.
pub record LeavesReading (old new : World) : Type 0 where
  pub files : new.files ≡ old.files
  pub events : new.events ≡ old.events
  pub err : new.err ≡ old.err
  pub later : old.read_faults ≤ new.read_faults
  pub writes : new.write_faults ≡ old.write_faults
  pub errs : new.err_faults ≡ old.err_faults

-- What a write to standard output leaves: all but this output and the count of writes, which doesn't fall.
pub record LeavesWriting (old new : World) : Type 0 where
  pub files : new.files ≡ old.files
  pub err : new.err ≡ old.err
  pub reads : new.read_faults ≡ old.read_faults
  pub later : old.write_faults ≤ new.write_faults
  pub errs : new.err_faults ≡ old.err_faults

-- What a write to standard error leaves: all but this output and the count of err writes, which doesn't fall.
pub record LeavesReporting (old new : World) : Type 0 where
  pub files : new.files ≡ old.files
  pub events : new.events ≡ old.events
  pub reads : new.read_faults ≡ old.read_faults
  pub writes : new.write_faults ≡ old.write_faults
  pub later : old.err_faults ≤ new.err_faults

-- What taking a line of standard input leaves: standard error and all counts but that of reads, which doesn't
-- fall. What happens to events and files is said by `Does`.
pub record LeavesTaking (old new : World) : Type 0 where
  pub err : new.err ≡ old.err
  pub later : old.read_faults ≤ new.read_faults
  pub writes : new.write_faults ≡ old.write_faults
  pub errs : new.err_faults ≡ old.err_faults

-- What replacing a file leaves: standard error and all counts but that of writes, which doesn't fall.
pub record LeavesSaving (old new : World) : Type 0 where
  pub err : new.err ≡ old.err
  pub reads : new.read_faults ≡ old.read_faults
  pub later : old.write_faults ≤ new.write_faults
  pub errs : new.err_faults ≡ old.err_faults

-- Nothing but the files may have changed.
pub record OnlyFiles (old new : World) : Type 0 where
  pub events : new.events ≡ old.events
  pub err : new.err ≡ old.err
  pub reads : new.read_faults ≡ old.read_faults
  pub writes : new.write_faults ≡ old.write_faults
  pub errs : new.err_faults ≡ old.err_faults

-- Nothing has changed.
pub record SameWorld (old new : World) : Type 0 where
  pub files : new.files ≡ old.files
  pub events : new.events ≡ old.events
  pub err : new.err ≡ old.err
  pub reads : new.read_faults ≡ old.read_faults
  pub writes : new.write_faults ≡ old.write_faults
  pub errs : new.err_faults ≡ old.err_faults
