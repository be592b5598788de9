-- What follows from the relations between two states of what stands outside: one call after another.
use Rattle.std.proofs.Common.{◌≡◌, ◌≤◌, ℕ, zero, suc, ◌+◌, List, [], ◌∷◌, ◌++◌, take, length, Option, Some}
use Rattle.std.proofs.Common.{None, option_map, refl, sym, subst, ◌∙◌, ap, append_assoc, append-nil, drop}
use Rattle.std.proofs.Common.{arith}
use Rattle.std.proofs.Math.Seq.{take-append-add, take-append_seam}
use Rattle.std.proofs.lemmas.List.{take-append-drop}
use Rattle.std.specs.FinMap.{insert}
use Rattle.w4_defs.specs.World.{World, Files, Event, Took, InputEnded, InputLost, Wrote, Saved, NotSaved}
use Rattle.w4_defs.specs.World.{wrote, files_after, Rises, Appends, AppendsFront, Does, LeavesReading}
use Rattle.w4_defs.specs.World.{LeavesWriting}

-- A count that rose stays risen while it doesn't fall, and one that rises later has risen from before.
pub rises_on : (first second third : ℕ) → Rises first second → second ≤ third → Rises first third
rises_on first second third rises later = omega arith

pub rises_later : (first second third : ℕ) → first ≤ second → Rises second third → Rises first third
rises_later first second third later rises = omega arith

-- Where nothing has changed, all is left that a call leaves.
pub reading_none : (world : World) → LeavesReading world world
reading_none world =
    record { files = refl; events = refl; err = refl; later = omega arith; writes = refl; errs = refl }

pub writing_none : (world : World) → LeavesWriting world world
writing_none world = record { files = refl; err = refl; reads = refl; later = omega arith; errs = refl }

-- What each of two calls leaves, both leave.
pub reading_then : (first second third : World) → LeavesReading first second → LeavesReading second third
    → LeavesReading first third
reading_then first second third one next = record {
  files = next.files ∙ one.files;
  events = next.events ∙ one.events;
  err = next.err ∙ one.err;
  later = let before = one.later in let after = next.later in omega arith;
  writes = next.writes ∙ one.writes;
  errs = next.errs ∙ one.errs;
}

pub writing_then : (first second third : World) → LeavesWriting first second → LeavesWriting second third
    → LeavesWriting first third
writing_then first second third one next = record {
  files = next.files ∙ one.files;
  err = next.err ∙ one.err;
  reads = next.reads ∙ one.reads;
  later = let before = one.later in let after = next.later in omega arith;
  errs = next.errs ∙ one.errs;
}

module _ {A : Type 0} where
  -- Two writes append what both do.
  pub appends_then : (first second third : Option (List A)) (some more : List A) → Appends first second some
      → Appends second third more → Appends first third (some ++ more)
  appends_then first second third some more one next before told =
      next (before ++ some) (one before told) ∙ ap Some (append_assoc before some more)

  -- A whole write and a part of a second one append a first part of both.
  pub appends_then_front : (first second third : Option (List A)) (some more : List A)
      → Appends first second some → AppendsFront second third more → AppendsFront first third (some ++ more)
  appends_then_front first second third some more one next = (
    length some + next.0,
    λ before told.
        next.1 (before ++ some) (one before told)
        ∙ ap Some (append_assoc before some (take next.0 more)
        ∙ ap (λ part. before ++ part) (sym (take-append-add some more next.0))),
  )

  -- A first part of some items stands in front of those items and more.
  front_length : (count : ℕ) (some more : List A)
      → take (length (take count some)) (some ++ more) ≡ take count some
  front_length count some more =
      ap (λ whole. take (length (take count some)) (whole ++ more)) (sym (take-append-drop count some))
      ∙ ap (take (length (take count some))) (append_assoc (take count some) (drop count some) more)
      ∙ take-append_seam (take count some) (drop count some ++ more)

  pub front_of_more : (old new : Option (List A)) (some more : List A) → AppendsFront old new some
      → AppendsFront old new (some ++ more)
  front_of_more old new some more front = (
    length (take front.0 some),
    λ before told.
        front.1 before told ∙ ap (λ part. Some (before ++ part)) (sym (front_length front.0 some more)),
  )

  -- Nothing appended is a first part of any items, and all of some items is a first part of them.
  pub front_none : (old new : Option (List A)) (items : List A) → new ≡ old → AppendsFront old new items
  front_none old new items same = (0, λ before told. same ∙ told ∙ ap Some (sym (append-nil before)))

-- The events that write two pieces are those of the first, and then those of the second.
pub wrote-append : (some more : List ℕ) → wrote (some ++ more) ≡ wrote some ++ wrote more
wrote-append [] more = refl
wrote-append (byte ∷ some) more = ap (λ rest. Wrote byte ∷ rest) (wrote-append some more)

-- A first part of the events that write some bytes writes a first part of these.
pub take-wrote : (count : ℕ) (bytes : List ℕ) → take count (wrote bytes) ≡ wrote (take count bytes)
take-wrote zero bytes = refl
take-wrote (suc count) [] = refl
take-wrote (suc count) (byte ∷ bytes) = ap (λ rest. Wrote byte ∷ rest) (take-wrote count bytes)

-- Bytes that are written leave the files.
pub files_after-wrote : (files : Files) (bytes : List ℕ) → files_after files (wrote bytes) ≡ files
files_after-wrote files [] = refl
files_after-wrote files (byte ∷ bytes) = files_after-wrote files bytes

-- Of two lists of events the second begins with the files that the first leaves.
pub files_after-append : (files : Files) (some more : List Event)
    → files_after files (some ++ more) ≡ files_after (files_after files some) more
files_after-append files [] more = refl
files_after-append files (Took line ∷ some) more = files_after-append files some more
files_after-append files (InputEnded ∷ some) more = files_after-append files some more
files_after-append files (InputLost ∷ some) more = files_after-append files some more
files_after-append files (Wrote byte ∷ some) more = files_after-append files some more
files_after-append files (Saved name bytes ∷ some) more =
    files_after-append (insert files name bytes) some more
files_after-append files (NotSaved name ∷ some) more = files_after-append files some more

-- The same of files that are told or not.
told-append : (told : Option Files) (some more : List Event)
    → option_map (λ files. files_after files more) (option_map (λ files. files_after files some) told)
    ≡ option_map (λ files. files_after files (some ++ more)) told
told-append None some more = refl
told-append (Some files) some more = ap Some (sym (files_after-append files some more))

told-wrote : (told : Option Files) (bytes : List ℕ)
    → told ≡ option_map (λ files. files_after files (wrote bytes)) told
told-wrote None bytes = refl
told-wrote (Some files) bytes = ap Some (sym (files_after-wrote files bytes))

-- Where nothing has changed, nothing has happened.
pub does_nothing : (old new : World) → new.events ≡ old.events → new.files ≡ old.files → Does old new []
does_nothing old new events files = record {
  events = λ before told. events ∙ told ∙ ap Some (sym (append-nil before));
  files = files ∙ told-wrote old.files [];
}

-- What happens in each of two calls, happens in both.
pub does_then : (first second third : World) (some more : List Event) → Does first second some
    → Does second third more → Does first third (some ++ more)
does_then first second third some more one next = record {
  events = appends_then first.events second.events third.events some more one.events next.events;
  files = next.files
      ∙ ap (option_map (λ files. files_after files more)) one.files
      ∙ told-append first.files some more;
}

-- Where events are appended that write bytes, and the files are as they were, just these have happened.
pub does_wrote : (old new : World) (bytes : List ℕ) → Appends old.events new.events (wrote bytes)
    → new.files ≡ old.files → Does old new (wrote bytes)
does_wrote old new bytes events files =
    record { events = events; files = files ∙ told-wrote old.files bytes }

pub does_wrote_front : (old new : World) (bytes : List ℕ) → AppendsFront old.events new.events (wrote bytes)
    → new.files ≡ old.files → (count : ℕ) × Does old new (take count (wrote bytes))
does_wrote_front old new bytes front files = (
  front.0,
  subst (Does old new) (sym (take-wrote front.0 bytes))
      (does_wrote old new (take front.0 bytes)
      (subst (Appends old.events new.events) (take-wrote front.0 bytes) front.1) files),
)
