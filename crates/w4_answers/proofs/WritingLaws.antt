-- Bytes on standard output, as events: one write after another, and what they leave of files. Bytes that are
-- written piece after piece, and what has been written where one of them stopped: a piece that isn't there is
-- never written, and then the whole isn't there either.
use Rattle.std.proofs.Common.{◌≡◌, ℕ, List, ◌++◌, take, Option, option_map, refl, sym, ap, subst, ◌∙◌, ◌≤◌}
use Rattle.std.proofs.Common.{[], Some, None, append_assoc}
use Rattle.w4_defs.specs.World.{Event, World, Rises, Appends, AppendsFront, Does, LeavesReading}
use Rattle.w4_defs.specs.World.{LeavesWriting, files_after, wrote}
use Rattle.w4_house.proofs.WorldLaws.{appends_then, appends_then_front, does_wrote, does_wrote_front}
use Rattle.w4_house.proofs.WorldLaws.{front_of_more, front_none, take-wrote, wrote-append}
use Rattle.w4_house.proofs.WorldLaws.{rises_later}
use Rattle.w4_answers.specs.Writing.{AppendsOut, AppendsOutFront, DoesFront, StopsWriting, Written}
use Rattle.w4_house.specs.Calls.{write_refusal}
use Rattle.w4_defs.specs.Endings.{manner_of, Manner, ReadFailed, InputFailed, WriteFailed, MemoryRefused}
use Rattle.w4_defs.specs.Endings.{Refused as RefusedFor}
use Rattle.w4_house.specs.declared.calls.WriteRefusal.{WriteRefusal}
use Rattle.w4_house.specs.declared.calls.WriteRefusal.TheVariants.{Failed, OutOfMemory}
use Rattle.std.specs.Prelude.{Result, Ok, Err}
use Rattle.std.specs.Option.{ForSome}
use Rattle.w4_defs.specs.declared.status.Refusal.{Refusal}
use Rattle.std.proofs.lemmas.List.{append-nil}
use Rattle.w4_defs.specs.AllThere.{joined}
use Rattle.w4_defs.proofs.OptionLaws.{some_same}

-- ---- first parts, of bytes and of events

pub front_out : (old new : Option (List Event)) (bytes : List ℕ) → AppendsFront old new (wrote bytes)
    → AppendsOutFront old new bytes
front_out old new bytes (count, h) = (count, subst (Appends old new) (take-wrote count bytes) h)

pub front_events : (old new : Option (List Event)) (bytes : List ℕ) → AppendsOutFront old new bytes
    → AppendsFront old new (wrote bytes)
front_events old new bytes (count, h) = (count, subst (Appends old new) (sym (take-wrote count bytes)) h)

pub out_then : (first second third : Option (List Event)) (some more : List ℕ) → AppendsOut first second some
    → AppendsOut second third more → AppendsOut first third (some ++ more)
out_then first second third some more one next =
    subst (Appends first third) (sym (wrote-append some more))
    (appends_then first second third (wrote some) (wrote more) one next)

pub out_then_front : (first second third : Option (List Event)) (some more : List ℕ)
    → AppendsOut first second some → AppendsOutFront second third more
    → AppendsOutFront first third (some ++ more)
out_then_front first second third some more one next =
    front_out first third (some ++ more)
    (subst (AppendsFront first third) (sym (wrote-append some more))
    (appends_then_front first second third (wrote some) (wrote more) one
    (front_events second third more next)))

pub out_front_of_more : (old new : Option (List Event)) (some more : List ℕ) → AppendsOutFront old new some
    → AppendsOutFront old new (some ++ more)
out_front_of_more old new some more front =
    front_out old new (some ++ more)
    (subst (AppendsFront old new) (sym (wrote-append some more))
    (front_of_more old new (wrote some) (wrote more) (front_events old new some front)))

pub out_none : (old new : Option (List Event)) (bytes : List ℕ) → new ≡ old → AppendsOutFront old new bytes
out_none old new bytes same = front_out old new bytes (front_none old new (wrote bytes) same)

-- ---- what was done, after files were read

pub does_later : (first second third : World) (done : List Event) → LeavesReading first second
    → Does second third done → Does first third done
does_later first second third done leaves does = record {
  events = subst (λ events. Appends events third.events done) leaves.events does.events;
  files = does.files ∙ ap (option_map (λ files. files_after files done)) leaves.files;
}

-- bytes that were written after files were read
pub written_does : (first second third : World) (bytes : List ℕ) → LeavesReading first second
    → LeavesWriting second third → AppendsOut second.events third.events bytes
    → Does first third (wrote bytes)
written_does first second third bytes leaves rest h =
    does_later first second third (wrote bytes) leaves (does_wrote second third bytes h rest.files)

pub front_does : (first second third : World) (bytes : List ℕ) → LeavesReading first second
    → LeavesWriting second third → AppendsOutFront second.events third.events bytes
    → DoesFront first third bytes
front_does first second third bytes leaves rest h =
    let front = does_wrote_front second third bytes (front_events second.events third.events bytes h)
    rest.files in
    (front.0, does_later first second third (take front.0 (wrote bytes)) leaves front.1)

-- a write was refused
pub out_refused : (old new : World) (why : WriteRefusal) (bytes : List ℕ)
    → (why ≡ Failed → Rises old.write_faults new.write_faults)
    → AppendsFront old.events new.events (wrote bytes)
    → StopsWriting old new (manner_of (write_refusal why)) bytes
out_refused old new Failed bytes rise front = (rise refl, front_out old.events new.events bytes front)
out_refused old new OutOfMemory bytes rise front = front_out old.events new.events bytes front

-- what has been written since, and what is still owed, make the whole
abbrev pub Owes : World → World → List ℕ → List ℕ → Type 0
Owes first now owed whole =
    (written : List ℕ) × AppendsOut first.events now.events written × (written ++ owed ≡ whole)

pub owes_less : (first now next : World) (some owed whole : List ℕ) → AppendsOut now.events next.events some
    → Owes first now (some ++ owed) whole → Owes first next owed whole
owes_less first now next some owed whole more (written, so_far, e) = (
  written ++ some,
  out_then first.events now.events next.events written some so_far more,
  append_assoc written some owed ∙ e,
)

pub owes_nothing : (first now : World) (owed whole : List ℕ) → owed ≡ [] → Owes first now owed whole
    → AppendsOut first.events now.events whole
owes_nothing first now owed whole none (written, so_far, e) =
    subst (λ bytes. AppendsOut first.events now.events bytes)
    (sym (append-nil written) ∙ ap (λ (bytes : List ℕ). written ++ bytes) (sym none) ∙ e) so_far

pub owes_after : (first now : World) (some owed whole : List ℕ) → AppendsOut first.events now.events some
    → some ++ owed ≡ whole → Owes first now owed whole
owes_after first now some owed whole written e = (some, written, e)

-- ---- where a piece stopped

owes_front : (first now next : World) (owed whole : List ℕ) → Owes first now owed whole
    → AppendsOutFront now.events next.events owed → AppendsOutFront first.events next.events whole
owes_front first now next owed whole (written, so_far, e) front =
    subst (λ bytes. AppendsOutFront first.events next.events bytes) e
    (out_then_front first.events now.events next.events written owed so_far front)

-- what was written so far is one
pub owes_begun : (first now : World) (owed whole : List ℕ) → Owes first now owed whole
    → AppendsOutFront first.events now.events whole
owes_begun first now owed whole so_far =
    owes_front first now now owed whole so_far (out_none now.events now.events owed refl)

-- a first part of what is owed, after what was written, is a first part of the whole
pub owes_stopped : (first now next : World) (why : Manner) (owed whole : List ℕ)
    → first.write_faults ≤ now.write_faults → Owes first now owed whole → StopsWriting now next why owed
    → StopsWriting first next why whole
owes_stopped first now next InputFailed owed whole le so_far h = h
owes_stopped first now next ReadFailed owed whole le so_far h = h
owes_stopped first now next WriteFailed owed whole le so_far h = (
  rises_later first.write_faults now.write_faults next.write_faults le h.0,
  owes_front first now next owed whole so_far h.1,
)
owes_stopped first now next MemoryRefused owed whole le so_far h =
    owes_front first now next owed whole so_far h
owes_stopped first now next (RefusedFor refusal) owed whole le so_far h = h

-- a first part of the first piece is one of all
pub stops_more : (old new : World) (why : Manner) (some more : List ℕ) → StopsWriting old new why some
    → StopsWriting old new why (some ++ more)
stops_more old new InputFailed some more h = h
stops_more old new ReadFailed some more h = h
stops_more old new WriteFailed some more h = (h.0, out_front_of_more old.events new.events some more h.1)
stops_more old new MemoryRefused some more h = out_front_of_more old.events new.events some more h
stops_more old new (RefusedFor refusal) some more h = h

-- the piece that stopped is the first of those that are owed
pub piece_stopped : (first now next : World) (why : Manner) (piece rest owed whole : List ℕ)
    → owed ≡ piece ++ rest → first.write_faults ≤ now.write_faults → Owes first now owed whole
    → StopsWriting now next why piece → StopsWriting first next why whole
piece_stopped first now next why piece rest owed whole e le so_far h =
    owes_stopped first now next why owed whole le so_far
    (subst (λ bytes. StopsWriting now next why bytes) (sym e) (stops_more now next why piece rest h))

-- nothing is a first part of any bytes
pub stops_untold : (old new : World) (why : Manner) (bytes other : List ℕ) → new.events ≡ old.events
    → StopsWriting old new why bytes → StopsWriting old new why other
stops_untold old new InputFailed bytes other same h = h
stops_untold old new ReadFailed bytes other same h = h
stops_untold old new WriteFailed bytes other same h = (h.0, out_none old.events new.events other same)
stops_untold old new MemoryRefused bytes other same h = out_none old.events new.events other same
stops_untold old new (RefusedFor refusal) bytes other same h = h

-- two pieces, one after another
pub written_then : {X : Type 0} (result : Result X Refusal) (first now next : World) (some more : List ℕ)
    → first.write_faults ≤ now.write_faults → AppendsOut first.events now.events some
    → Written now next result more → Written first next result (some ++ more)
written_then (Ok x) first now next some more le one h =
    out_then first.events now.events next.events some more one h
written_then (Err why) first now next some more le one h =
    owes_stopped first now next (manner_of why) more (some ++ more) le
    (owes_after first now some more (some ++ more) one refl) h

-- ---- what may not be there

-- what is there is one thing
pub there_is : (P : List ℕ → Type 0) (text : Option (List ℕ)) (bytes : List ℕ) → text ≡ Some bytes → P bytes
    → ForSome text P
there_is P text bytes is h = λ other same. subst P (some_same bytes other (sym is ∙ same)) h

-- the parts of a text that is there are there
pub joined_parts : (first rest : Option (List ℕ)) (whole : List ℕ) → joined first rest ≡ Some whole
    → (some : List ℕ) × (more : List ℕ) × (first ≡ Some some) × (rest ≡ Some more) × (some ++ more ≡ whole)
joined_parts (Some some) (Some more) whole is = (some, more, refl, refl, some_same (some ++ more) whole is)
joined_parts (Some some) None whole is = absurd cc
joined_parts None rest whole is = absurd cc

-- where the whole is there, so is what is still owed, and with what has been written since it makes the whole
abbrev pub OwesThere : World → World → Option (List ℕ) → Option (List ℕ) → Type 0
OwesThere first now owed whole =
    ForSome whole (λ all. (left : List ℕ) × (owed ≡ Some left) × Owes first now left all)

pub there_begins : (world : World) (whole : Option (List ℕ)) → OwesThere world world whole whole
there_begins world whole = λ all is. (
  all,
  is,
  ([], (λ before texts. texts ∙ ap (λ (events : List Event). Some events) (sym (append-nil before))), refl),
)

pub there_less : (first now next : World) (piece rest whole : Option (List ℕ))
    → ForSome piece (λ some. AppendsOut now.events next.events some)
    → OwesThere first now (joined piece rest) whole → OwesThere first next rest whole
there_less first now next piece rest whole written so_far = λ all is.
    let owes = so_far all is in
    let parts = joined_parts piece rest owes.0 owes.1 in (
      parts.1,
      parts.3,
      owes_less first now next parts.0 parts.1 all (written parts.0 parts.2)
          (subst (λ owed. Owes first now owed all) (sym parts.4) owes.2),
    )

pub there_nothing : (first now : World) (owed whole : Option (List ℕ)) → owed ≡ Some []
    → OwesThere first now owed whole → ForSome whole (λ all. AppendsOut first.events now.events all)
there_nothing first now owed whole none so_far = λ all is.
    let owes = so_far all is in
    owes_nothing first now owes.0 all (some_same owes.0 [] (sym owes.1 ∙ none)) owes.2

pub there_begun : (first now : World) (owed whole : Option (List ℕ)) → OwesThere first now owed whole
    → ForSome whole (λ all. AppendsOutFront first.events now.events all)
there_begun first now owed whole so_far = λ all is.
    let owes = so_far all is in
    owes_begun first now owes.0 all owes.2

-- the piece that stopped is the first of those that are owed
pub there_stopped : (first now next : World) (why : Manner) (piece rest owed whole : Option (List ℕ))
    → owed ≡ joined piece rest → first.write_faults ≤ now.write_faults → OwesThere first now owed whole
    → ForSome piece (λ some. StopsWriting now next why some)
    → ForSome whole (λ all. StopsWriting first next why all)
there_stopped first now next why piece rest owed whole e le so_far h = λ all is.
    let owes = so_far all is in
    let parts = joined_parts piece rest owes.0 (sym e ∙ owes.1) in
    piece_stopped first now next why parts.0 parts.1 owes.0 all (sym parts.4) le owes.2 (h parts.0 parts.2)

-- the same text in other words
pub there_as : (P : List ℕ → Type 0) (text other : Option (List ℕ)) → other ≡ text → ForSome text P
    → ForSome other P
there_as P text other e h = λ bytes is. h bytes (sym e ∙ is)
