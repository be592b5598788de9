-- Samples that are written frame after frame.
use Rattle.std.proofs.Common.{◌≡◌, ℕ, suc, ◌+◌, ◌-◌, ◌<◌, ◌≤◌, List, ◌∷◌, ◌++◌, map, Option, Some}
use Rattle.std.proofs.Common.{None, option_map, refl, sym, ap, subst, arith}
use Rattle.std.specs.List.{range_with_len}
use Rattle.std.specs.Option.{ForSome}
use Rattle.std.specs.Prelude.{Result, Ok, Err}
use Rattle.w4_defs.specs.AllThere.{joined, all_some}
use Rattle.w4_defs.specs.State.{FrameRecord}
use Rattle.w4_defs.specs.Sound.{Wave, after_frame, first_wave, rendered, samples, samples_from}
use Rattle.w4_defs.specs.World.{World}
use Rattle.w4_answers.specs.Writing.{AppendsOut, StopsWriting, Written}
use Rattle.w4_defs.proofs.OptionLaws.{some_same}
use Rattle.w4_answers.proofs.WritingLaws.{out_then, owes_after, owes_stopped, OwesThere, there_begins}
use Rattle.w4_answers.proofs.WritingLaws.{there_is, there_less, there_nothing, there_stopped}
use Rattle.w4_defs.specs.declared.status.Refusal.{Refusal}
use Rattle.w4_defs.specs.Endings.{Manner, manner_of}

-- the samples of so many places, by what their frames made
abbrev pub samples_at : (ℕ → Option FrameRecord) → Wave → ℕ → ℕ → Option (List ℕ)
samples_at records wave from count =
    option_map (samples_from wave) (all_some (map records (range_with_len from count)))

-- the samples of the first record, and those of the others
samples-split : (one : FrameRecord) (wave next : Wave) (records : Option (List FrameRecord))
    → next ≡ after_frame one wave
    → option_map (samples_from wave) (option_map (λ values. one ∷ values) records)
    ≡ joined (Some (rendered one wave)) (option_map (samples_from next) records)
samples-split one wave next (Some records) goes =
    ap (λ (w : Wave). Some (rendered one wave ++ samples_from w records)) (sym goes)
samples-split one wave next None goes = refl

samples-next : (records : ℕ → Option FrameRecord) (one : FrameRecord) (wave next : Wave) (from count : ℕ)
    → records from ≡ Some one → next ≡ after_frame one wave
    → samples_at records wave from (suc count)
    ≡ joined (Some (rendered one wave)) (samples_at records next (from + 1) count)
samples-next records one wave next from count e goes =
    rw e (samples-split one wave next (all_some (map records (range_with_len (from + 1) count))) goes)

-- after the first, the others are owed
samples-first : (records : ℕ → Option FrameRecord) (one : FrameRecord) (wave next : Wave) (count : ℕ)
    → records 0 ≡ Some one → next ≡ after_frame one wave
    → samples_at records wave 0 (count + 1) ≡ joined (Some (rendered one wave))
    (samples_at records next 1 count)
samples-first records one wave next count e goes =
    let k : count + 1 ≡ suc count = omega arith in
    rw k (samples-next records one wave next 0 count e goes)

samples-later : (records : ℕ → Option FrameRecord) (one : FrameRecord) (wave next : Wave) (at to : ℕ) → at
    < to
    → records (at + 1) ≡ Some one → next ≡ after_frame one wave
    → samples_at records wave (at + 1) (to - at)
    ≡ joined (Some (rendered one wave)) (samples_at records next (at + 1 + 1) (to - (at + 1)))
samples-later records one wave next at to lt e goes =
    let k : to - at ≡ suc (to - (at + 1)) = omega arith in
    rw k (samples-next records one wave next (at + 1) (to - (at + 1)) e goes)

piece_written : (now after : World) (bytes : List ℕ) → AppendsOut now.events after.events bytes
    → ForSome (Some bytes) (λ text. AppendsOut now.events after.events text)
piece_written now after bytes h = there_is (λ text. AppendsOut now.events after.events text)
    (Some bytes) bytes refl h

piece_stopping : (now after : World) (why : Manner) (bytes : List ℕ) → StopsWriting now after why bytes
    → ForSome (Some bytes) (λ text. StopsWriting now after why text)
piece_stopping now after why bytes h =
    there_is (λ text. StopsWriting now after why text) (Some bytes) bytes refl h

pub samples-begin : (first now : World) (records : ℕ → Option FrameRecord) (one : FrameRecord)
    (wave next : Wave)
    (count : ℕ)
    → records 0 ≡ Some one → AppendsOut first.events now.events (rendered one wave)
    → next ≡ after_frame one wave
    → OwesThere first now (samples_at records next 1 count) (samples_at records wave 0 (count + 1))
samples-begin first now records one wave next count e h goes =
    let whole = samples_at records wave 0 (count + 1) in
    there_less first first now (Some (rendered one wave)) (samples_at records next 1 count) whole
    (piece_written first now (rendered one wave) h)
    (subst (λ owed. OwesThere first first owed whole) (samples-first records one wave next count e goes)
    (there_begins first whole))

pub samples-go_on : (first now after : World) (records : ℕ → Option FrameRecord) (one : FrameRecord)
    (wave next : Wave) (at to : ℕ) (whole : Option (List ℕ)) → at < to
    → records (at + 1) ≡ Some one → AppendsOut now.events after.events (rendered one wave) → next
    ≡ after_frame one wave
    → OwesThere first now (samples_at records wave (at + 1) (to - at)) whole
    → OwesThere first after (samples_at records next (at + 1 + 1) (to - (at + 1))) whole
samples-go_on first now after records one wave next at to whole lt e h goes so_far =
    there_less first now after (Some (rendered one wave))
    (samples_at records next (at + 1 + 1) (to - (at + 1)))
    whole (piece_written now after (rendered one wave) h)
    (subst (λ owed. OwesThere first now owed whole) (samples-later records one wave next at to lt e goes)
    so_far)

-- where the first frame's, or a later one's, stopped
pub samples-stop_first : (old new : World) (why : Manner) (records : ℕ → Option FrameRecord)
    (one : FrameRecord)
    (wave : Wave) (count : ℕ) → records 0 ≡ Some one → StopsWriting old new why (rendered one wave)
    → ForSome (samples_at records wave 0 (count + 1)) (λ text. StopsWriting old new why text)
samples-stop_first old new why records one wave count e h =
    let next = after_frame one wave in
    let whole = samples_at records wave 0 (count + 1) in
    there_stopped old old new why (Some (rendered one wave)) (samples_at records next 1 count) whole whole
    (samples-first records one wave next count e refl) (omega arith) (there_begins old whole)
    (piece_stopping old new why (rendered one wave) h)

pub samples-stop : (first now after : World) (why : Manner) (records : ℕ → Option FrameRecord)
    (one : FrameRecord) (wave : Wave) (at to : ℕ) (whole : Option (List ℕ)) → at < to
    → records (at + 1) ≡ Some one → first.write_faults ≤ now.write_faults
    → OwesThere first now (samples_at records wave (at + 1) (to - at)) whole
    → StopsWriting now after why (rendered one wave)
    → ForSome whole (λ text. StopsWriting first after why text)
samples-stop first now after why records one wave at to whole lt e le so_far h =
    let next = after_frame one wave in
    there_stopped first now after why (Some (rendered one wave))
    (samples_at records next (at + 1 + 1) (to - (at + 1))) (samples_at records wave (at + 1) (to - at)) whole
    (samples-later records one wave next at to lt e refl) le so_far
    (piece_stopping now after why (rendered one wave) h)

pub samples-end : (first now : World) (records : ℕ → Option FrameRecord) (wave : Wave) (at to : ℕ)
    (whole : Option (List ℕ)) → to ≤ at → OwesThere first now (samples_at records wave (at + 1) (to - at))
    whole
    → ForSome whole (λ text. AppendsOut first.events now.events text)
samples-end first now records wave at to whole le so_far =
    let k : to - at ≡ 0 = omega arith in
    there_nothing first now (samples_at records wave (at + 1) (to - at)) whole (rw k refl) so_far

-- of records that are there
pub samples_of : (P : List ℕ → Type 0) (records : Option (List FrameRecord))
    → ForSome (option_map (samples_from first_wave) records) P → ForSome records (λ all. P (samples all))
unfolding samples
samples_of P records h = λ all is.
    h (samples_from first_wave all)
    (ap (λ (o : Option (List FrameRecord)). option_map (samples_from first_wave) o) is)

-- what is made of records is there where they are
pub of_records : (P : List ℕ → Type 0) (text : List FrameRecord → List ℕ)
    (records : Option (List FrameRecord))
    → ForSome records (λ all. P (text all)) → ForSome (option_map text records) P
of_records P text (Some all) h = λ bytes is. subst P (some_same (text all) bytes is) (h all refl)
of_records P text None h = λ bytes is. absurd cc

-- a header, and the bytes after it
pub header_and_more : {X : Type 0} (result : Result X Refusal) (first second third : World)
    (header more : List ℕ)
    → first.write_faults ≤ second.write_faults
    → AppendsOut first.events second.events header → Written second third result more
    → Written first third result (header ++ more)
header_and_more (Ok x) first second third header more le one two =
    out_then first.events second.events third.events header more one two
header_and_more (Err why) first second third header more le one two =
    owes_stopped first second third (manner_of why) more (header ++ more) le
    (owes_after first second header more (header ++ more) one refl) two
