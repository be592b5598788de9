-- An editor's session of places, and what its runs have in common, from one call to the next.
use Rattle.std.proofs.Common.{◌≡◌, ℕ, Some, List, [], ◌++◌, Option, refl, sym, ap, ◌∙◌, subst}
use Rattle.std.specs.Prelude.{Result, Ok, Err, OnErr, OnOk}
use Rattle.std.specs.Option.{ForSome}
use Rattle.std.proofs.lemmas.List.{append-nil}
use Rattle.w4_defs.specs.declared.console.Input.{Input}
use Rattle.w4_defs.specs.Run.{run_state}
use Rattle.w4_defs.specs.Session.{Session}
use Rattle.w4_editor.specs.Editor.{Editing, current_recording, editing_setup, with_session, KeepsRest}
use Rattle.w4_editor.specs.Editor.{place_session}
use Rattle.w4_editor.specs.Playing.{IsShown, KeepsRecording}
use Rattle.w4_defs.specs.World.{Event, World, wrote}
use Rattle.w4_answers.specs.Writing.{AppendsOut, Written, StopsWriting}
use Rattle.w4_defs.specs.declared.place_text.PlaceText.{PlaceText}
use Rattle.w4_defs.specs.ScriptAnswers.{one_text}
use Rattle.w4_defs.specs.Answers.{answer_text}
use Rattle.w4_defs.specs.PlaceTexts.{PieceForm}
use Rattle.w4_answers.specs.Desk.{OnlyShows, text_by}
use Rattle.w4_answers.specs.ScriptAnswers.{IsAnswered, GivesAnswer, LeavesRecording}
use Rattle.w4_defs.specs.Endings.{Manner, ReadFailed, InputFailed, WriteFailed, MemoryRefused, Refused}
use Rattle.w4_defs.specs.Endings.{manner_of}
use Rattle.w4_defs.specs.declared.status.Refusal.{Refusal}
use Rattle.w4_answers.proofs.WritingLaws.{there_as, there_is}
use Rattle.w4_editor.proofs.EditorPlaceLaws.{rest_then, same_recording, same_session}

-- ---- cart, font, digest, budget and disk

pub same_editing_setup : (old new : Editing) → KeepsRest old new → editing_setup new ≡ editing_setup old
same_editing_setup old new rest = ap (λ (e : Editing). editing_setup e) rest

pub same_disk : (old new : Editing) → KeepsRest old new → new.disk ≡ old.disk
same_disk old new rest = ap (λ (e : Editing). e.disk) rest

-- ---- showing

pub only_shows : (old new : Editing) → KeepsRecording old new → OnlyShows old new
only_shows old new keeps = record { session = same_session old new keeps; rest = keeps.same }

-- whether the place is shown or memory ran out before
pub gone_recording : {X E : Type 0} (result : Result X E) (p ticks_before ticks_after : ℕ) (old new : Editing)
    → OnOk result (IsShown p ticks_before ticks_after old new) → OnErr result (KeepsRecording old new)
    → current_recording new ≡ current_recording old
gone_recording (Ok x) p ticks_before ticks_after old new shown keeps =
    same_recording old new shown.recording
gone_recording (Err e) p ticks_before ticks_after old new shown keeps = same_recording old new keeps

-- the same session, at another place
pub shows_at : (old new : Editing) (at : Option ℕ) → new ≡ with_session old old.session at
    → OnlyShows old new
shows_at old new at e =
    let same : new.session ≡ old.session = ap (λ (x : Editing). x.session) e in record {
      session = ap (λ (x : Editing). place_session x) e;
      rest =
          e
          ∙ (λ i. with_session old (sym same i) (sym (ap (λ (x : Editing). x.at) e) i));
    }

pub shows_none : (e : Editing) → OnlyShows e e
shows_none e = record { session = refl; rest = refl }

pub shows_same : (old new : Editing) → new ≡ old → OnlyShows old new
shows_same old new same = subst (λ (e : Editing). OnlyShows old e) (sym same) (shows_none old)

pub shows_then : (first second third : Editing) → OnlyShows first second → OnlyShows second third
    → OnlyShows first third
shows_then first second third one next =
    record { session = next.session ∙ one.session; rest = rest_then first second third one.rest next.rest }

pub same_inputs : (old new : Editing) → OnlyShows old new
    → new.session.current.inputs ≡ old.session.current.inputs
same_inputs old new shows = ap (λ (s : Session ℕ). s.current.inputs) shows.session

-- the recording as well
pub shows_recording : (old new : Editing) → OnlyShows old new → current_recording new ≡ current_recording old
shows_recording old new shows =
    ap (λ (e : Editing). current_recording e) shows.rest
    ∙ ap (λ (inputs : List Input). record (current_recording old) { frames = inputs })
    (same_inputs old new shows)

-- an order that tells something leaves the recording as it was, however it stopped
pub leaves_kept : (why : Manner) (old new : Editing) → current_recording new ≡ current_recording old
    → LeavesRecording why old new (place_session old)
leaves_kept ReadFailed old new same = same
leaves_kept InputFailed old new same = same
leaves_kept WriteFailed old new same = same
leaves_kept MemoryRefused old new same = same
leaves_kept (Refused refusal) old new same = same

-- the state at a place is the same
pub same_state : (old new : Editing) (p : ℕ) → OnlyShows old new
    → run_state (editing_setup new) new.disk new.session.current.inputs p
    ≡ run_state (editing_setup old) old.disk old.session.current.inputs p
same_state old new p shows =
    λ i. run_state (same_editing_setup old new shows.rest i) (same_disk old new shows.rest i)
    (same_inputs old new shows i) p

-- what is told of a place is the same
pub same_text : (form : PieceForm) (old new : Editing) (wanted : PlaceText) (p : ℕ) → OnlyShows old new
    → text_by form new wanted p ≡ text_by form old wanted p
same_text form old new wanted p shows =
    λ i. one_text form (same_editing_setup old new shows.rest i) (same_disk old new shows.rest i)
    (shows.session i) wanted p

-- where nothing is to be written
pub appends_nothing : (world : World) (out : List ℕ) → out ≡ [] → AppendsOut world.events world.events out
appends_nothing world out none = λ before texts.
    texts ∙ ap (λ (events : List Event). Some events)
    (sym (ap (λ (bytes : List ℕ). before ++ wrote bytes) none ∙ append-nil before))

-- an order that tells something and changes nothing
pub told : (before after : World) (old new : Editing) (text : Option (List ℕ)) → OnlyShows old new
    → ForSome text (λ out. AppendsOut before.events after.events out)
    → IsAnswered before after old new (answer_text (place_session old) text)
told before after old new text shows written =
    record { out = written; session = shows.session; rest = shows.rest }

pub answered_on : {X : Type 0} (result : Result X Refusal) (before after : World) (old new : Editing)
    (written text : Option (List ℕ))
    → text ≡ written → OnOk result (OnlyShows old new) → current_recording new ≡ current_recording old
    → ForSome written (λ out. Written before after result out)
    → GivesAnswer before after result old new (answer_text (place_session old) text)
answered_on (Ok x) before after old new written text e shows same h =
    told before after old new text shows (there_as
    (λ out. AppendsOut before.events after.events out) written text e h)
answered_on (Err why) before after old new written text e shows same h = (
  there_as (λ out. StopsWriting before after (manner_of why) out) written text e h,
  leaves_kept (manner_of why) old new same,
)

-- a refusal shows nothing
pub refused_place : {X : Type 0} (result : Result X Refusal) (before after : World) (e : Editing)
    (written : List ℕ) (text : Option (List ℕ))
    → text ≡ Some written → Written before after result written
    → GivesAnswer before after result e e (answer_text (place_session e) text)
refused_place (Ok x) before after e written text same h =
    told before after e e text (shows_none e)
    (there_is (λ out. AppendsOut before.events after.events out) text written same h)
refused_place (Err why) before after e written text same h = (
  there_is (λ out. StopsWriting before after (manner_of why) out) text written same h,
  leaves_kept (manner_of why) e e refl,
)

-- ---- where a place is shown

some_place : (a b : ℕ) → Some a ≡ Some b → a ≡ b
some_place a b e = cc

pub same_place : (at : Option ℕ) (a b : ℕ) → at ≡ Some a → at ≡ Some b → a ≡ b
same_place at a b one other = some_place a b (sym one ∙ other)
