-- What an editor makes of its session, its places make of theirs.
use Rattle.std.proofs.Common.{◌≡◌, ◌≢◌, ◌⊎◌, ℕ, inl, inr, Some, List, [], Option, refl, sym, ap, ◌∙◌, subst}
use Rattle.std.specs.Prelude.{Result, Ok, Err, OnOk, OnErr, IfErr}
use Rattle.std.specs.Option.{ForSome}
use Rattle.w4_defs.specs.declared.editing.EditRefusal.{EditRefusal}
use Rattle.w4_defs.specs.declared.editing.EditRefusal.TheVariants.{OutOfMemory}
use Rattle.w4_defs.specs.declared.order.Order.{Order}
use Rattle.w4_defs.specs.declared.order.Order.TheVariants as order
use Rattle.w4_defs.specs.KeptList.{Entry, kept_entries}
use Rattle.w4_defs.specs.Reset.{Setup}
use Rattle.w4_defs.specs.Session.{Session, PlacesDecide, places_alone, session_of_places, result_of_places}
use Rattle.w4_defs.specs.Session.{keep, keep_refusal, unless, with_kept, with_list}
use Rattle.w4_defs.specs.State.{blank_state}
use Rattle.w4_editor.specs.Editor.{Editing, current_recording, with_session, KeepsRest, IsChanged}
use Rattle.w4_editor.specs.Editor.{place_session}
use Rattle.w4_editor.specs.Edits.{IsErrorOrMemory}
use Rattle.w4_editor.specs.Showing.{linked_entry}
use Rattle.w4_editor.specs.Playing.{IsKeptAt, IsCauseOrMemory}
use Rattle.w4_defs.specs.World.{World}
use Rattle.w4_answers.specs.Writing.{AppendsOut, Written, StopsWriting, WritesNothing}
use Rattle.w4_defs.specs.PlaceTexts.{PieceForm}
use Rattle.w4_defs.specs.ScriptAnswers.{answer, answer_change, refused_line, refusal_words}
use Rattle.w4_answers.specs.ScriptAnswers.{IsAnswered, GivesAnswer, LeavesRecording}
use Rattle.w4_answers.specs.ChangeAnswer.{changed}
use Rattle.w4_defs.specs.Endings.{Manner, manner_of}
use Rattle.w4_defs.specs.declared.status.Refusal.{Refusal}
use Rattle.w4_defs.specs.declared.status.Refusal.TheVariants as run
use Rattle.w4_answers.proofs.WritingLaws.{stops_untold, there_is}
use Rattle.w4_answers.proofs.DeskSessionLaws.{appends_nothing, leaves_kept}
use Rattle.w4_editor.proofs.EditorPlaceLaws.{EditResult, SessionOrRefusal, no_input, left_by_edit, kept_made}
use Rattle.w4_editor.proofs.EditorPlaceLaws.{kept_rest, rest_at}

-- ---- one order

pub refused_by_edit : (wanted : EditResult) (alone : SessionOrRefusal) (refusal : EditRefusal)
    → result_of_places kept_entries wanted ≡ alone → wanted ≡ Err refusal → alone ≡ Err refusal
refused_by_edit wanted alone refusal law is = sym law ∙ ap
    (λ (m : EditResult). result_of_places kept_entries m) is

pub refused_as : (wanted : EditResult) (refusal : EditRefusal) → IsErrorOrMemory wanted refusal
    → refusal ≢ OutOfMemory → wanted ≡ Err refusal
refused_as wanted refusal (inl is) other = is
refused_as wanted refusal (inr memory) other = absurd (other memory.0)

-- an edit that refuses as its definition does, and where memory runs out
pub changed_by : {X : Type 0} (result : Result X EditRefusal) (wanted : EditResult) (alone : SessionOrRefusal)
    (old new : Editing) (at : Option ℕ)
    → result_of_places kept_entries wanted ≡ alone
    → OnOk result (wanted ≡ Ok new.session) → OnOk result (new ≡ with_session old new.session at)
    → IfErr result (IsErrorOrMemory wanted) → OnErr result (new ≡ old)
    → IsChanged result old new alone
changed_by (Ok x) wanted alone old new at law ok rest refused unchanged =
    (left_by_edit wanted alone new.session law ok, rest_at old new at rest)
changed_by (Err refusal) wanted alone old new at law ok rest refused unchanged =
    λ other. (refused_by_edit wanted alone refusal law (refused_as wanted refusal refused other), unchanged)

-- one that refuses as its definition does, and never else
pub changed_exactly : {X : Type 0} (result : Result X EditRefusal) (wanted : EditResult)
    (alone : SessionOrRefusal)
    (old new : Editing) (at : Option ℕ)
    → result_of_places kept_entries wanted ≡ alone
    → OnOk result (wanted ≡ Ok new.session) → OnOk result (new ≡ with_session old new.session at)
    → IfErr result (λ refusal. wanted ≡ Err refusal) → OnErr result (new ≡ old)
    → IsChanged result old new alone
changed_exactly (Ok x) wanted alone old new at law ok rest refused unchanged =
    (left_by_edit wanted alone new.session law ok, rest_at old new at rest)
changed_exactly (Err refusal) wanted alone old new at law ok rest refused unchanged =
    λ other. (refused_by_edit wanted alone refusal law refused, unchanged)

-- ---- keeping

pub unkept : PlacesDecide kept_entries → (p : ℕ) (session : Session Entry) (refusal : EditRefusal)
    → IsCauseOrMemory (keep_refusal kept_entries p session.current) refusal → refusal ≢ OutOfMemory
    → keep places_alone p (session_of_places kept_entries session) ≡ Err refusal
unkept decides p session refusal (inr memory) other = absurd (other memory.0)
unkept decides p session refusal (inl is) other =
    let entry = linked_entry p (blank_state []) in
    refused_by_edit (keep kept_entries entry session) (keep places_alone p
    (session_of_places kept_entries session))
    refusal (decides session 0 no_input entry).5
    (ap (λ (r : Option EditRefusal).
    unless r (with_list session (with_kept kept_entries entry session.current.kept))) is)

pub changed_by_keep : PlacesDecide kept_entries → (p before after copied : ℕ) (old new : Editing)
    → IsKeptAt p before after copied old new
    → (keep places_alone p (place_session old) ≡ Ok (place_session new)) × KeepsRest old new
changed_by_keep decides p before after copied old new ok =
    (kept_made decides p before after copied old new ok, kept_rest p before after copied old new ok)

pub unchanged_by_keep : PlacesDecide kept_entries → (p : ℕ) (old new : Editing) (refusal : EditRefusal)
    → IsCauseOrMemory (keep_refusal kept_entries p old.session.current) refusal
    → (refusal ≢ OutOfMemory → new ≡ old)
    → refusal ≢ OutOfMemory → (keep places_alone p (place_session old) ≡ Err refusal) × (new ≡ old)
unchanged_by_keep decides p old new refusal refused unchanged other =
    (unkept decides p old.session refusal refused other, unchanged other)

-- an edit that is refused leaves the recording
pub recording_unchanged : {X : Type 0} (result : Result X EditRefusal) (old new : Editing)
    → OnErr result (new ≡ old) → OnErr result (current_recording new ≡ current_recording old)
recording_unchanged (Ok x) old new same = tt
recording_unchanged (Err refusal) old new same = ap (λ (e : Editing). current_recording e) same

-- ---- answers

-- the answer of an order that tells nothing
pub change_answers : (form : PieceForm) (setup : Setup) (disk : List ℕ) (s : Session ℕ) (o : Order)
    → ((p : ℕ) → o ≢ order.Show p) → ((a b workers : ℕ) → o ≢ order.Film a b workers)
    → ((a b : ℕ) → o ≢ order.Tones a b) → ((a b : ℕ) → o ≢ order.Traces a b)
    → ((p : ℕ) → o ≢ order.DiskAt p) → ((p : ℕ) → o ≢ order.StateAt p)
    → answer form setup disk s o ≡ answer_change form s (changed o s)
change_answers form setup disk s (order.Set k input) show film tones traces at state = refl
change_answers form setup disk s (order.Insert k input) show film tones traces at state = refl
change_answers form setup disk s (order.Delete k) show film tones traces at state = refl
change_answers form setup disk s order.Undo show film tones traces at state = refl
change_answers form setup disk s order.Redo show film tones traces at state = refl
change_answers form setup disk s (order.Keep p) show film tones traces at state = refl
change_answers form setup disk s (order.KeepEvery every) show film tones traces at state = refl
change_answers form setup disk s (order.DropKept p) show film tones traces at state = refl
change_answers form setup disk s (order.Settle workers) show film tones traces at state = refl
change_answers form setup disk s (order.Show p) show film tones traces at state = absurd (show p refl)
change_answers form setup disk s (order.Film a b workers) show film tones traces at state = absurd (film a b
    workers refl)
change_answers form setup disk s (order.Tones a b) show film tones traces at state = absurd (tones a b refl)
change_answers form setup disk s (order.Traces a b) show film tones traces at state = absurd (traces a b refl)
change_answers form setup disk s (order.DiskAt p) show film tones traces at state = absurd (at p refl)
change_answers form setup disk s (order.StateAt p) show film tones traces at state = absurd (state p refl)

pub carried : (form : PieceForm) (world : World) (old new : Editing) (alone : SessionOrRefusal)
    → alone ≡ Ok (place_session new)
    → KeepsRest old new
    → IsAnswered world world old new (answer_change form (place_session old) alone)
carried form world old new alone is rest =
    subst (λ (m : SessionOrRefusal).
    IsAnswered world world old new (answer_change form (place_session old) m))
    (sym is)
    (record {
      out =
          there_is (λ out. AppendsOut world.events world.events out) (Some []) [] refl
          (appends_nothing world [] refl);
      session = refl;
      rest = rest;
    })

pub change_refused : (form : PieceForm) (before after : World) (old new : Editing) (alone : SessionOrRefusal)
    (refusal : EditRefusal)
    → alone ≡ Err refusal → new ≡ old
    → AppendsOut before.events after.events (form (refused_line (refusal_words refusal)))
    → IsAnswered before after old new (answer_change form (place_session old) alone)
change_refused form before after old new alone refusal is same written =
    let line = form (refused_line (refusal_words refusal)) in
    subst (λ (m : SessionOrRefusal).
    IsAnswered before after old new (answer_change form (place_session old) m))
    (sym is)
    (record {
      out = there_is (λ out. AppendsOut before.events after.events out) (Some line) line refl written;
      session = ap (λ (e : Editing). place_session e) same;
      rest = ap (λ (e : Editing). e) same ∙ (λ i. with_session old (sym same i).session (sym same i).at);
    })

-- nothing was written, whatever the answer is
change_unwritten : (before after : World) (why : Manner) (line : List ℕ) (text : Option (List ℕ))
    → after.events ≡ before.events → StopsWriting before after why line
    → ForSome text (λ out. StopsWriting before after why out)
change_unwritten before after why line text same h = λ out is. stops_untold before after why line out same h

pub refused_on : (form : PieceForm) {X : Type 0} (result : Result X Refusal) (before after : World)
    (old new : Editing) (alone : SessionOrRefusal) (refusal : EditRefusal)
    → (refusal ≢ OutOfMemory → (alone ≡ Err refusal) × (new ≡ old))
    → current_recording new ≡ current_recording old
    → (refusal ≢ OutOfMemory) ⊎ WritesNothing before after result
    → Written before after result (form (refused_line (refusal_words refusal)))
    → GivesAnswer before after result old new (answer_change form (place_session old) alone)
refused_on form (Ok x) before after old new alone refusal why kept (inl cause) written =
    let is = why cause in
    change_refused form before after old new alone refusal is.0 is.1 written
refused_on form (Ok x) before after old new alone refusal why kept (inr (failed, same)) written = absurd cc
refused_on form (Err e) before after old new alone refusal why kept (inl cause) written =
    let is = (why cause).0 in (
      there_is (λ out. StopsWriting before after (manner_of e) out)
          (answer_change form (place_session old) alone).out (form (refused_line (refusal_words refusal)))
          (ap (λ (m : SessionOrRefusal). (answer_change form (place_session old) m).out) is) written,
      subst (λ (m : SessionOrRefusal).
          LeavesRecording (manner_of e) old new (answer_change form (place_session old) m).session)
          (sym is) (leaves_kept (manner_of e) old new kept),
    )
refused_on form (Err e) before after old new alone refusal why kept (inr (failed, same)) written =
    let memory : e ≡ run.OutOfMemory = cc in (
      change_unwritten before after (manner_of e) (form (refused_line (refusal_words refusal)))
          (answer_change form (place_session old) alone).out same written,
      subst (λ (r : Refusal).
          LeavesRecording (manner_of r) old new (answer_change form (place_session old) alone).session)
          (sym memory) kept,
    )
