-- From the editor that an edit opens to the recording that it leaves.
use Rattle.std.proofs.Common.{◌≡◌, ◌≤◌, ℕ, List, [], ◌∷◌, length, inl, inr, ap, ◌∙◌, sym, subst, append_assoc}
use Rattle.std.proofs.Math.Seq.{take-length}
use Rattle.std.proofs.lemmas.List.{append-nil}
use Rattle.std.specs.Prelude.{Result, Ok, Err}
use Rattle.std.specs.Option.{ForSome}
use Rattle.w4_defs.specs.declared.order.Order.{Order}
use Rattle.w4_defs.specs.Module.{WasmModule}
use Rattle.w4_defs.specs.Recording.{encoding}
use Rattle.w4_defs.specs.Session.{Session}
use Rattle.w4_defs.specs.State.{State}
use Rattle.w4_editor.specs.Editor.{Editing, new_editing, current_recording}
use Rattle.w4_defs.specs.World.{NotSaved, Saved, World, Does, LeavesWriting, wrote}
use Rattle.w4_answers.specs.Writing.{AppendsOut, StopsWriting}
use Rattle.w4_commands.specs.Edit.{Carried, StopsCarrying}
use Rattle.w4_answers.specs.Saving.{Replaces, StopsSaving}
use Rattle.w4_house.proofs.WorldLaws.{does_then, reading_none, rises_later}
use Rattle.w4_answers.proofs.WritingLaws.{front_does, written_does}
use Rattle.w4_defs.specs.declared.status.Refusal.{Refusal}
use Rattle.w4_answers.specs.ScriptAnswers.{IsAnswered, answers_by, recording_by}
use Rattle.w4_defs.specs.Endings.{Manner, ReadFailed, InputFailed, WriteFailed, MemoryRefused, Refused}
use Rattle.w4_defs.specs.Endings.{manner_of}
use Rattle.w4_defs.specs.Output.{Loaded, edit_answers, edited_recording}

-- what was carried out at the editor that a file opens was carried out for the file
pub opened_carried : {X : Type 0} (before after : World) (result : Result X Refusal) (cart : WasmModule)
    (l : Loaded) (e : Editing) (state : State) (name : List ℕ)
    → e ≡ new_editing cart l.run.font l.run.recording state
    → ForSome (answers_by e l.orders).out
    (λ out. Carried before after result out name (encoding 2 (recording_by e l.orders)))
    → ForSome (edit_answers cart l).out
    (λ out. Carried before after result out name (encoding 2 (edited_recording cart l)))
opened_carried before after result cart l e state name is h =
    subst (λ (x : Editing).
    ForSome (answers_by x l.orders).out
    (λ out. Carried before after result out name (encoding 2 (recording_by x l.orders))))
    is h

-- the answers stopped, so that no file was begun
pub carries_stopped : (old new : World) (why : Manner) (out name bytes : List ℕ) → LeavesWriting old new
    → StopsWriting old new why out → StopsCarrying old new why out name bytes
carries_stopped old new InputFailed out name bytes rest h = absurd h
carries_stopped old new ReadFailed out name bytes rest h = h
carries_stopped old new WriteFailed out name bytes rest h =
    (h.0, inl (front_does old old new out (reading_none old) rest h.1))
carries_stopped old new MemoryRefused out name bytes rest h =
    front_does old old new out (reading_none old) rest h
carries_stopped old new (Refused refusal) out name bytes rest h = h

pub recording_left : (before mid : World) (old new : Editing) (orders : List Order)
    → IsAnswered before mid old new (answers_by old orders) → current_recording new ≡ recording_by old orders
recording_left before mid old new orders answered =
    ap (λ (x : Editing). current_recording x) answered.rest
    ∙ ap (λ (s : Session ℕ). record (current_recording old) { frames = s.current.inputs }) answered.session

-- then the file was replaced, or it wasn't
module _ (before mid after : World) (out name bytes : List ℕ) (does : Does before mid (wrote out)) where
  saved_stopped : (why : Manner) → before.write_faults ≤ mid.write_faults
      → StopsSaving mid after why name bytes → StopsCarrying before after why out name bytes
  saved_stopped InputFailed le h = absurd h
  saved_stopped ReadFailed le h = h
  saved_stopped WriteFailed le (rise, inl fails) = (
    rises_later before.write_faults mid.write_faults after.write_faults le rise,
    inr (inl (does_then before mid after (wrote out) (NotSaved name ∷ []) does fails)),
  )
  saved_stopped WriteFailed le (rise, inr fails) = (
    rises_later before.write_faults mid.write_faults after.write_faults le rise,
    inr (inr (subst (Does before after)
        (sym (append_assoc (wrote out) (Saved name bytes ∷ []) (NotSaved name ∷ [])))
        (does_then before mid after (wrote out) (Saved name bytes ∷ NotSaved name ∷ []) does fails))),
  )
  saved_stopped MemoryRefused le h = (
    length (wrote out),
    subst (Does before after) (append-nil (wrote out) ∙ sym (take-length (wrote out)))
        (does_then before mid after (wrote out) [] does h),
  )
  saved_stopped (Refused refusal) le h = h

  pub carried_replaced : {X : Type 0} (result : Result X Refusal) → before.write_faults ≤ mid.write_faults
      → Replaces mid after result name bytes → Carried before after result out name bytes
  carried_replaced (Ok x) le h = does_then before mid after (wrote out) (Saved name bytes ∷ []) does h
  carried_replaced (Err why) le h = saved_stopped (manner_of why) le h

pub carried_saved : {X : Type 0} (result : Result X Refusal) (before mid after : World)
    (out name bytes wanted : List ℕ)
    → LeavesWriting before mid → AppendsOut before.events mid.events out → bytes ≡ wanted
    → Replaces mid after result name bytes → Carried before after result out name wanted
carried_saved result before mid after out name bytes wanted rest written e h =
    carried_replaced before mid after out name wanted
    (written_does before before mid out (reading_none before) rest written) result rest.later
    (subst (λ xs. Replaces mid after result name xs) e h)
