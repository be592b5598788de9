-- An editor's session of places, from one call to the next.
use Rattle.std.proofs.Common.{◌≡◌, ℕ, suc, ◌+◌, Some, None, List, [], ◌∷◌, ◌++◌, map, length, Option, false}
use Rattle.std.proofs.Common.{refl, sym, ap, ◌∙◌, arith, pos, subst}
use Rattle.std.specs.Prelude.{Result, Ok}
use Rattle.w4_defs.specs.declared.console.Input.{Input}
use Rattle.w4_defs.specs.declared.editing.EditRefusal.{EditRefusal}
use Rattle.w4_defs.specs.KeptList.{Entry, kept_entries, place_at}
use Rattle.w4_defs.specs.Session.{Session, PlacesDecide, draft_of_places, places_alone, session_of_places}
use Rattle.w4_defs.specs.Session.{result_of_places, keep, unless, with_list}
use Rattle.w4_editor.specs.Editor.{Editing, current_recording, with_session, KeepsRest, place_session}
use Rattle.w4_editor.specs.Showing.{linked_entry}
use Rattle.w4_editor.specs.Playing.{AreKeptInTurn, IsKeptAt, KeepsRecording}

-- ---- cart, font, digest, budget and disk

pub rest_none : (e : Editing) → KeepsRest e e
rest_none e = refl

pub rest_then : (first second third : Editing) → KeepsRest first second → KeepsRest second third
    → KeepsRest first third
rest_then first second third one next =
    next ∙ ap (λ (e : Editing). with_session e third.session third.at) one

pub rest_at : (old new : Editing) (at : Option ℕ) → new ≡ with_session old new.session at
    → KeepsRest old new
rest_at old new at e =
    e ∙ ap (λ (a : Option ℕ). with_session old new.session a) (sym (ap (λ (x : Editing). x.at) e))

-- ---- showing

same_list : (old new : List Entry) → length new ≡ length old
    → ((i : ℕ) → place_at new i ≡ place_at old i)
    → map kept_entries.place new ≡ map kept_entries.place old
same_list [] [] many each = refl
same_list [] (y ∷ new) many each = absurd (omega (arith, many))
same_list (x ∷ old) [] many each = absurd (omega (arith, many))
same_list (x ∷ old) (y ∷ new) many each =
    let rest = same_list old new (omega (arith, many)) (λ i. each (suc i)) in
    ap (λ (p : ℕ). p ∷ map kept_entries.place new) (each 0)
    ∙ ap (λ (places : List ℕ). x.place ∷ places) rest

pub same_session : (old new : Editing) → KeepsRecording old new → place_session new ≡ place_session old
same_session old new keeps =
    let kept =
    same_list old.session.current.kept new.session.current.kept keeps.places.many keeps.places.places in
    λ i. record {
      current = record { inputs = keeps.inputs i; kept = kept i };
      older = map (draft_of_places kept_entries) (keeps.older i);
      newer = map (draft_of_places kept_entries) (keeps.newer i);
    }

-- the recording is unchanged by what shows or brings up to date
pub same_recording : (old new : Editing) → KeepsRecording old new
    → current_recording new ≡ current_recording old
same_recording old new keeps =
    ap (λ (e : Editing). current_recording e) keeps.same
    ∙ ap (λ (inputs : List Input). record (current_recording old) { frames = inputs }) keeps.inputs

-- or by what changes the kept places alone
pub same_recording_kept : (old new : Editing) (kept : List ℕ) → KeepsRest old new
    → place_session new ≡ with_list (place_session old) kept
    → current_recording new ≡ current_recording old
same_recording_kept old new kept rest same =
    ap (λ (e : Editing). current_recording e) rest
    ∙ ap (λ (s : Session ℕ). record (current_recording old) { frames = s.current.inputs }) same

-- ---- one order

abbrev pub EditResult : Type 0
EditResult = Result (Session Entry) EditRefusal

abbrev pub SessionOrRefusal : Type 0
SessionOrRefusal = Result (Session ℕ) EditRefusal

-- any input and any entry, where an order has none
abbrev pub no_input : Input
no_input = record { pads = []; mouse_x = pos 0; mouse_y = pos 0; buttons = 0; reset = false }

pub left_by_edit : (wanted : EditResult) (alone : SessionOrRefusal) (new : Session Entry)
    → result_of_places kept_entries wanted ≡ alone → wanted ≡ Ok new
    → alone ≡ Ok (session_of_places kept_entries new)
left_by_edit wanted alone new law is = sym law ∙ ap (λ (m : EditResult). result_of_places kept_entries m) is

-- ---- keeping

pub kept_made : PlacesDecide kept_entries → (p before after copied : ℕ) (old new : Editing)
    → IsKeptAt p before after copied old new
    → keep places_alone p (place_session old) ≡ Ok (place_session new)
kept_made decides p before after copied old new h =
    let shown = h.shown in
    let entry = linked_entry p h.put.state in
    let law = (decides shown.session 0 no_input entry).5 in
    let same = same_session old shown h.is_shown.recording in
    sym (ap (λ (s : Session ℕ). keep places_alone p s) same)
    ∙ left_by_edit (keep kept_entries entry shown.session) (keep places_alone p (place_session shown))
    new.session law
    h.put.kept

pub kept_rest : (p before after copied : ℕ) (old new : Editing) → IsKeptAt p before after copied old new
    → KeepsRest old new
kept_rest p before after copied old new h =
    rest_then old h.shown new h.is_shown.recording.same (rest_at h.shown new h.shown.at h.put.same)

-- one place is kept
pub one_kept : (p before after copied : ℕ) (old new : Editing) → IsKeptAt p before after copied old new
    → (places : List ℕ) × AreKeptInTurn places before after copied old new
one_kept p before after copied old new kept =
    (p ∷ [], (after, copied, 0, new, omega arith, kept, (refl, refl, refl)))

-- some places are kept, and then some more
pub kept_then : (places more : List ℕ) (before between after copied then_copied : ℕ) (old then new : Editing)
    → AreKeptInTurn places before between copied old then
    → AreKeptInTurn more between after then_copied then new
    → AreKeptInTurn (places ++ more) before after (copied + then_copied) old new
kept_then [] more before between after copied then_copied old then new first next =
    let none = first.1 in
    let sum : then_copied ≡ copied + then_copied = omega (arith, none) in
    subst (λ (e : Editing). AreKeptInTurn more before after (copied + then_copied) e new) first.2
    (subst (λ (n : ℕ). AreKeptInTurn more before after n then new) sum
    (subst (λ (n : ℕ). AreKeptInTurn more n after then_copied then new) first.0 next))
kept_then (p ∷ places) more before between after copied then_copied old then new first next =
    let here = first.4 in (
      first.0,
      first.1,
      first.2 + then_copied,
      first.3,
      omega (arith, here),
      first.5,
      kept_then places more first.0 between after first.2 then_copied first.3 then new first.6 next,
    )

-- what an accepted change makes
pub accepted_is : (refusal : Option EditRefusal) (after left_by_edit : Session ℕ)
    → unless refusal after ≡ Ok left_by_edit → left_by_edit ≡ after
accepted_is None after left_by_edit e = cc
accepted_is (Some refusal) after left_by_edit e = cc
