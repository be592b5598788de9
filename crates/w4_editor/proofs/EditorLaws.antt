-- What showing, settling and keeping leave of an editor's parts.
use Rattle.std.proofs.Common.{◌≡◌, ◌⊎◌, ℕ, suc, ◌+◌, ◌-◌, ◌<◌, ◌≤◌, Bool, true, false, cond, not, ltb, eqb}
use Rattle.std.proofs.Common.{◌||◌, List, [], ◌∷◌, length, Option, Some, None, option_map, Ok, refl, sym, ap}
use Rattle.std.proofs.Common.{◌∙◌, subst, arith, inl, inr}
use Rattle.std.proofs.lemmas.Bool.{lt-ltb, le-ltb, ltb-true}
use Rattle.std.proofs.lemmas.Option.{same_Some}
use Rattle.std.proofs.lemmas.List.{length-map}
use Rattle.circular_buffer.specs.Buffer.{Buffer}
use Rattle.w4_defs.specs.declared.editing.EditRefusal.TheVariants.{NoFrame, Kept, FullSnapshots}
use Rattle.w4_defs.specs.Module.{WasmModule}
use Rattle.w4_defs.specs.Recording.{Recording}
use Rattle.w4_defs.specs.Reset.{Setup}
use Rattle.w4_defs.specs.Run.{run, run_state}
use Rattle.w4_defs.specs.Session.{Draft, is_kept, with_kept, keep_refusal, unless, with_list}
use Rattle.w4_defs.specs.State.{State, Moment, FrameRecord, HasGlobals}
use Rattle.w4_defs.specs.KeptList.{Entry, kept_entries, place_at, state_at, first_above, last_up_to}
use Rattle.w4_defs.specs.KeptList.{IsConsistent, IsSettled}
use Rattle.w4_defs.proofs.KeptListLaws.{linked_is_run}
use Rattle.w4_devices.specs.declared.frame_record.FrameRecord.{FrameRecord as Record}
use Rattle.w4_editor.specs.Player.{Player, player_setup, in_state}
use Rattle.w4_editor.specs.Settling.{AreLinked}
use Rattle.w4_editor.specs.Showing.{copied_beside, linked_entry}
use Rattle.w4_editor.specs.Editor.{Editing, IsEditor, IsShownAt, editing_setup, session_of}
use Rattle.w4_editor.specs.Playing.{CanKeep, IsPut, IsShown, IsStepped}
use Rattle.w4_editor.proofs.EditorKeepLaws.{keep_consistent}
use Rattle.w4_editor.proofs.SettlingLaws.{sure_of_itself}
use Rattle.w4_editor.proofs.ShowingLaws.{up_to_last}
use Rattle.w4_editor.proofs.PlayerLaws.{types_as_many}

-- the place of an editor that shows none
pub none_shown : (setup : Setup) (disk : List ℕ) (r : Recording) (kept : List Entry)
    (older newer : List (Draft Entry)) (state : State)
    → IsShownAt setup disk (session_of r kept older newer) None state
none_shown setup disk r kept older newer state p e = absurd cc

pub place_shown : (setup : Setup) (disk : List ℕ) (r : Recording) (kept : List Entry)
    (older newer : List (Draft Entry)) (state : State)
    (p : ℕ) → p ≤ length r.frames → run_state setup disk r.frames p ≡ Some state
    → IsShownAt setup disk (session_of r kept older newer) (Some p) state
place_shown setup disk r kept older newer state p le is q e =
    subst (λ n. (n ≤ length r.frames) × (run_state setup disk r.frames n ≡ Some state)) (same_Some p q e)
    (le, is)

-- ---- what may be kept

pub may_keep : (p : ℕ) (draft : Draft Entry) → p ≤ length draft.inputs
    → is_kept kept_entries p draft.kept ≡ false
    → length draft.kept < 1024 → keep_refusal kept_entries p draft ≡ None
may_keep p draft le fresh room =
    ap (λ b. cond b (Some NoFrame) (cond (is_kept kept_entries p draft.kept) (Some Kept)
    (cond (ltb (length draft.kept) 1024) None (Some FullSnapshots)))) (le-ltb (length draft.inputs) p le)
    ∙ ap (λ b. cond b (Some Kept) (cond (ltb (length draft.kept) 1024) None (Some FullSnapshots))) fresh
    ∙ ap (λ b. cond b None (Some FullSnapshots)) (lt-ltb (length draft.kept) 1024 room)

none_owed : (a b c : Bool)
    → cond a (Some NoFrame) (cond b (Some Kept) (cond c None (Some FullSnapshots))) ≡ None
    → (b ≡ false) × (c ≡ true)
none_owed true b c e = absurd cc
none_owed false true c e = absurd cc
none_owed false false true e = (refl, refl)
none_owed false false false e = absurd cc

-- where the place may be kept it isn't kept, and there is room for it
pub not_refused : (p : ℕ) (draft : Draft Entry) → keep_refusal kept_entries p draft ≡ None
    → (is_kept kept_entries p draft.kept ≡ false) × (length draft.kept < 1024)
not_refused p draft e =
    let parts = none_owed (ltb (length draft.inputs) p) (is_kept kept_entries p draft.kept)
    (ltb (length draft.kept) 1024) e in
    (parts.0, ltb-true (length draft.kept) 1024 parts.1)

pub nowhere_or_at_end : (place : Option ℕ) (n : ℕ) → ((p : ℕ) → place ≡ Some p → p ≤ n)
    → ((p : ℕ) → place ≡ Some p → n ≤ p)
    → (place ≡ None) ⊎ (place ≡ Some n)
nowhere_or_at_end None n low high = inl refl
nowhere_or_at_end (Some p) n low high = inr (ap Some (omega (arith, low p refl, high p refl)))

-- ---- the parts

-- what the parts of an editor are seen as
abbrev pub view : Player → Recording → List Entry → Buffer (Draft Entry) → Buffer (Draft Entry) → Option ℕ
    → Editing
view player r kept olds news place = record {
  cart = player.cart;
  font = player.font;
  digest = r.digest;
  budget = player.budget;
  disk = r.disk;
  session = session_of r kept olds.items news.items;
  at = place;
}

module _ (player : Player) (r : Recording) (kept : List Entry) (olds news : Buffer (Draft Entry))
    (place : Option ℕ) (frame_record : Record)
    (e : IsEditor player r kept olds news place frame_record) where
  pub is_consistent : IsConsistent (player_setup player) r.disk r.frames kept
  is_consistent = e.session.current.kept

  -- with another kept list, another state and another place
  pub stays : (next : Player) (new : List Entry) (at : Option ℕ) → next ≡ in_state player next.state
      → IsConsistent (player_setup player) r.disk r.frames new
      → IsShownAt (player_setup player) r.disk (session_of r new olds.items news.items) at next.state
      → IsEditor next r new olds news at frame_record
  stays next new at same consistent shown = subst (λ (p : Player). IsEditor p r new olds news at frame_record)
      (sym same) (record {
        budget = e.budget;
        session = record {
          current = record { few = e.session.current.few; kept = consistent };
          older = e.session.older;
          newer = e.session.newer;
          few = e.session.few;
        };
        room_older = e.room_older;
        room_newer = e.room_newer;
        reset_frame = e.reset_frame;
        shown = shown;
      })

  -- after a settling of all entries
  pub states_of_run : (old : List Entry) → IsSettled (length old - 1) old kept
      → (i : ℕ) → i < length kept
      → run_state (player_setup player) r.disk r.frames (place_at kept i) ≡ Some (state_at kept i)
  states_of_run old settled i lt =
      let long = settled.same.many in
      linked_is_run (player_setup player) r.disk r.frames kept i is_consistent lt
      (λ j le. settled.linked j (omega (arith, le, lt, long)))

  -- the place that is shown
  pub run_here : (p : ℕ) → place ≡ Some p
      → run_state (player_setup player) r.disk r.frames p ≡ Some player.state
  run_here p at = (e.shown p at).1

  pub within_here : (p : ℕ) → place ≡ Some p → p ≤ length r.frames
  within_here p at = (e.shown p at).0

  -- the state that is shown is kept
  pub put_consistent : (p : ℕ) → place ≡ Some p → is_kept kept_entries p kept ≡ false → length kept < 1024
      → AreLinked (last_up_to p kept) kept → HasGlobals player.cart player.state
      → IsConsistent (player_setup player) r.disk r.frames
      (with_kept kept_entries (linked_entry p player.state) kept)
  put_consistent p at fresh room linked globals =
      keep_consistent (player_setup player) r.disk r.frames kept (linked_entry p player.state)
      (record { within = within_here p at; globals = globals; run = run_here p at }) fresh room
      (λ i lt le. linked i (up_to_last p kept is_consistent.true_links.rising i lt le)) is_consistent

  pub is_put : (p : ℕ) → place ≡ Some p → is_kept kept_entries p kept ≡ false → length kept < 1024
      → (new : List Entry)
      → new ≡ with_kept kept_entries (linked_entry p player.state) kept
      → (copied : ℕ) → copied ≡ copied_beside p player.state kept
      → IsPut p copied (view player r kept olds news place) (view player r new olds news place)
  is_put p at fresh room new is copied copies = record {
    state = player.state;
    of_run = run_here p at;
    kept = ap (λ refusal. unless refusal (with_list (session_of r kept olds.items news.items)
        (with_kept kept_entries (linked_entry p player.state) kept)))
        (may_keep p (record { inputs = r.frames; kept = kept }) (within_here p at) fresh room)
        ∙ ap (λ entries. Ok (session_of r entries olds.items news.items)) (sym is);
    copies = copies;
    same = refl;
  }

  pub is_stepped : (next : Player) → next ≡ in_state player next.state → (p : ℕ) → place ≡ Some p
      → p < length r.frames
      → (record_made : FrameRecord)
      → option_map (λ (m : Moment). m.frame_record) (run (player_setup player) r.disk r.frames (p + 1))
      ≡ Some record_made
      → IsStepped record_made (view player r kept olds news place) (view next r kept olds news (Some (p + 1)))
  is_stepped next same p at below record_made made_is = record {
    place = p;
    at = at;
    within = below;
    same = ap (λ (q : Player). view q r kept olds news (Some (p + 1))) same;
    record_is = made_is;
  }

-- ---- the same places

-- the same places, the same tests of them
pub kept_same : (p : ℕ) (old new : List Entry) → length new ≡ length old
    → ((i : ℕ) → place_at new i ≡ place_at old i)
    → is_kept kept_entries p new ≡ is_kept kept_entries p old
kept_same p [] [] long same = refl
kept_same p [] (y ∷ new) long same = absurd (omega (arith, long))
kept_same p (x ∷ old) [] long same = absurd (omega (arith, long))
kept_same p (x ∷ old) (y ∷ new) long same =
    λ j. eqb (same 0 j) p || kept_same p old new (omega (arith, long)) (λ i. same (suc i)) j

pub first_same : (p : ℕ) (old new : List Entry) → length new ≡ length old
    → ((i : ℕ) → place_at new i ≡ place_at old i)
    → first_above p new ≡ first_above p old
first_same p [] [] long same = refl
first_same p [] (y ∷ new) long same = absurd (omega (arith, long))
first_same p (x ∷ old) [] long same = absurd (omega (arith, long))
first_same p (x ∷ old) (y ∷ new) long same =
    λ j. cond (not (ltb p (same 0 j)))
    (1 + first_same p old new (omega (arith, long)) (λ i. same (suc i)) j) 0

pub can_keep : (p ticks_before ticks_after : ℕ) (old new : Editing)
    → IsShown p ticks_before ticks_after old new
    → keep_refusal kept_entries p old.session.current ≡ None → CanKeep p new
can_keep p ticks_before ticks_after old new shown owed =
    let free = not_refused p old.session.current owed in
    let room = free.1 in
    let was = old.session.current.kept in
    let now = new.session.current.kept in
    let places = shown.recording.places in
    let long = places.many in
    let first = first_same p was now long places.places in record {
      at = shown.at;
      fresh = kept_same p was now long places.places ∙ free.0;
      room = omega (arith, long, room);
      linked = λ i le. shown.settled.linked i (subst (λ n. i ≤ n - 1) first le);
    }

-- a place that is shown, where the kept places up to it are linked, is shown again by doing nothing
pub still_shown : (p ticks : ℕ) (e : Editing) → e.at ≡ Some p
    → AreLinked (last_up_to p e.session.current.kept) e.session.current.kept → IsShown p ticks ticks e e
still_shown p ticks e at linked =
    let kept = e.session.current.kept in
    let last = last_up_to p kept in record {
      recording = record {
        same = refl;
        inputs = refl;
        older = refl;
        newer = refl;
        places = record { many = refl; places = λ i. refl };
      };
      at = at;
      settled = record {
        same = record { many = refl; places = λ i. refl };
        linked = linked;
        states = λ i past. refl;
        next = sure_of_itself kept last;
        links = λ i past. refl;
      };
      frames_run = omega arith;
    }

-- ---- states

pub globals_as_many : (cart : WasmModule) (state : State) → HasGlobals cart state
    → length state.globals ≡ length cart.globals
globals_as_many cart state is =
    sym (types_as_many state.globals) ∙ ap length is ∙ length-map cart.globals (λ g. g.global.value)

-- the state of the next place
pub next_state : (frame_record : FrameRecord) (old new : Editing) (state : State)
    → IsStepped frame_record old new
    → ((q : ℕ) → new.at ≡ Some q
    → run_state (editing_setup new) new.disk new.session.current.inputs q ≡ Some state)
    → (p : ℕ) → old.at ≡ Some p
    → run_state (editing_setup old) old.disk old.session.current.inputs (p + 1) ≡ Some state
next_state frame_record old new state step here p at =
    let same : step.place ≡ p = same_Some step.place p (sym step.at ∙ at) in
    let there = here (step.place + 1) (ap (λ (x : Editing). x.at) step.same) in
    subst (λ n. run_state (editing_setup old) old.disk old.session.current.inputs (n + 1) ≡ Some state) same
    (subst (λ (x : Editing). run_state (editing_setup x) x.disk x.session.current.inputs (step.place + 1)
    ≡ Some state)
    step.same there)
