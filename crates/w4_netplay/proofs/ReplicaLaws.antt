-- What the editor's calls leave of a replica whose editor was rolled back.
use Rattle.std.proofs.Common.{◌≡◌, ℕ, ◌<◌, ◌≤◌, Bool, true, false, cond, ltb, leb, List, [], ◌∷◌, length}
use Rattle.std.proofs.Common.{Option, Some, None, Result, Ok, Err, refl, sym, ap, ◌∙◌, inl, inr, arith}
use Rattle.std.proofs.lemmas.Bool.{lt-ltb, le-ltb, lt-leb, le-leb}
use Rattle.std.proofs.lemmas.List.{length-map}
use Rattle.std.specs.Prelude.{OnOk, OnErr}
use Rattle.std.specs.List.{slice_get}
use Rattle.std.proofs.lemmas.Option.{slice_get-get_or}
use Rattle.std.proofs.lemmas.List.FromFn.{get_or-map-range_with_len}
use Rattle.w4_defs.specs.declared.console.Input.{Input}
use Rattle.w4_defs.specs.declared.editing.EditRefusal.{EditRefusal}
use Rattle.w4_defs.specs.declared.editing.EditRefusal.TheVariants.{NoFrame, Kept, FullSnapshots, OutOfMemory}
use Rattle.w4_defs.specs.KeptList.{Entry, kept_entries, places_of, show_frames}
use Rattle.w4_defs.specs.Rollback.{Known, net_input, net_inputs}
use Rattle.w4_defs.specs.Run.{run_state}
use Rattle.w4_defs.specs.Session.{Session, places_alone, is_kept, with_kept, with_list, keep_refusal}
use Rattle.w4_defs.specs.Session.{place_refusal, unless}
use Rattle.w4_defs.specs.State.{State}
use Rattle.w4_editor.specs.Editor.{Editing, editing_setup, with_session}
use Rattle.w4_editor.specs.Showing.{linked_entry}
use Rattle.w4_editor.specs.Playing.{IsShown, IsKeptAt, IsPut, IsCauseOrMemory, KeepsRecording}
use Rattle.w4_editor.proofs.KeepEveryLaws.{is_one}
use Rattle.w4_netplay.specs.Rollback.{rollback_frames, IsRight, IsRolledTo, IsPartlyRolled}
use Rattle.w4_defs.specs.declared.net_refusal.NetRefusal.{NetRefusal}
use Rattle.w4_defs.specs.declared.net_refusal.NetRefusal.TheVariants as net
use Rattle.w4_netplay.specs.Pads.{known_in}
use Rattle.w4_netplay.specs.Replica.{edit_refusal, Netplay, IsReplica, IsNetRefusal, KeepsNetplay, ShowsPlace}
use Rattle.w4_netplay.specs.Replica.{KeepsPlace, known_of, places_kept, prediction, predicted_draft, IsRolled}
use Rattle.w4_netplay.proofs.RollbackFrameLaws.{shown_within}
use Rattle.w4_netplay.proofs.RollbackLinkLaws.{same_places}
use Rattle.w4_netplay.proofs.RollbackLaws.{rolled_all, rolled_length, net_length}

-- what a replica's parts are seen as
abbrev pub netplay_view : List (List (Option ℕ)) → ℕ → Editing → Netplay
netplay_view pads frames editor = record { pads = pads; frames = frames; editor = editor }

pub keeps_same : (r : Netplay) → KeepsNetplay r r
keeps_same r = record { pads = refl; frames = refl; kept = refl; rest = refl }

-- ---- a replica is rolled back

pub rolled_keeps : (pads : List (List (Option ℕ))) (frames : ℕ) (known : Known) (done : ℕ)
    (old new : Editing) → IsRolledTo known done old new
    → KeepsNetplay (netplay_view pads frames old)
    (netplay_view pads frames new)
rolled_keeps pads frames known done old new rolled = record {
  pads = refl;
  frames = refl;
  kept = same_places old.session.current.kept new.session.current.kept rolled.kept.places;
  rest = rolled.rest;
}

pub partly_keeps : (pads : List (List (Option ℕ))) (frames : ℕ) (known : Known) (old new : Editing)
    → IsPartlyRolled known frames old new
    → KeepsNetplay (netplay_view pads frames old)
    (netplay_view pads frames new)
partly_keeps pads frames known old new rolled =
    rolled_keeps pads frames known rolled.done old new rolled.rolled

pub is_rolled : (pads : List (List (Option ℕ))) (frames : ℕ) (old new : Editing) → IsReplica frames old
    → IsRolledTo (known_in pads) frames old new
    → IsRolled (netplay_view pads frames old)
    (netplay_view pads frames new)
is_rolled pads frames old new limits rolled = record {
  netplay = rolled_keeps pads frames (known_in pads) frames old new rolled;
  inputs = rolled_all (known_in pads) frames old new rolled limits.inputs;
  links = rolled.kept;
}

-- still within the limits
pub rolled_limits : (known : Known) (frames done : ℕ) (old new : Editing) → IsReplica frames old
    → done ≤ frames → IsRolledTo known done old new → IsReplica frames new
rolled_limits known frames done old new limits le rolled =
    let long = rolled_length known done old new rolled in
    let was = limits.inputs in record {
      few = limits.few;
      inputs = omega (arith, long, was, le);
    }

pub either_limits : {X Y : Type 0} (result : Result X Y) (known : Known) (frames : ℕ) (old new : Editing)
    → IsReplica frames old → OnOk result (IsRolledTo known frames old new)
    → OnErr result (IsPartlyRolled known frames old new) → IsReplica frames new
either_limits (Ok x) known frames old new limits rolled partly =
    rolled_limits known frames frames old new limits (omega arith) rolled
either_limits (Err y) known frames old new limits rolled partly =
    rolled_limits known frames partly.done old new limits partly.some_of partly.rolled

-- ---- and then a place is shown

-- the input of a frame that has passed
get_net : (known : Known) (frames k : ℕ) → k < frames
    → slice_get (net_inputs known frames) k ≡ Some (net_input known k)
unfolding net_inputs
get_net known frames k lt =
    let input = net_input known k in
    let long = net_length known frames in
    let here : k < length (net_inputs known frames) = omega (arith, lt, long) in
    slice_get-get_or (net_inputs known frames) k input here
    ∙ ap Some (get_or-map-range_with_len (net_input known) 0 frames k k input lt (omega arith))

module _ (old mid : Netplay) (rolled : IsRolled old mid) (after_it : Editing) where
  abbrev shown : Netplay
  shown = netplay_view mid.pads mid.frames after_it

  -- what an editor leaves that keeps its recording
  pub still_keeps : KeepsRecording mid.editor after_it → KeepsNetplay old shown
  still_keeps is = record {
    pads = rolled.netplay.pads;
    frames = rolled.netplay.frames;
    kept = same_places mid.editor.session.current.kept after_it.session.current.kept is.places
        ∙ rolled.netplay.kept;
    rest = is.same ∙ ap (λ (e : Editing). with_session e after_it.session after_it.at) rolled.netplay.rest;
  }

  within_bound : (p : ℕ) → show_frames p mid.editor.session.current.kept after_it.session.current.kept
      ≤ rollback_frames p old.editor.session.current.inputs (prediction old)
      old.editor.session.current.kept after_it.session.current.kept
  within_bound p =
      let inputs = old.editor.session.current.inputs in
      shown_within (IsRight (known_of old) old.frames inputs) inputs (prediction old)
      old.editor.session.current.kept mid.editor.session.current.kept after_it.session.current.kept
      rolled.links
      (λ k same lt. same ∙ get_net (known_of old) old.frames k lt) p

  pub shows_place : (p before after : ℕ) → IsShown p before after mid.editor after_it
      → ShowsPlace p before after old shown
  shows_place p before after is =
      let bound = within_bound p in
      let counted = is.frames_run in record {
        netplay = still_keeps is.recording;
        inputs = is.recording.inputs ∙ rolled.inputs;
        at = is.at;
        frames_run = omega (arith, bound, counted);
      }

-- ---- what is asked of the editor is what is asked of the prediction

pub predicted_run_state : (old mid : Netplay) (p : ℕ) (state : State) → IsRolled old mid
    → run_state (editing_setup mid.editor) mid.editor.disk mid.editor.session.current.inputs p ≡ Some state
    → run_state (editing_setup old.editor) old.editor.disk (prediction old) p ≡ Some state
predicted_run_state old mid p state rolled is =
    ap (λ (inputs : List Input). run_state (editing_setup old.editor) old.editor.disk inputs p)
    (sym rolled.inputs)
    ∙ sym (ap (λ (e : Editing). run_state (editing_setup e) e.disk mid.editor.session.current.inputs p)
    rolled.netplay.rest)
    ∙ is

pub same_place_refusal : (old mid : Netplay) (p : ℕ) → IsRolled old mid
    → place_refusal p mid.editor.session.current ≡ place_refusal p (predicted_draft old)
same_place_refusal old mid p rolled =
    ap (λ (inputs : List Input). cond (leb p (length inputs)) None (Some NoFrame)) rolled.inputs

-- why a place isn't kept, by the number of inputs, whether it is kept, and how many places are
abbrev keep_cause : ℕ → ℕ → Bool → ℕ → Option EditRefusal
keep_cause p inputs there many = cond (ltb inputs p) (Some NoFrame) (cond there (Some Kept)
    (cond (ltb many 1024) None (Some FullSnapshots)))

pub same_keep_refusal : (old mid : Netplay) (p : ℕ) → IsRolled old mid
    → keep_refusal kept_entries p mid.editor.session.current
    ≡ keep_refusal places_alone p (predicted_draft old)
same_keep_refusal old mid p rolled =
    let kept = mid.editor.session.current.kept in
    let there = is_one p kept ∙ ap (is_kept places_alone p) rolled.netplay.kept in
    let many = sym (length-map kept kept_entries.place) ∙ ap length rolled.netplay.kept in
    λ i. keep_cause p (length (rolled.inputs i)) (there i) (many i)

module _ (r : Netplay) (p : ℕ) where
  abbrev kept : List Entry
  kept = r.editor.session.current.kept

  abbrev wanted : Option EditRefusal
  wanted = keep_refusal places_alone p (predicted_draft r)

  -- by the replica's own numbers
  cause : (there : Bool) → there ≡ is_kept places_alone p (places_kept r)
      → wanted ≡ keep_cause p r.frames there (length kept)
  cause there is =
      let long = net_length (known_of r) r.frames in
      let many = length-map kept kept_entries.place in
      λ i. keep_cause p (long i) (sym is i) (many i)

  pub frame_beyond : r.frames < p → wanted ≡ Some NoFrame
  frame_beyond past = cause (is_kept places_alone p (places_kept r)) refl
      ∙ ap (λ t. cond t (Some NoFrame) (cond (is_kept places_alone p (places_kept r)) (Some Kept)
      (cond (ltb (length kept) 1024) None (Some FullSnapshots)))) (lt-ltb r.frames p past)

  module _ (within : p ≤ r.frames) (there : Bool) (is : there ≡ is_kept places_alone p (places_kept r)) where
    passed : wanted ≡ cond there (Some Kept) (cond (ltb (length kept) 1024) None (Some FullSnapshots))
    passed = cause there is
        ∙ ap (λ t. cond t (Some NoFrame) (cond there (Some Kept)
        (cond (ltb (length kept) 1024) None (Some FullSnapshots)))) (le-ltb r.frames p within)

    pub already : there ≡ true → wanted ≡ Some Kept
    already is_there = passed
        ∙ ap (λ t. cond t (Some Kept) (cond (ltb (length kept) 1024) None (Some FullSnapshots))) is_there

    fresh : there ≡ false → wanted ≡ cond (ltb (length kept) 1024) None (Some FullSnapshots)
    fresh absent = passed
        ∙ ap (λ t. cond t (Some Kept) (cond (ltb (length kept) 1024) None (Some FullSnapshots))) absent

    pub too_many : there ≡ false → 1024 ≤ length kept → wanted ≡ Some FullSnapshots
    too_many absent full = fresh absent
        ∙ ap (λ t. cond t None (Some FullSnapshots)) (le-ltb (length kept) 1024 full)

    pub may_be_kept : there ≡ false → length kept < 1024 → wanted ≡ None
    may_be_kept absent room = fresh absent
        ∙ ap (λ t. cond t None (Some FullSnapshots)) (lt-ltb (length kept) 1024 room)

-- a place that is there, and one that isn't
pub no_place : (r : Netplay) (p : ℕ) → r.frames < p → place_refusal p (predicted_draft r) ≡ Some NoFrame
no_place r p past =
    let long = net_length (known_of r) r.frames in
    ap (λ n. cond (leb p n) None (Some NoFrame)) long
    ∙ ap (λ t. cond t None (Some NoFrame)) (lt-leb p r.frames past)

pub some_place : (r : Netplay) (p : ℕ) → p ≤ r.frames → place_refusal p (predicted_draft r) ≡ None
some_place r p within =
    let long = net_length (known_of r) r.frames in
    ap (λ n. cond (leb p n) None (Some NoFrame)) long
    ∙ ap (λ t. cond t None (Some NoFrame)) (le-leb p r.frames within)

-- a refusal that has its cause
pub refused_for : (asked : Option EditRefusal) (refusal : NetRefusal) (reason : EditRefusal)
    → edit_refusal refusal ≡ Some reason → asked ≡ Some reason → IsNetRefusal asked refusal
refused_for asked refusal reason word is = record { reason = reason; word = word; cause = inl is }

-- the editor refuses for memory alone where its rule doesn't
pub memory_alone : (asked : Option EditRefusal) (refusal : EditRefusal) → IsCauseOrMemory asked refusal
    → asked ≡ None → refusal ≡ OutOfMemory
memory_alone asked refusal (inl is) free = absurd cc
memory_alone asked refusal (inr memory) free = memory.0

pub memory_refused : (asked : Option EditRefusal) → asked ≡ None → IsNetRefusal asked net.OutOfMemory
memory_refused asked free =
    record { reason = OutOfMemory; word = refl; cause = inr (refl, free) }

-- ---- and then it is kept

kept_in : (x : Entry) (kept : List Entry)
    → places_of (with_kept kept_entries x kept) ≡ with_kept places_alone x.place (places_of kept)
kept_in x [] = refl
kept_in x (y ∷ kept) = elim (ltb x.place y.place) as (λ t.
    places_of (cond t (x ∷ y ∷ kept) (y ∷ with_kept kept_entries x kept))
    ≡ cond t (x.place ∷ y.place ∷ places_of kept)
    (y.place ∷ with_kept places_alone x.place (places_of kept))) [
      | true ↦ refl
      | false ↦ ap (λ places. y.place ∷ places) (kept_in x kept)
    ]

kept_session : (refusal : Option EditRefusal) (after new : Session Entry)
    → unless refusal after ≡ Ok new → new ≡ after
kept_session None after new is = cc
kept_session (Some refusal) after new is = absurd cc

-- the session in which an entry is kept
put_session : (p copied : ℕ) (old new : Editing) → (put : IsPut p copied old new)
    → new.session ≡ with_list old.session
    (with_kept kept_entries (linked_entry p put.state) old.session.current.kept)
put_session p copied old new put =
    kept_session (keep_refusal kept_entries p old.session.current) _ new.session put.kept

pub keeps_place : (old mid : Netplay) (p before after copied : ℕ) (new : Editing) → IsRolled old mid
    → IsKeptAt p before after copied mid.editor new
    → KeepsPlace p before after old (netplay_view mid.pads mid.frames new)
keeps_place old mid p before after copied new rolled is =
    let shown = shows_place old mid rolled is.shown p before after is.is_shown in
    let now = is.shown.session.current.kept in record {
      shown = netplay_view mid.pads mid.frames is.shown;
      is_shown = shown;
      copied = copied;
      put = is.put;
      pads = rolled.netplay.pads;
      frames = rolled.netplay.frames;
      kept = ap (λ (s : Session Entry). places_of s.current.kept) (put_session p copied is.shown new is.put)
          ∙ kept_in (linked_entry p is.put.state) now
          ∙ ap (with_kept places_alone p) shown.netplay.kept;
    }
