-- What edits, undo and redo leave of an editor's parts: drafts move whole, so only an edit's new draft owes
-- anything.
use Rattle.std.proofs.Common.{true, ◌≡◌, ℕ, ◌+◌, ◌-◌, ◌<◌, ◌≤◌, List, [], ◌∷◌, ◌++◌, length, take, Option}
use Rattle.std.proofs.Common.{Some, None, refl, ap, subst, arith, length-append, length-set, length-take}
use Rattle.std.proofs.Common.{length-drop, option_map, option_and_then}
use Rattle.std.specs.List.{All}
use Rattle.std.proofs.lemmas.List.Edits.{length-insert, length-remove}
use Rattle.std.proofs.lemmas.List.Elements.{All-nil, All-push, All-take, All-drop, All-get_or}
use Rattle.std.proofs.lemmas.List.Elements.{All-from_get_or}
use Rattle.std.proofs.lemmas.Option.{slice_get_within, get_or_from_slice_get}
use Rattle.circular_buffer.specs.Buffer.{Buffer, buffer}
use Rattle.w4_defs.specs.Recording.{Recording}
use Rattle.w4_defs.specs.Session.{Draft, keep_last, last_item, set_draft, insert_draft, delete_draft}
use Rattle.w4_defs.specs.KeptList.{Entry, kept_entries, nowhere, IsDraft}
use Rattle.w4_defs.specs.Reset.{Setup, reset}
use Rattle.w4_defs.specs.Run.{played_on, run_state}
use Rattle.w4_defs.specs.State.{State, Moment, HasGlobals}
use Rattle.w4_devices.specs.declared.frame_record.FrameRecord.{FrameRecord as Record}
use Rattle.w4_devices.specs.Records.{record_of}
use Rattle.w4_defs.specs.declared.console.Input.{Input}
use Rattle.w4_editor.specs.Player.{Player, player_setup}
use Rattle.w4_editor.specs.Editor.{IsEditor}
use Rattle.w4_editor.proofs.ChainLaws.{consistent_from}
use Rattle.w4_editor.specs.Draft.{overwrite_draft}
use Rattle.w4_editor.proofs.DraftLaws.{set_consistent, insert_consistent, delete_consistent}
use Rattle.w4_editor.proofs.DraftOverwriteLaws.{length_overwritten, overwrite_consistent}

no_place : {A : Type 0} (p : ℕ) → None ≡ Some p → A
no_place p e = absurd cc

-- the recording with other inputs
abbrev pub with_frames : Recording → Draft Entry → Recording
with_frames r draft = record { digest = r.digest; budget = r.budget; disk = r.disk; frames = draft.inputs }

abbrev pub current_draft : Recording → List Entry → Draft Entry
current_draft r kept = record { inputs = r.frames; kept = kept }

module _ (player : Player) (r : Recording) (kept : List Entry) (olds news : Buffer (Draft Entry))
    (place : Option ℕ) (frame_record : Record)
    (e : IsEditor player r kept olds news place frame_record) where
  abbrev good : Draft Entry → Type 0
  good draft = IsDraft (player_setup player) r.disk draft

  abbrev now : Draft Entry
  now = current_draft r kept

  last_is : (drafts : List (Draft Entry)) (draft : Draft Entry) → last_item drafts ≡ Some draft
      → All good drafts → good draft
  last_is drafts draft found all = subst good (get_or_from_slice_get drafts
      (length drafts - 1) draft draft found)
      (All-get_or good drafts (length drafts - 1) draft
      (slice_get_within drafts (length drafts - 1) draft found) all)

  some_there : (drafts : List (Draft Entry)) (draft : Draft Entry) → last_item drafts ≡ Some draft
      → length (take (length drafts - 1) drafts) + 1 ≡ length drafts
  some_there drafts draft found =
      let lt = slice_get_within drafts (length drafts - 1) draft found in
      let long = length-take (length drafts - 1) drafts in
      omega (arith, lt, long)

  -- whatever parts of this value an edit leaves
  pub edit_leaves : (draft : Draft Entry) (r' : Recording) (kept' : List Entry)
      (olds' news' : Buffer (Draft Entry))
      → good draft → r' ≡ with_frames r draft → kept' ≡ draft.kept
      → olds' ≡ buffer (keep_last olds.capacity (olds.items ++ now ∷ [])) olds.capacity
      → news' ≡ buffer [] news.capacity
      → IsEditor player r' kept' olds' news' None frame_record
  edit_leaves draft r' kept' olds' news' is r_is kept_is olds_is news_is =
      let more : List (Draft Entry) = olds.items ++ now ∷ [] in
      let long = length-drop (length more - olds.capacity) more in
      let room = e.room_older in
      rw (r_is, kept_is, olds_is, news_is) (record {
        budget = e.budget;
        session = record {
          current = is;
          older = All-drop good (length more - olds.capacity) more
              (All-push good olds.items now e.session.older e.session.current);
          newer = All-nil good;
          few = omega (arith, long, room);
        };
        room_older = e.room_older;
        room_newer = e.room_newer;
        reset_frame = e.reset_frame;
        shown = λ p at. no_place p at;
      })

  -- a draft that comes back from a history
  pub comes_back : (drafts : List (Draft Entry)) (draft : Draft Entry) → All good drafts
      → last_item drafts ≡ Some draft
      → good draft
  comes_back drafts draft all found = last_is drafts draft found all

  pub undo_leaves : (draft : Draft Entry) (r' : Recording) (kept' : List Entry)
      (olds' news' : Buffer (Draft Entry))
      → last_item olds.items ≡ Some draft → r' ≡ with_frames r draft → kept' ≡ draft.kept
      → olds' ≡ buffer (take (length olds.items - 1) olds.items) olds.capacity
      → news' ≡ buffer (keep_last news.capacity (news.items ++ now ∷ [])) news.capacity
      → IsEditor player r' kept' olds' news' None frame_record
  undo_leaves draft r' kept' olds' news' found r_is kept_is olds_is news_is =
      let more : List (Draft Entry) = news.items ++ now ∷ [] in
      let few = e.session.few in
      let left = some_there olds.items draft found in
      let appended = length-append news.items (now ∷ []) in
      let long = length-drop (length more - news.capacity) more in
      rw (r_is, kept_is, olds_is, news_is) (record {
        budget = e.budget;
        session = record {
          current = last_is olds.items draft found e.session.older;
          older = All-take good (length olds.items - 1) olds.items e.session.older;
          newer = All-drop good (length more - news.capacity) more
              (All-push good news.items now e.session.newer e.session.current);
          few = omega (arith, few, left, appended, long);
        };
        room_older = e.room_older;
        room_newer = e.room_newer;
        reset_frame = e.reset_frame;
        shown = λ p at. no_place p at;
      })

  pub redo_leaves : (draft : Draft Entry) (r' : Recording) (kept' : List Entry)
      (olds' news' : Buffer (Draft Entry))
      → last_item news.items ≡ Some draft → r' ≡ with_frames r draft → kept' ≡ draft.kept
      → olds' ≡ buffer (keep_last olds.capacity (olds.items ++ now ∷ [])) olds.capacity
      → news' ≡ buffer (take (length news.items - 1) news.items) news.capacity
      → IsEditor player r' kept' olds' news' None frame_record
  redo_leaves draft r' kept' olds' news' found r_is kept_is olds_is news_is =
      let more : List (Draft Entry) = olds.items ++ now ∷ [] in
      let few = e.session.few in
      let left = some_there news.items draft found in
      let appended = length-append olds.items (now ∷ []) in
      let long = length-drop (length more - olds.capacity) more in
      rw (r_is, kept_is, olds_is, news_is) (record {
        budget = e.budget;
        session = record {
          current = last_is news.items draft found e.session.newer;
          older = All-drop good (length more - olds.capacity) more
              (All-push good olds.items now e.session.older e.session.current);
          newer = All-take good (length news.items - 1) news.items e.session.newer;
          few = omega (arith, few, left, appended, long);
        };
        room_older = e.room_older;
        room_newer = e.room_newer;
        reset_frame = e.reset_frame;
        shown = λ p at. no_place p at;
      })

  -- a change of the current kept list, where the place that is shown stays
  pub kept_leaves : (kept' : List Entry) → good (current_draft r kept')
      → IsEditor player r kept' olds news place frame_record
  kept_leaves kept' is = record {
    budget = e.budget;
    session = record {
      current = is;
      older = e.session.older;
      newer = e.session.newer;
      few = e.session.few;
    };
    room_older = e.room_older;
    room_newer = e.room_newer;
    reset_frame = e.reset_frame;
    shown = e.shown;
  }

-- ---- the draft that an edit makes

module _ (player : Player) (r : Recording) (kept : List Entry) (olds news : Buffer (Draft Entry))
    (place : Option ℕ) (frame_record : Record)
    (e : IsEditor player r kept olds news place frame_record) (k : ℕ) (inputs : List Input)
    (entries : List Entry)
    (draft : Draft Entry)
    (inputs_are : inputs ≡ r.frames) (entries_are : entries ≡ kept) where
  abbrev is_good : Draft Entry → Type 0
  is_good other = IsDraft (player_setup player) r.disk other

  abbrev before : Draft Entry
  before = record { inputs = inputs; kept = entries }

  was_good : is_good before
  was_good = rw (inputs_are, entries_are) e.session.current

  pub set_is_good : (input : Input) → draft ≡ set_draft kept_entries k input before → is_good draft
  set_is_good input draft_is =
      let few = was_good.few in
      let long = length-set inputs k input in
      rw draft_is (record {
        few = omega (arith, few, long);
        kept = set_consistent (player_setup player) r.disk inputs entries k input was_good.kept;
      })

  pub overwrite_is_good : (written : List Input) → k ≤ length inputs → k + length written ≤ 36000
      → draft ≡ overwrite_draft k written before → is_good draft
  overwrite_is_good written le room draft_is =
      let few = was_good.few in
      let long = length_overwritten k written inputs le in
      rw draft_is (record {
        few = omega (arith, few, room, long, le);
        kept = overwrite_consistent (player_setup player) r.disk inputs entries k written le was_good.kept;
      })

  pub insert_is_good : (input : Input) → k ≤ length inputs → length inputs < 36000
      → draft ≡ insert_draft kept_entries k input before → is_good draft
  insert_is_good input le room draft_is =
      let long = length-insert inputs k input le in
      rw draft_is (record {
        few = omega (arith, room, long);
        kept = insert_consistent (player_setup player) r.disk inputs entries k input le was_good.kept;
      })

  pub delete_is_good : k < length inputs → draft ≡ delete_draft kept_entries k before → is_good draft
  delete_is_good lt draft_is =
      let few = was_good.few in
      let long = length-remove inputs k lt in
      rw draft_is (record {
        few = omega (arith, few, long);
        kept = delete_consistent (player_setup player) r.disk inputs entries k lt was_good.kept;
      })

  -- places are far from the end of their type
  pub places_are_low : All (λ (x : Entry). x.place < 18446744073709551615) entries
  places_are_low = All-from_get_or (λ (x : Entry). x.place < 18446744073709551615) entries nowhere (λ i h.
      let few = was_good.few in
      let within = was_good.kept.true_links.within i h in
      omega (arith, few, within))

-- ---- an editor that is opened

abbrev pub first_entry : State → Entry
first_entry state = record { place = 0; state = state; linked = true }

-- place 0 of a run is the reset
reset_is_shown : (setup : Setup) (disk : List ℕ) (inputs : List Input) (moment : Moment)
    → reset setup disk ≡ Some moment
    → (p : ℕ) → Some 0 ≡ Some p → (p ≤ length inputs) × (run_state setup disk inputs p ≡ Some moment.state)
reset_is_shown setup disk inputs moment is p at =
    let first : 0 ≡ p = cc in
    subst (λ q. (q ≤ length inputs) × (run_state setup disk inputs q ≡ Some moment.state)) first (
      omega arith,
      ap (λ o. option_map (λ (m : Moment). m.state)
          (option_and_then (λ (m : Moment). played_on setup m (take 0 inputs)) o)) is,
    )

pub opens : (player : Player) (r : Recording) (kept : List Entry) (olds news : Buffer (Draft Entry))
    (frame_record : Record)
    → r.budget ≡ player.budget → length r.frames ≤ 36000 → HasGlobals player.cart player.state
    → reset (player_setup player) r.disk ≡ Some (record {
      state = player.state;
      frame_record = record_of
          frame_record;
    })
    → kept ≡ first_entry player.state ∷ [] → olds ≡ buffer [] 32 → news ≡ buffer [] 32
    → IsEditor player r kept olds news (Some 0) frame_record
opens player r kept olds news frame_record budget few globals is kept_is olds_is news_is =
    rw (kept_is, olds_is, news_is) (record {
      budget = budget;
      session = record {
        current = record {
          few = few;
          kept = consistent_from (player_setup player) r.disk r.frames (first_entry player.state) [] (record {
            place = refl;
            state = ap (option_map (λ (m : Moment). m.state)) is;
            linked = refl;
            globals = globals;
            few = omega arith;
            chain = tt;
          });
        };
        older = All-nil (IsDraft (player_setup player) r.disk);
        newer = All-nil (IsDraft (player_setup player) r.disk);
        few = omega arith;
      };
      room_older = refl;
      room_newer = refl;
      reset_frame = ap (option_map (λ (m : Moment). m.frame_record)) is;
      shown = reset_is_shown (player_setup player) r.disk r.frames
          (record { state = player.state; frame_record = record_of frame_record }) is;
    })
