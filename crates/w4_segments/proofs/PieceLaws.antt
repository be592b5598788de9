-- Images of a run in parts, the screens that they are made from, the cuts of a film, and what the workers of
-- a round make.
use Rattle.std.proofs.Common.{◌≡◌, ℕ, ◌+◌, ◌-◌, ◌<◌, ◌≤◌, cond, min, max, List, [], ◌∷◌, ◌++◌, flat_map}
use Rattle.std.proofs.Common.{length, get_or, Option, Some, None, inl, inr, refl, sym, ap, ◌∙◌, subst, arith}
use Rattle.std.specs.List.{All}
use Rattle.std.specs.Prelude.{vec_capacity}
use Rattle.std.proofs.lemmas.Bool.{cases_lt, lt-ltb, le-ltb}
use Rattle.std.proofs.lemmas.Grind.{flat_map-append}
use Rattle.std.proofs.lemmas.List.{append-nil}
use Rattle.std.specs.Option.{unwrap_or}
use Rattle.w4_defs.specs.declared.console.Input.{Input}
use Rattle.w4_defs.specs.Image.{image}
use Rattle.w4_defs.specs.KeptList.{Entry, place_at, state_at, IsDraft}
use Rattle.w4_defs.specs.Reset.{Setup}
use Rattle.w4_defs.specs.Run.{run, run_state}
use Rattle.w4_defs.specs.State.{State, HasGlobals}
use Rattle.w4_editor.specs.Editor.{Editing, editing_setup}
use Rattle.w4_defs.specs.AllThere.{joined}
use Rattle.w4_defs.specs.PlaceTexts.{as_it_stands, place_text}
use Rattle.w4_defs.specs.declared.place_text.PlaceText.TheVariants.{Image}
use Rattle.w4_defs.proofs.AllThereLaws.{places_in_parts, places_one}
use Rattle.w4_defs.proofs.TextsOfStates.{image_of_state}
use Rattle.w4_defs.proofs.KeptListLaws.{linked_is_run}
use Rattle.w4_editor.specs.Settling.{AreLinked}
use Rattle.w4_segments.specs.declared.worker.Task.{Task}
use Rattle.w4_segments.specs.declared.worker.Worker.{Worker}
use Rattle.w4_defs.specs.Film.{run_images}
use Rattle.w4_segments.specs.FilmPieces.{images_between, images_of, piece_begin, AreOfRunBelow, IsPiece}
use Rattle.w4_segments.specs.FilmPieces.{ArePieces}
use Rattle.w4_segments.specs.Rounds.{entries_of}
use Rattle.w4_segments.specs.Worker.{HasCartTypes, EachDid}
use Rattle.w4_segments.specs.Pieces.{HasFilmed, task_images, worker_images}

-- ---- images of a run

module _ (setup : Setup) (disk : List ℕ) (inputs : List Input) where
  abbrev images : ℕ → ℕ → Option (List ℕ)
  images place count = run_images setup disk inputs place count

  abbrev place_image : ℕ → Option (List ℕ)
  place_image p = place_text as_it_stands Image p (run setup disk inputs p)

  pub images_none : (place : ℕ) → images place 0 ≡ Some []
  unfolding run_images
  images_none place = refl

  pub images_in_parts : (m n all place middle : ℕ) → all ≡ m + n → middle ≡ place + m
      → images place all ≡ joined (images place m) (images middle n)
  unfolding run_images
  images_in_parts m n all place middle long at = places_in_parts place_image m n all place middle long at

  -- the image of one place
  pub one_image : (place : ℕ) (state : State) → run_state setup disk inputs place ≡ Some state
      → images place 1 ≡ Some (image state.page)
  unfolding run_images
  one_image place state is = places_one place_image place
      ∙ image_of_state as_it_stands place (run setup disk inputs place) state is

  -- the first screen of a piece, and one more
  pub first_screen : (screen : List ℕ) (first : ℕ) (state : State)
      → run_state setup disk inputs first ≡ Some state → image screen ≡ image state.page
      → images first (first + 1 - first) ≡ Some (flat_map image (screen ∷ []))
  first_screen screen first state is same =
      let one : first + 1 - first ≡ 1 = omega arith in
      ap (images first) one ∙ one_image first state is ∙ ap Some (sym (append-nil (image screen) ∙ same))

  pub more_screens : (screens : List (List ℕ)) (screen : List ℕ) (first place : ℕ) (state : State)
      → first ≤ place → run_state setup disk inputs (place + 1) ≡ Some state → image screen ≡ image state.page
      → images first (place + 1 - first) ≡ Some (flat_map image screens)
      → images first (place + 1 + 1 - first) ≡ Some (flat_map image (screens ++ screen ∷ []))
  more_screens screens screen first place state le is same filmed =
      images_in_parts (place + 1 - first) 1 (place + 1 + 1 - first) first (place + 1)
      (omega (arith, le)) (omega (arith, le))
      ∙ (λ k. joined (filmed k) (one_image (place + 1) state is k))
      ∙ ap (λ xs. Some (flat_map image screens ++ xs)) (sym (append-nil (image screen) ∙ same))
      ∙ ap Some (sym (flat_map-append image screens (screen ∷ [])))

task_of : (s t : Task) → Some s ≡ Some t → s ≡ t
task_of s t e = ap (λ o. unwrap_or o s) e

-- ---- cuts

module _ (kept : List Entry) (first end : ℕ) where
  abbrev cut : ℕ → ℕ
  cut i = piece_begin kept first end i

  pub cut_there : (i : ℕ) → i < length kept → cut i ≡ min end (max first (place_at kept i))
  cut_there i lt = ap (λ t. cond t (min end (max first (place_at kept i))) end) (lt-ltb i (length kept) lt)

  pub cut_past : (i : ℕ) → length kept ≤ i → cut i ≡ end
  cut_past i le = ap (λ t. cond t (min end (max first (place_at kept i))) end) (le-ltb i (length kept) le)

  pub cut_to_end : (i : ℕ) → cut i ≤ end
  cut_to_end i = elim (cases_lt i (length kept)) [
    | inl lt ↦ let e = cut_there i lt in omega (arith, e)
    | inr past ↦ let e = cut_past i past in omega (arith, e)
  ]

  -- a cut before the end stands at an entry, at or after its place
  pub cut_inside : (i : ℕ) → cut i < end → i < length kept × (place_at kept i ≤ cut i) × (place_at kept i <
      end)
  cut_inside i before = elim (cases_lt i (length kept)) [
    | inl lt ↦ let e = cut_there i lt in (lt, omega (arith, e, before), omega (arith, e, before))
    | inr past ↦ let e = cut_past i past in absurd (omega (arith, e, before))
  ]

  pub cut_rises : ((i : ℕ) → i + 1 < length kept → place_at kept i < place_at kept (i + 1)) → (i : ℕ)
      → cut i ≤ cut (i + 1)
  cut_rises rising i = elim (cases_lt (i + 1) (length kept)) [
    | inl lt ↦
        let here = cut_there i (omega (arith, lt)) in
        let next = cut_there (i + 1) lt in
        let up = rising i lt in
        omega (arith, here, next, up)
    | inr past ↦
        let next = cut_past (i + 1) past in
        let le = cut_to_end i in
        omega (arith, next, le)
  ]

-- ---- what the workers of a round make

module _ (e : Editing) (first end : ℕ) where
  abbrev cut_of : ℕ → ℕ
  cut_of i = piece_begin (entries_of e) first end i

  pub span_none : (from to : ℕ) → to ≡ from → images_between e from to ≡ Some []
  span_none from to same =
      let none : to - from ≡ 0 = omega (arith, same) in
      ap (images_of e from) none ∙ images_none (editing_setup e) e.disk e.session.current.inputs from

  pub span_both : (from middle to : ℕ) → from ≤ middle → middle ≤ to
      → images_between e from to ≡ joined (images_between e from middle) (images_between e middle to)
  span_both from middle to one two =
      images_in_parts (editing_setup e) e.disk e.session.current.inputs (middle - from) (to - middle)
      (to - from) from middle (omega (arith, one, two)) (omega (arith, one))

  abbrev images_in : Option Task → Option (List ℕ)
  images_in task = task_images (editing_setup e) e.disk e.session.current.inputs task

  -- the images of a task are those from its entry's cut to the next
  task_makes : (i : ℕ) (task : Option Task) → ((t : Task) → task ≡ Some t → t.first ≡ cut_of i)
      → ((t : Task) → task ≡ Some t → t.end ≡ cut_of (i + 1))
      → (task ≡ None → cut_of (i + 1) ≡ cut_of i)
      → images_between e (cut_of i) (cut_of (i + 1)) ≡ images_in task
  task_makes i None begins ends none = span_none (cut_of i) (cut_of (i + 1)) (none refl)
  task_makes i (Some t) begins ends none =
      let from = sym (begins t refl) in
      let to = sym (ends t refl) in
      (λ k. images_of e (from k) (to k - from k))

  -- and so are those of each worker of a round
  pub pieces_filmed : (next : ℕ) (old dealt filmed : List Worker) → ArePieces e first end next old dealt
      → EachDid (HasFilmed (editing_setup e) e.disk e.session.current.inputs) dealt filmed
      → (k : ℕ) (d : Worker) → k < length filmed
      → images_between e (cut_of (next + k)) (cut_of (next + k + 1))
      ≡ Some (worker_images (get_or filmed k d))
  pieces_filmed next old dealt filmed pieces did k d lt =
      let many = did.many in
      let below : k < length dealt = omega (arith, many, lt) in
      let piece = pieces.each k d below in
      task_makes (next + k) (get_or dealt k d).task piece.begins piece.ends piece.none
      ∙ (did.each k d below).images

  pub types_filmed : (next : ℕ) (old dealt filmed : List Worker) → ArePieces e first end next old dealt
      → EachDid (HasFilmed (editing_setup e) e.disk e.session.current.inputs) dealt filmed
      → All (HasCartTypes e.cart) filmed
  types_filmed next old dealt filmed pieces did k d lt =
      let many = did.many in (did.each k d (omega (arith, many, lt))).types

-- where all entries up to the last below a place are linked, their states are those of the run
pub states_below : (e : Editing) (last end : ℕ) → IsDraft (editing_setup e) e.disk e.session.current
    → AreLinked last (entries_of e)
    → ((i : ℕ) → last < i → i < length (entries_of e) → end ≤ place_at (entries_of e) i)
    → AreOfRunBelow end e
states_below e last end draft linked above i lt below =
    let up : i ≤ last = elim (cases_lt last i) [
      | inl past ↦ absurd (let high = above i past lt in omega (arith, high, below))
      | inr low ↦ low
    ] in
    linked_is_run (editing_setup e) e.disk e.session.current.inputs (entries_of e) i draft.kept lt
    (λ j le. linked j (omega (arith, le, up)))

-- the piece that a worker is dealt
module _ (e : Editing) (disk : List ℕ) (first end i : ℕ) (w : Worker)
    (draft : IsDraft (editing_setup e) disk e.session.current) (le : first ≤ end) where
  abbrev begin : ℕ
  begin = piece_begin (entries_of e) first end i

  abbrev after : ℕ
  after = piece_begin (entries_of e) first end (i + 1)

  -- none, where the piece is empty
  pub idle_piece : HasCartTypes e.cart w → w.screens.items ≡ [] → after ≤ begin → w.task ≡ None
      → IsPiece e first end i w
  idle_piece types clear past none =
      let rises = cut_rises (entries_of e) first end draft.kept.true_links.rising i in
      let no_task : (t : Task) → w.task ≡ Some t → ⊥ = λ t some. let e : None ≡ Some t = sym none ∙ some in
      cc in record {
        ready = record {
          types = types;
          order = λ t some. absurd (no_task t some);
          some = λ t some. absurd (no_task t some);
          within = λ t some. absurd (no_task t some);
          state = λ t some. absurd (no_task t some);
          empty = clear;
          room = λ t some. absurd (no_task t some);
        };
        begins = λ t some. absurd (no_task t some);
        ends = λ t some. absurd (no_task t some);
        none = λ _. omega (arith, rises, past);
      }

  -- the entry's, from its state on
  pub busy_piece : begin < after → end ≤ length e.session.current.inputs + 1 → AreOfRunBelow end e
      → w.console ≡ state_at (entries_of e) i
      → w.screens.items ≡ []
      → after - begin ≤ vec_capacity w.screens
      → (task : Task) → w.task ≡ Some task
      → task.place ≡ place_at (entries_of e) i
      → task.first ≡ begin
      → task.end ≡ after
      → IsPiece e first end i w
  busy_piece some within states console clear room task is place from to =
      let to_end = cut_to_end (entries_of e) first end (i + 1) in
      let inside = cut_inside (entries_of e) first end i (omega (arith, some, to_end)) in
      let there = inside.0 in
      let low = inside.1 in
      let task_is : (t : Task) → w.task ≡ Some t → task ≡ t = λ t one. task_of task t (sym is ∙ one) in
      record {
        ready = record {
          types = subst (HasGlobals e.cart) (sym console) (draft.kept.true_links.globals i there);
          order = λ t one. subst (λ (x : Task). x.place ≤ x.first) (task_is t one) (omega
              (arith, place, from, low));
          some = λ t one. subst (λ (x : Task). x.first < x.end) (task_is t one) (omega
              (arith, from, to, some));
          within = λ t one. subst (λ (x : Task). x.end ≤ length e.session.current.inputs + 1) (task_is t one)
              (omega (arith, to, to_end, within));
          state = λ t one.
              subst (λ (x : Task). run_state (editing_setup e) e.disk e.session.current.inputs x.place ≡
              Some w.console)
              (task_is t one)
              (ap (run_state (editing_setup e) e.disk e.session.current.inputs) place
              ∙ states i there inside.2
              ∙ ap Some (sym console));
          empty = clear;
          room = λ t one. subst (λ (x : Task). x.end - x.first ≤ vec_capacity w.screens) (task_is t one)
              (rw (from, to) room);
        };
        begins = λ t one. subst (λ (x : Task). x.first ≡ begin) (task_is t one) from;
        ends = λ t one. subst (λ (x : Task). x.end ≡ after) (task_is t one) to;
        none = λ idle. absurd (let e : None ≡ Some task = sym idle ∙ is in cc);
      }
