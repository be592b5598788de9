-- What is kept besides the places changes neither a place nor a refusal.
use Rattle.std.proofs.Common.{◌≡◌, ℕ, ◌+◌, ◌-◌, Bool, true, false, cond, not, ltb, eqb, List, [], ◌∷◌, ◌++◌, map, length, take, drop, set, Option, Some, None, option_map, refl, sym, ap, ◌∙◌, ◌||◌, ◌&&◌}
use Rattle.std.specs.List.{filter, slice_get, insert, remove}
use Rattle.std.proofs.lemmas.List.{length-map, map-append, drop-map}
use Rattle.std.specs.List.{take-map}
use Rattle.std.proofs.lemmas.Option.{slice_get-map}
use Rattle.w4_defs.specs.declared.console.Input.{Input}
use Rattle.w4_defs.specs.declared.editing.EditRefusal.{EditRefusal}
use Rattle.w4_defs.specs.declared.editing.EditRefusal.TheVariants.{NoFrame, NothingToUndo, NothingToRedo, Kept, NotKept, FullSnapshots}
use Rattle.w4_defs.specs.Session.{Kind, places_alone, is_kept, with_kept, next_after_drop, without, unlink_above, place_after_insert, place_after_delete, stays_after_delete, moved_up, moved_down, kept_after_insert, kept_after_delete, Draft, set_draft, insert_draft, delete_draft, Session, keep_last, last_item, without_last, edited, undone, redone, with_list, set_refusal, insert_refusal, delete_refusal, keep_refusal, drop_refusal, unless, if_some, IsPlaced, draft_of_places, session_of_places, result_of_places, PlacesDecide}
use Rattle.w4_defs.proofs.EditedPlaces.{stay_by_cases}

either : {A B : Type 0} (f : A → B) (b : Bool) (x y : A) → f (cond b x y) ≡ cond b (f x) (f y)
either f true x y = refl
either f false x y = refl

module _ {A : Type 0} (kind : Kind A) (is : IsPlaced kind) where
  abbrev place : A → ℕ
  place x = kind.place x

  abbrev places : List A → List ℕ
  places kept = map kind.place kept

  unlinked_places : (k : ℕ) (kept : List A)
      → places (unlink_above kind k kept) ≡ unlink_above places_alone k (places kept)
  unlinked_places k [] = refl
  unlinked_places k (x ∷ kept) =
      either places (ltb k (place x)) (kind.unlinked x ∷ kept) (x ∷ unlink_above kind k kept)
      ∙ (λ i. cond (ltb k (place x)) (is.unlinked x i ∷ places kept) (place x ∷ unlinked_places k kept i))

  raised_place : (k : ℕ) (x : A) → place (moved_up kind k x) ≡ moved_up places_alone k (place x)
  raised_place k x = is.at (place_after_insert k (place x)) x

  lowered_place : (k : ℕ) (x : A) → place (moved_down kind k x) ≡ moved_down places_alone k (place x)
  lowered_place k x = is.at (place_after_delete k (place x)) x

  all_places : (f : A → A) (g : ℕ → ℕ) → ((x : A) → place (f x) ≡ g (place x)) → (kept : List A)
      → places (map f kept) ≡ map g (places kept)
  all_places f g each [] = refl
  all_places f g each (x ∷ kept) = λ i. each x i ∷ all_places f g each kept i

  kept_places : (p : ℕ) (kept : List A) → is_kept kind p kept ≡ is_kept places_alone p (places kept)
  kept_places p [] = refl
  kept_places p (x ∷ kept) = λ i. eqb (place x) p || kept_places p kept i

  filtered_places : (q : ℕ) (kept : List A)
      → places (filter (λ x. not (eqb (kind.place x) q)) kept) ≡ filter (λ x. not (eqb x q)) (places kept)
  filtered_places q [] = refl
  filtered_places q (x ∷ kept) =
      let rest : List A = filter (λ y. not (eqb (kind.place y) q)) kept in
      either places (not (eqb (place x) q)) (x ∷ rest) rest
      ∙ (λ i. cond (not (eqb (place x) q)) (place x ∷ filtered_places q kept i) (filtered_places q kept i))

  left_places : (k : ℕ) (kept : List A) → places (filter (stays_after_delete kind k kept) kept)
      ≡ filter (stays_after_delete places_alone k (places kept)) (places kept)
  left_places k kept =
      ap places (stay_by_cases kind k kept)
      ∙ either places (is_kept kind k kept) (filter (λ x. not (eqb (kind.place x) (k + 1))) kept) kept
      ∙ (λ i. cond (kept_places k kept i) (filtered_places (k + 1) kept i) (places kept))
      ∙ sym (stay_by_cases places_alone k (places kept))

  with_places : (x : A) (kept : List A)
      → places (with_kept kind x kept) ≡ with_kept places_alone (place x) (places kept)
  with_places x [] = refl
  with_places x (y ∷ kept) =
      either places (ltb (place x) (place y)) (x ∷ y ∷ kept) (y ∷ with_kept kind x kept)
      ∙ (λ i. cond (ltb (place x) (place y)) (place x ∷ place y ∷ places kept)
      (place y ∷ with_places x kept i))

  told_places : (x : A) (kept : List A)
      → places (next_after_drop kind x kept) ≡ next_after_drop places_alone (place x) (places kept)
  told_places x [] = refl
  told_places x (y ∷ kept) = λ i. is.after_drop x y i ∷ places kept

  without_places : (p : ℕ) (kept : List A)
      → places (without kind p kept) ≡ without places_alone p (places kept)
  without_places p [] = refl
  without_places p (x ∷ kept) =
      either places (eqb (place x) p) (next_after_drop kind x kept) (x ∷ without kind p kept)
      ∙ (λ i. cond (eqb (place x) p) (told_places x kept i) (place x ∷ without_places p kept i))

  insert_places : (k : ℕ) (kept : List A)
      → places (kept_after_insert kind k kept) ≡ kept_after_insert places_alone k (places kept)
  insert_places k kept =
      all_places (moved_up kind k) (moved_up places_alone k) (raised_place k) (unlink_above kind k kept)
      ∙ ap (map (moved_up places_alone k)) (unlinked_places k kept)

  delete_places : (k : ℕ) (kept : List A)
      → places (kept_after_delete kind k kept) ≡ kept_after_delete places_alone k (places kept)
  delete_places k kept =
      let left : List A = filter (stays_after_delete kind k kept) kept in
      all_places (moved_down kind k) (moved_down places_alone k) (lowered_place k) (unlink_above kind k left)
      ∙ ap (map (moved_down places_alone k)) (unlinked_places k left
      ∙ ap (unlink_above places_alone k) (left_places k kept))

  -- ---- sessions

  abbrev bares : List (Draft A) → List (Draft ℕ)
  bares drafts = map (draft_of_places kind) drafts

  edited_bare : (session : Session A) (draft : Draft A)
      → session_of_places kind (edited session draft)
      ≡ edited (session_of_places kind session) (draft_of_places kind draft)
  edited_bare session draft =
      let all : List (Draft A) = session.older ++ session.current ∷ [] in
      let same : bares all ≡ bares session.older ++ draft_of_places kind session.current ∷ [] = map-append
      (draft_of_places kind) session.older (session.current ∷ []) in
      let long : length all ≡ length (bares all) = sym (length-map all (draft_of_places kind)) in
      let older : bares (keep_last 32 all)
      ≡ keep_last 32 (bares session.older ++ draft_of_places kind session.current ∷ []) =
      sym (drop-map (draft_of_places kind) (length all - 32) all)
      ∙ ap (λ n. drop (n - 32) (bares all)) long ∙ ap (keep_last 32) same in
      λ i. record { current = draft_of_places kind draft; older = older i; newer = [] }

  unless_bare : (refusal : Option EditRefusal) (session : Session A)
      → result_of_places kind (unless refusal session) ≡ unless refusal (session_of_places kind session)
  unless_bare None session = refl
  unless_bare (Some refusal) session = refl

  some_bare : (refusal : EditRefusal) (session : Option (Session A))
      → result_of_places kind (if_some refusal session)
      ≡ if_some refusal (option_map (session_of_places kind) session)
  some_bare refusal None = refl
  some_bare refusal (Some session) = refl

  last_bare : (drafts : List (Draft A))
      → last_item (bares drafts) ≡ option_map (draft_of_places kind) (last_item drafts)
  last_bare drafts = ap (λ n. slice_get (bares drafts) (n - 1)) (length-map drafts (draft_of_places kind))
      ∙ slice_get-map (draft_of_places kind) drafts (length drafts - 1)

  front_bare : (drafts : List (Draft A)) → without_last (bares drafts) ≡ bares (without_last drafts)
  front_bare drafts = ap (λ n. take (n - 1) (bares drafts)) (length-map drafts (draft_of_places kind))
      ∙ take-map (draft_of_places kind) (length drafts - 1) drafts

  pushed_bare : (drafts : List (Draft A)) (draft : Draft A)
      → bares (drafts ++ draft ∷ []) ≡ bares drafts ++ draft_of_places kind draft ∷ []
  pushed_bare drafts draft = map-append (draft_of_places kind) drafts (draft ∷ [])

  moved_back : (session : Session A) (draft : Option (Draft A))
      → option_map (session_of_places kind) (option_map
      (λ d. record {
        current = d;
        older = without_last session.older;
        newer =
            session.newer ++ session.current ∷ [];
      }) draft)
      ≡ option_map (λ d. record {
        current = d;
        older = without_last
            (bares session.older);
        newer = bares session.newer ++ draft_of_places kind session.current ∷ [];
      }) (option_map (draft_of_places kind) draft)
  moved_back session None = refl
  moved_back session (Some d) = λ i. Some (record {
    current = draft_of_places kind d;
    older = sym (front_bare session.older) i;
    newer = pushed_bare session.newer session.current i;
  })

  moved_on : (session : Session A) (draft : Option (Draft A))
      → option_map (session_of_places kind) (option_map
      (λ d. record {
        current = d;
        older = session.older ++ session.current ∷ [];
        newer =
            without_last session.newer;
      }) draft)
      ≡ option_map (λ d. record {
        current = d;
        older = bares session.older
            ++ draft_of_places kind session.current ∷ [];
        newer = without_last (bares session.newer);
      })
      (option_map (draft_of_places kind) draft)
  moved_on session None = refl
  moved_on session (Some d) = λ i. Some (record {
    current = draft_of_places kind d;
    older = pushed_bare session.older session.current i;
    newer = sym (front_bare session.newer) i;
  })

  edit_bare : (refusal : Option EditRefusal) (session : Session A) (draft : Draft A) (other : Draft ℕ)
      → draft_of_places kind draft ≡ other
      → result_of_places kind (unless refusal (edited session draft))
      ≡ unless refusal (edited (session_of_places kind session) other)
  edit_bare refusal session draft other same =
      unless_bare refusal (edited session draft)
      ∙ ap (unless refusal) (edited_bare session draft ∙ ap (edited (session_of_places kind session)) same)

  set_bare : (k : ℕ) (input : Input) (draft : Draft A)
      → draft_of_places kind (set_draft kind k input draft)
      ≡ set_draft places_alone k input (draft_of_places kind draft)
  set_bare k input draft =
      λ i. record { inputs = set draft.inputs k input; kept = unlinked_places k draft.kept i }

  insert_bare : (k : ℕ) (input : Input) (draft : Draft A)
      → draft_of_places kind (insert_draft kind k input draft)
      ≡ insert_draft places_alone k input (draft_of_places kind draft)
  insert_bare k input draft =
      λ i. record { inputs = insert draft.inputs k input; kept = insert_places k draft.kept i }

  delete_bare : (k : ℕ) (draft : Draft A)
      → draft_of_places kind (delete_draft kind k draft)
      ≡ delete_draft places_alone k (draft_of_places kind draft)
  delete_bare k draft = λ i. record { inputs = remove draft.inputs k; kept = delete_places k draft.kept i }

  undo_bare : (session : Session A)
      → option_map (session_of_places kind) (undone session) ≡ undone (session_of_places kind session)
  undo_bare session =
      moved_back session (last_item session.older)
      ∙ ap (option_map (λ d. record {
        current = d;
        older = without_last
            (bares session.older);
        newer = bares session.newer ++ draft_of_places kind session.current ∷ [];
      }))
      (sym (last_bare session.older))

  redo_bare : (session : Session A)
      → option_map (session_of_places kind) (redone session) ≡ redone (session_of_places kind session)
  redo_bare session =
      moved_on session (last_item session.newer)
      ∙ ap (option_map (λ d. record {
        current = d;
        older = bares session.older
            ++ draft_of_places kind session.current ∷ [];
        newer = without_last (bares session.newer);
      }))
      (sym (last_bare session.newer))

  keep_bare : (p : ℕ) (draft : Draft A)
      → keep_refusal kind p draft ≡ keep_refusal places_alone p (draft_of_places kind draft)
  keep_bare p draft = λ i. cond (ltb (length draft.inputs) p) (Some NoFrame)
      (cond (kept_places p draft.kept i) (Some Kept) (cond (ltb (sym
      (length-map draft.kept kind.place) i) 1024) None (Some FullSnapshots)))

  drop_bare : (p : ℕ) (draft : Draft A)
      → drop_refusal kind p draft ≡ drop_refusal places_alone p (draft_of_places kind draft)
  drop_bare p draft = λ i. cond (not (eqb p 0) && kept_places p draft.kept i) None (Some NotKept)

  listed_bare : (one other : Option EditRefusal) (session : Session A) (kept : List A)
      (places_are : List ℕ) → one ≡ other → places kept ≡ places_are
      → result_of_places kind (unless one (with_list session kept))
      ≡ unless other (with_list (session_of_places kind session) places_are)
  listed_bare one other session kept places_are same are =
      unless_bare one (with_list session kept)
      ∙ (λ i. unless (same i) (with_list (session_of_places kind session) (are i)))

  pub places_decide : PlacesDecide kind
  places_decide session k input x = (
    edit_bare (set_refusal k session.current) session (set_draft kind k input session.current)
        (set_draft places_alone k input (draft_of_places kind session.current))
        (set_bare k input session.current),
    edit_bare (insert_refusal k session.current) session (insert_draft kind k input session.current)
        (insert_draft places_alone k input (draft_of_places kind session.current))
        (insert_bare k input session.current),
    edit_bare (delete_refusal k session.current) session (delete_draft kind k session.current)
        (delete_draft places_alone k (draft_of_places kind session.current)) (delete_bare k session.current),
    some_bare NothingToUndo (undone session) ∙ ap (if_some NothingToUndo) (undo_bare session),
    some_bare NothingToRedo (redone session) ∙ ap (if_some NothingToRedo) (redo_bare session),
    listed_bare (keep_refusal kind (place x) session.current) (keep_refusal places_alone (place x)
        (draft_of_places kind session.current)) session
        (with_kept kind x session.current.kept) (with_kept places_alone (place x)
        (places session.current.kept)) (keep_bare (place x) session.current)
        (with_places x session.current.kept),
    listed_bare (drop_refusal kind k session.current) (drop_refusal places_alone k
        (draft_of_places kind session.current)) session
        (without kind k session.current.kept) (without places_alone k (places session.current.kept))
        (drop_bare k session.current) (without_places k session.current.kept),
  )
