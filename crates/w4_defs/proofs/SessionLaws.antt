-- What undo and redo bring back, and how long the histories grow.
use Rattle.std.proofs.Common.{◌≡◌, ◌+◌, ◌-◌, ◌≤◌, List, [], ◌∷◌, ◌++◌, length, take, drop, Option, Some, None, IfSome, option_map, ◌⊎◌, inl, inr, refl, sym, ap, ◌∙◌, subst, arith}
use Rattle.std.specs.List.{slice_get}
use Rattle.std.proofs.lemmas.List.{length-append, length-drop, take_at, drop-append-le}
use Rattle.w4_defs.specs.Session.{Draft, Session, keep_last, last_item, without_last, undone, redone, HasBoundedHistory, HistoryStaysBounded, UndoTakesBack, RedoTakesBack, UndoTakesBackRedo}
use Rattle.w4_defs.proofs.OptionLaws.{some_same, no_none}

-- a list is empty or ends with an item
abbrev EndsWith : {A : Type 0} → List A → Type 0
EndsWith {A} xs = (front : List A) × (x : A) × (xs ≡ front ++ x ∷ [])

split_last : {A : Type 0} (xs : List A) → (xs ≡ []) ⊎ EndsWith xs
split_last [] = inl refl
split_last (x ∷ xs) = elim (split_last xs) [
  | inl none ↦ inr ([], x, ap (λ ys. x ∷ ys) none)
  | inr some ↦ inr (x ∷ some.0, some.1, ap (λ ys. x ∷ ys) some.2)
]

get_last : {A : Type 0} (front : List A) (x : A) → slice_get (front ++ x ∷ []) (length front) ≡ Some x
get_last [] x = refl
get_last (y ∷ front) x = get_last front x

one_less : {A : Type 0} (front : List A) (x : A) → length (front ++ x ∷ []) - 1 ≡ length front
one_less front x = omega (arith, length-append front (x ∷ []))

last_of : {A : Type 0} (front : List A) (x : A) → last_item (front ++ x ∷ []) ≡ Some x
last_of front x = ap (slice_get (front ++ x ∷ [])) (one_less front x) ∙ get_last front x

front_of : {A : Type 0} (front : List A) (x : A) → without_last (front ++ x ∷ []) ≡ front
front_of front x = ap (λ n. take n (front ++ x ∷ [])) (one_less front x)
    ∙ take_at front (x ∷ []) (length front) refl

-- a session of these parts
abbrev parts : {A : Type 0} → Draft A → List (Draft A) → List (Draft A) → Session A
parts current older newer = record { current = current; older = older; newer = newer }

undone_from : {A : Type 0} (current draft : Draft A) (front newer : List (Draft A))
    → undone (parts current (front ++ draft ∷ []) newer) ≡ Some (parts draft front (newer ++ current ∷ []))
undone_from current draft front newer =
    ap (option_map (λ d. parts d (without_last (front ++ draft ∷ [])) (newer ++ current ∷ [])))
    (last_of front draft)
    ∙ ap (λ o. Some (parts draft o (newer ++ current ∷ []))) (front_of front draft)

redone_from : {A : Type 0} (current draft : Draft A) (older front : List (Draft A))
    → redone (parts current older (front ++ draft ∷ [])) ≡ Some (parts draft (older ++ current ∷ []) front)
redone_from current draft older front =
    ap (option_map (λ d. parts d (older ++ current ∷ []) (without_last (front ++ draft ∷ []))))
    (last_of front draft)
    ∙ ap (λ n. Some (parts draft (older ++ current ∷ []) n)) (front_of front draft)

pub redo_takes_back : {A : Type 0} → RedoTakesBack A
redo_takes_back {A} session other e = elim (split_last session.older) [
  | inl none ↦
      let nothing : undone session ≡ None = ap (λ o. undone (parts session.current o session.newer)) none in
      absurd (no_none other (sym nothing ∙ e))
  | inr some ↦
      let whole : session ≡ parts session.current (some.0 ++ some.1 ∷ []) session.newer = ap
      (λ o. parts session.current o session.newer) some.2 in
      let back : Session A = parts some.1 some.0 (session.newer ++ session.current ∷ []) in
      let is : back ≡ other = some_same back other (sym (ap undone whole
      ∙ undone_from session.current some.1 some.0 session.newer) ∙ e) in
      sym (ap redone is) ∙ redone_from some.1 session.current some.0 session.newer
      ∙ ap (λ (s : Session A). Some s) (sym whole)
]

pub undo_takes_back_redo : {A : Type 0} → UndoTakesBackRedo A
undo_takes_back_redo {A} session other e = elim (split_last session.newer) [
  | inl none ↦
      let nothing : redone session ≡ None = ap (λ n. redone (parts session.current session.older n)) none in
      absurd (no_none other (sym nothing ∙ e))
  | inr some ↦
      let whole : session ≡ parts session.current session.older (some.0 ++ some.1 ∷ []) = ap
      (λ n. parts session.current session.older n) some.2 in
      let on : Session A = parts some.1 (session.older ++ session.current ∷ []) some.0 in
      let is : on ≡ other = some_same on other (sym (ap redone whole
      ∙ redone_from session.current some.1 session.older some.0) ∙ e) in
      sym (ap undone is) ∙ undone_from some.1 session.current session.older some.0
      ∙ ap (λ (s : Session A). Some s) (sym whole)
]

-- what is put away is the newest that is left
kept_newest : {A : Type 0} (older : List A) (x : A)
    → keep_last 32 (older ++ x ∷ []) ≡ drop (length (older ++ x ∷ []) - 32) older ++ x ∷ []
kept_newest older x = drop-append-le (length (older ++ x ∷ []) - 32) older (x ∷ []) (omega
    (arith, length-append older (x ∷ [])))

pub undo_takes_back : {A : Type 0} → UndoTakesBack A
undo_takes_back {A} session draft =
    let front : List (Draft A) = drop (length (session.older ++ session.current ∷ []) - 32) session.older in
    let current : Option (Session A) → Option (Draft A) = option_map (λ before. before.current) in
    ap (λ o. current (undone (parts draft o []))) (kept_newest session.older session.current)
    ∙ ap current (undone_from draft session.current front [])

edit_bounded : {A : Type 0} (older : List A) → length (keep_last 32 older) + 0 ≤ 32
edit_bounded older = omega (arith, length-drop (length older - 32) older)

undo_bounded : {A : Type 0} (session : Session A) → HasBoundedHistory session
    → IfSome (undone session) HasBoundedHistory
undo_bounded session bounded = elim (split_last session.older) [
  | inl none ↦ subst (λ o. IfSome o HasBoundedHistory) (sym (ap (λ o. undone
      (parts session.current o session.newer)) none)) tt
  | inr some ↦
      subst (λ o. IfSome o HasBoundedHistory) (sym (ap (λ o. undone
      (parts session.current o session.newer)) some.2
      ∙ undone_from session.current some.1 some.0 session.newer))
      (omega (
        arith,
        bounded,
        ap length some.2,
        length-append some.0
            (some.1 ∷ []),
        length-append session.newer (session.current ∷ []),
      ))
]

redo_bounded : {A : Type 0} (session : Session A) → HasBoundedHistory session
    → IfSome (redone session) HasBoundedHistory
redo_bounded session bounded = elim (split_last session.newer) [
  | inl none ↦ subst (λ o. IfSome o HasBoundedHistory) (sym (ap (λ n. redone
      (parts session.current session.older n)) none)) tt
  | inr some ↦
      subst (λ o. IfSome o HasBoundedHistory) (sym (ap (λ n. redone
      (parts session.current session.older n)) some.2
      ∙ redone_from session.current some.1 session.older some.0))
      (omega (
        arith,
        bounded,
        ap length some.2,
        length-append some.0
            (some.1 ∷ []),
        length-append session.older (session.current ∷ []),
      ))
]

pub history_stays_bounded : {A : Type 0} → HistoryStaysBounded A
history_stays_bounded session draft bounded = (
  edit_bounded (session.older ++ session.current ∷ []),
  undo_bounded session bounded,
  redo_bounded session bounded,
)
