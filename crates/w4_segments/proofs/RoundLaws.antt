-- Dealing segments, and taking over what was played.
use Rattle.std.proofs.Common.{◌≡◌, ◌≢◌, ℕ, ◌+◌, ◌<◌, ◌≤◌, Bool, true, zero, suc, false, not, List, [], ◌∷◌}
use Rattle.std.proofs.Common.{length, get_or, set, Option, Some, None, inl, inr, refl, sym, ap, ◌∙◌, subst}
use Rattle.std.proofs.Common.{arith, add-one}
use Rattle.std.specs.List.{All}
use Rattle.std.proofs.lemmas.Bool.{cases_lt, cases_eq}
use Rattle.std.specs.Option.{unwrap_or, is_some}
use Rattle.std.proofs.lemmas.List.{get_or_default}
use Rattle.w4_defs.specs.declared.console.Input.{Input}
use Rattle.w4_defs.specs.Reset.{Setup}
use Rattle.std.specs.List.{slice_range}
use Rattle.w4_defs.specs.KeptList.{Entry, state_at, linked_at, computed, relinked_at, replaced_at, SamePlaces}
use Rattle.w4_defs.specs.KeptList.{IsDraft}
use Rattle.w4_defs.specs.Session.{with_list}
use Rattle.w4_defs.specs.State.{State, HasGlobals}
use Rattle.w4_editor.specs.Editor.{Editing, editing_setup, with_session}
use Rattle.w4_defs.specs.Run.{fold}
use Rattle.w4_editor.specs.Settling.{AreLinked, IsComputed}
use Rattle.w4_editor.specs.Playing.{KeepsRecording}
use Rattle.w4_editor.proofs.SettlingLaws.{relinked_computed, replaced_computed}
use Rattle.w4_segments.specs.declared.worker.Task.{Task}
use Rattle.w4_segments.specs.declared.worker.Worker.{Worker}
use Rattle.w4_segments.specs.Filming.{KeepsShown}
use Rattle.w4_segments.specs.Rounds.{entries_of, IsSegment, IsDealt, AreRising, AreDealt, AreComputed}
use Rattle.w4_segments.specs.Rounds.{LinksNext, IsTaken, LengthensFront, CanPlay, HasPlayed}
use Rattle.w4_segments.specs.Worker.{HasCartTypes, EachDid}
use Rattle.w4_segments.proofs.WorkerLaws.{up_to_here, all_changed, changed_here, unchanged}

-- ---- linked entries

-- entry 0 and those after the first so many are linked
pub all_before : (kept : List Entry) (n : ℕ) → linked_at kept 0 ≡ true
    → ((i : ℕ) → i < n → linked_at kept (i + 1) ≡ true)
    → AreLinked n kept
all_before kept n first after zero le = first
all_before kept n first after (suc i) le =
    ap (linked_at kept) (sym (add-one i)) ∙ after i (omega (arith, le))

-- ---- dealing

-- what the first so many workers have, and where the next one goes on
pub record Dealing (e : Editing) (last worker_index next : ℕ) (worker_list : List Worker) : Type 0 where
  pub types : All (HasCartTypes e.cart) worker_list
  pub within : next ≤ last
  pub segment : (i : ℕ) (d : Worker) → i < worker_index → (task : Task) → (get_or worker_list i d).task
      ≡ Some task
      → IsSegment e last (get_or worker_list i d) task × (task.entry < next)
  pub rising : (i j : ℕ) (d : Worker) (s t : Task) → i < j → j < worker_index
      → (get_or worker_list i d).task ≡ Some s
      → (get_or worker_list j d).task ≡ Some t
      → s.entry < t.entry
  pub start : worker_index ≡ 0 → next ≡ 0
  pub before : (d : Worker) (task : Task) → 0 < worker_index → (get_or worker_list 0 d).task ≡ Some task
      → (i : ℕ)
      → i < task.entry
      → linked_at (entries_of e) (i + 1) ≡ true
  pub none : (d : Worker) → 0 < worker_index → (get_or worker_list 0 d).task ≡ None → (i : ℕ) → i < last
      → linked_at (entries_of e) (i + 1) ≡ true

pub dealing_none : (e : Editing) (last : ℕ) (worker_list : List Worker)
    → All (HasCartTypes e.cart) worker_list
    → Dealing e last 0 0 worker_list
dealing_none e last worker_list types = record {
  types = types;
  within = omega arith;
  segment = λ i d lt. absurd (omega (arith, lt));
  rising = λ i j d s t ij lt. absurd (omega (arith, lt));
  start = λ _. refl;
  before = λ d t lt. absurd (omega (arith, lt));
  none = λ d lt. absurd (omega (arith, lt));
}

module _ (e : Editing) (last worker_index next after : ℕ) (worker_list : List Worker) (w : Worker)
    (p : Dealing e last worker_index next worker_list)
    (lt : worker_index < length worker_list) (dealt : IsDealt e next last after w) where
  abbrev team_now : List Worker
  team_now = set worker_list worker_index w

  at_here : (d : Worker) → get_or team_now worker_index d ≡ w
  at_here d = changed_here worker_list worker_index w lt d

  task_here : (d : Worker) (task : Task) → (get_or team_now worker_index d).task ≡ Some task → w.task
      ≡ Some task
  task_here d task some = ap (λ (x : Worker). x.task) (sym (at_here d)) ∙ some

  task_there : (i : ℕ) (d : Worker) (task : Option Task) → i < worker_index → (get_or team_now i d).task
      ≡ task
      → (get_or worker_list i d).task ≡ task
  task_there i d task low some =
      let other : i ≢ worker_index = λ same. absurd (omega (arith, low, same)) in
      ap (λ (x : Worker). x.task) (sym (unchanged worker_list worker_index w lt i d other)) ∙ some

  rising_more : (i j : ℕ) (d : Worker) (s t : Task) → i < j → j < worker_index + 1
      → (get_or team_now i d).task ≡ Some s
      → (get_or team_now j d).task ≡ Some t
      → s.entry < t.entry
  rising_more i j d s t ij below one two =
      let low : i < worker_index = omega (arith, ij, below) in
      elim (cases_lt j worker_index) [
        | inl lower ↦ p.rising i j d s t ij lower (task_there i d (Some s) low one)
            (task_there j d (Some t) lower two)
        | inr high ↦
            let same : j ≡ worker_index = omega (arith, below, high) in
            let before = (p.segment i d low s (task_there i d (Some s) low one)).1 in
            let here = subst (λ n. (get_or team_now n d).task ≡ Some t) same two in
            let after = (dealt.next_is t (task_here d t here)).0 in
            omega (arith, before, after)
      ]

  segment_more : (i : ℕ) (d : Worker) → i < worker_index + 1 → (task : Task)
      → (get_or team_now i d).task ≡ Some task
      → IsSegment e last (get_or team_now i d) task × (task.entry < after)
  segment_more = up_to_here worker_list worker_index w lt
      (λ _ x. (task : Task) → x.task ≡ Some task → IsSegment e last x task × (task.entry < after))
      (λ i d low task some.
      let is = p.segment i d low task some in
      let below = is.1 in
      let order = dealt.order in (is.0, omega (arith, below, order)))
      (λ task some. let at = (dealt.next_is task some).1 in (dealt.segment task some, omega (arith, at)))

  first_here : worker_index ≡ 0 → (d : Worker) (task : Option Task) → (get_or team_now 0 d).task ≡ task
      → w.task ≡
      task
  first_here begins d task some =
      ap (λ (x : Worker). x.task) (sym (at_here d))
      ∙ ap (λ n. (get_or team_now n d).task) begins
      ∙ some

  before_more : (d : Worker) (task : Task) → 0 < worker_index + 1 → (get_or team_now 0 d).task ≡ Some task
      → (i : ℕ)
      → i < task.entry
      → linked_at (entries_of e) (i + 1) ≡ true
  before_more d task _ some i below = elim (cases_lt 0 worker_index) [
    | inl more ↦ p.before d task more (task_there 0 d (Some task) more some) i below
    | inr first ↦
        let zero : worker_index ≡ 0 = omega (arith, first) in
        let begin = p.start zero in
        dealt.before task (first_here zero d (Some task) some) i (omega (arith, begin)) below
  ]

  none_more : (d : Worker) → 0 < worker_index + 1 → (get_or team_now 0 d).task ≡ None → (i : ℕ) → i < last
      → linked_at (entries_of e) (i + 1) ≡ true
  none_more d _ none i below = elim (cases_lt 0 worker_index) [
    | inl more ↦ p.none d more (task_there 0 d None more none) i below
    | inr first ↦
        let zero : worker_index ≡ 0 = omega (arith, first) in
        let begin = p.start zero in
        dealt.none (first_here zero d None none) i (omega (arith, begin)) below
  ]

  pub dealing_more : Dealing e last (worker_index + 1) after team_now
  dealing_more = record {
    types = all_changed worker_list worker_index w lt (HasCartTypes e.cart) p.types dealt.types;
    within = dealt.within;
    segment = segment_more;
    rising = rising_more;
    start = λ none. absurd (omega (arith, none));
    before = before_more;
    none = none_more;
  }

pub dealing_done : (e : Editing) (last worker_index next : ℕ) (old new : List Worker) → length new
    ≡ length old
    → worker_index ≡ length new
    → Dealing e last worker_index next new
    → AreDealt e last old new
dealing_done e last worker_index next old new many all p = record {
  many = many;
  types = p.types;
  segment = λ i d task lt some. (p.segment i d (omega (arith, lt, all)) task some).0;
  rising = λ i j d s t ij lt. p.rising i j d s t ij (omega (arith, lt, all));
  before = λ d task lt. p.before d task (omega (arith, lt, all));
  none = λ d lt. p.none d (omega (arith, lt, all));
}

-- ---- what was played

-- after the workers have played, each has what the inputs make of the state kept before
pub dealt_computed : (e : Editing) (last : ℕ) (old dealt played : List Worker) → AreDealt e last old dealt
    → EachDid (HasPlayed (editing_setup e) e.session.current.inputs) dealt played
    → AreComputed e last played
dealt_computed e last old dealt played a did =
    let many = did.many in
    let task_is : (i : ℕ) (d : Worker) (task : Task) → i < length played
    → (get_or played i d).task ≡ Some task
    → (get_or dealt i d).task ≡ Some task
    = λ i d task lt some. sym ((did.each i d (omega (arith, lt, many))).task) ∙ some in record {
      types = λ i d lt. (did.each i d (omega (arith, lt, many))).types;
      there = λ i d task lt some.
          (a.segment i d task (omega (arith, lt, many)) (task_is i d task lt some)).there;
      state = λ i d task lt some.
          let low : i < length dealt = omega (arith, lt, many) in
          let is = a.segment i d task low (task_is i d task lt some) in
          let step = (did.each i d low).state task (task_is i d task lt some) in
          sym (λ k. fold (editing_setup e) (is.state k)
          (slice_range e.session.current.inputs (is.place k) (is.end k)))
          ∙ step;
      rising = λ i j d s t ij lt one two.
          a.rising i j d s t ij (omega (arith, lt, many)) (task_is i d s (omega (arith, lt, ij)) one)
          (task_is j d t lt two);
    }

-- ---- taking over

pub shown_keeps_same : (e : Editing) → KeepsShown e e
shown_keeps_same e = record {
  recording = record {
    same = refl;
    inputs = refl;
    older = refl;
    newer = refl;
    places = record { many = refl; places = λ i. refl };
  };
  at = refl;
}

pub recording_kept_both : (a b c : Editing) → KeepsRecording a b → KeepsRecording b c → KeepsRecording a c
recording_kept_both a b c x y = record {
  same = y.same ∙ ap (λ (e : Editing). with_session e c.session c.at) x.same;
  inputs = y.inputs ∙ x.inputs;
  older = y.older ∙ x.older;
  newer = y.newer ∙ x.newer;
  places = record {
    many = y.places.many ∙ x.places.many;
    places = λ i. y.places.places i ∙ x.places.places i;
  };
}

pub keeps_both : (a b c : Editing) → KeepsShown a b → KeepsShown b c → KeepsShown a c
keeps_both a b c one two = record {
  recording = recording_kept_both a b c one.recording two.recording;
  at = two.at ∙ one.at;
}

some_is : (a b : ℕ) → Some a ≡ Some b → a ≡ b
some_is a b e = ap (λ o. unwrap_or o a) e

some_task : (s t : Task) → Some s ≡ Some t → s ≡ t
some_task s t e = ap (λ o. unwrap_or o s) e

-- another kept list with the same places
pub list_keeps : (e new : Editing) (kept : List Entry) → SamePlaces (entries_of e) kept
    → new ≡ with_session e (with_list e.session kept) e.at
    → KeepsShown e new
list_keeps e new kept same is = subst (KeepsShown e) (sym is) (record {
  recording = record { same = refl; inputs = refl; older = refl; newer = refl; places = same };
  at = refl;
})

module _ (disk : List ℕ) (e new : Editing) (entry : ℕ) (found : State)
    (draft : IsDraft (editing_setup e) disk e.session.current)
    (lt : entry + 1 < length (entries_of e))
    (is : computed (editing_setup e) e.session.current.inputs (entries_of e) entry ≡ Some found) where
  -- the state is the one that is kept
  module _ (same : state_at (entries_of e) (entry + 1) ≡ found)
      (linked : new
      ≡ with_session e (with_list e.session (relinked_at (entry + 1) (entries_of e))) e.at) where
    link_computed : IsComputed (editing_setup e) e.session.current.inputs entry (entries_of e)
        (relinked_at (entry + 1) (entries_of e))
    link_computed = relinked_computed (editing_setup e) e.session.current.inputs entry (entries_of e) lt
        (is ∙ ap Some (sym same)) (draft.kept.true_links.globals (entry + 1) lt)

    pub link_put : (replaced : Option ℕ) → LinksNext entry replaced replaced e new
    link_put replaced = subst (LinksNext entry replaced replaced e) (sym linked) (record {
      computed = link_computed;
      last_is = inr (
        refl,
        ap (λ o. unwrap_or o found)
            (sym link_computed.state ∙ is ∙ ap Some (sym same)),
      );
    })

  -- it is another
  module _ (globals : HasGlobals e.cart found) (other : state_at (entries_of e) (entry + 1) ≢ found)
      (put : new ≡ with_session e (with_list e.session (replaced_at (entry + 1) found (entries_of e))) e.at)
    where
      replace_computed : IsComputed (editing_setup e) e.session.current.inputs entry (entries_of e)
          (replaced_at (entry + 1) found (entries_of e))
      replace_computed = replaced_computed (editing_setup e) e.session.current.inputs entry (entries_of e)
          found lt
          is globals other

      pub replace_keeps : KeepsShown e new
      replace_keeps =
          list_keeps e new (replaced_at (entry + 1) found (entries_of e)) replace_computed.places put

      pub replace_put : (replaced : Option ℕ) → LinksNext entry replaced (Some (entry + 1)) e new
      replace_put replaced = subst (LinksNext entry replaced (Some (entry + 1)) e) (sym put) (record {
        computed = replace_computed;
        last_is = inl refl;
      })

-- after the first so many workers: of those to come, a worker's first state still stands unless it was the
-- one replaced last; the front is kept, and one entry longer once the first worker is done
pub record Taking (e : Editing) (worker_list : List Worker) (worker_index : ℕ) (replaced : Option ℕ)
    (now : Editing) : Type 0 where
  pub keeps : KeepsShown e now
  pub start : worker_index ≡ 0 → replaced ≡ None
  pub stands : (i : ℕ) (d : Worker) (task : Task) → worker_index ≤ i → i < length worker_list
      → (get_or worker_list i d).task ≡ Some task
      → replaced ≢ Some task.entry
      → state_at (entries_of now) task.entry ≡ state_at (entries_of e) task.entry
  pub low : (i : ℕ) (d : Worker) (task : Task) (entry : ℕ) → worker_index ≤ i → i < length worker_list
      → (get_or worker_list i d).task ≡ Some task
      → replaced ≡ Some entry
      → entry ≤ task.entry
  pub front : (d : Worker) (task : Task) → 0 < length worker_list → (get_or worker_list 0 d).task ≡ Some task
      → (j : ℕ)
      → j ≤ task.entry
      → linked_at (entries_of now) j ≡ linked_at (entries_of e) j
  pub next : (d : Worker) (task : Task) → 0 < worker_index → 0 < length worker_list
      → (get_or worker_list 0 d).task ≡ Some task
      → linked_at (entries_of now) (task.entry + 1) ≡ true

module _ (e : Editing) (worker_list : List Worker) (worker_index : ℕ) (replaced : Option ℕ) (now : Editing)
    (p : Taking e worker_list worker_index replaced now)
    (lt : worker_index < length worker_list) (w : Worker)
    (read : (d : Worker) → get_or worker_list worker_index d ≡ w) where
  -- it was thrown away, or had nothing
  pub taking_skip : ((task : Task) → w.task ≡ Some task → replaced ≡ Some task.entry)
      → Taking e worker_list (worker_index + 1) replaced now
  taking_skip thrown = record {
    keeps = p.keeps;
    start = λ none. absurd (omega (arith, none));
    stands = λ i d task le. p.stands i d task (omega (arith, le));
    low = λ i d task entry le. p.low i d task entry (omega (arith, le));
    front = p.front;
    next = λ d task _ some is. elim (cases_lt 0 worker_index) [
      | inl more ↦ p.next d task more some is
      | inr first ↦
          let zero : worker_index ≡ 0 = omega (arith, first) in
          let here = ap (λ (x : Worker). x.task) (sym (read d)) ∙ ap (λ n. (get_or worker_list n d).task) zero
          ∙
          is in
          let stale = thrown task here in
          let none = p.start zero in
          absurd cc
    ];
  }

  module _ (task : Task) (some : w.task ≡ Some task) (rising : AreRising worker_list) (last : Option ℕ)
      (new : Editing)
      (keeps : KeepsShown now new) (put : LinksNext task.entry replaced last now new) where
    here : (d : Worker) → (get_or worker_list worker_index d).task ≡ Some task
    here d = ap (λ (x : Worker). x.task) (read d) ∙ some

    later : (i : ℕ) (d : Worker) (s : Task) → worker_index + 1 ≤ i → i < length worker_list
        → (get_or worker_list i d).task ≡ Some s
        → task.entry < s.entry
    later i d s le below is = rising worker_index i d task s (omega (arith, le)) below (here d) is

    old_low : (entry : ℕ) → replaced ≡ Some entry → entry ≤ task.entry
    old_low entry is = p.low worker_index w task entry (omega arith) lt (here w) is

    next_stays : last ≢ Some (task.entry + 1)
        → state_at (entries_of new) (task.entry + 1) ≡ state_at (entries_of now) (task.entry + 1)
    next_stays other = elim put.last_is [
      | inl is ↦ absurd (other is)
      | inr same ↦ same.1
    ]

    -- entries above keep their states
    state_stays : (k : ℕ) → task.entry < k → last ≢ Some k
        → state_at (entries_of new) k ≡ state_at (entries_of now) k
    state_stays k above other = elim (cases_eq k (task.entry + 1)) [
      | inl same ↦ ap (state_at (entries_of new)) same
          ∙ next_stays (λ is. other (is ∙ ap Some (sym same)))
          ∙ ap (state_at (entries_of now)) (sym same)
      | inr far ↦ elim (cases_eq k (task.entry + 1 + 1)) [
        | inl same ↦ ap (state_at (entries_of new)) same ∙ put.computed.next_state
            ∙ ap (state_at (entries_of now)) (sym same)
        | inr farther ↦ ap (λ (x : Entry). x.state) (put.computed.others k far farther)
      ]
    ]

    -- entries up to this one keep their links
    link_stays : (k : ℕ) → k ≤ task.entry → linked_at (entries_of new) k ≡ linked_at (entries_of now) k
    link_stays k le =
        let one : k ≢ task.entry + 1 = λ e. absurd (omega (arith, le, e)) in
        let two : k ≢ task.entry + 1 + 1 = λ e. absurd (omega (arith, le, e)) in
        ap (λ (x : Entry). x.linked) (put.computed.others k one two)

    stands_on : (i : ℕ) (d : Worker) (s : Task) → worker_index + 1 ≤ i → i < length worker_list
        → (get_or worker_list i d).task ≡ Some s
        → last ≢ Some s.entry
        → state_at (entries_of new) s.entry ≡ state_at (entries_of e) s.entry
    stands_on i d s le below is other =
        let above = later i d s le below is in
        state_stays s.entry above other
        ∙ p.stands i d s (omega (arith, le)) below is
        (λ old. let low = old_low s.entry old in absurd (omega (arith, low, above)))

    low_on : (i : ℕ) (d : Worker) (s : Task) (entry : ℕ) → worker_index + 1 ≤ i → i < length worker_list
        → (get_or worker_list i d).task ≡ Some s
        → last ≡ Some entry
        → entry ≤ s.entry
    low_on i d s entry le below is found =
        let above = later i d s le below is in
        elim put.last_is [
          | inl at ↦
              let same = some_is entry (task.entry + 1) (sym found ∙ at) in
              omega (arith, same, above)
          | inr same ↦
              let low = old_low entry (sym same.0 ∙ found) in
              omega (arith, low, above)
        ]

    first_is : worker_index ≡ 0 → (d : Worker) (first : Task) → (get_or worker_list 0 d).task ≡ Some first
        → first ≡ task
    first_is begins d first is =
        some_task first task (sym is ∙ ap (λ n. (get_or worker_list n d).task) (sym begins) ∙ here d)

    front_on : (d : Worker) (first : Task) → 0 < length worker_list → (get_or worker_list 0 d).task
        ≡ Some first → (j : ℕ)
        → j ≤ first.entry
        → linked_at (entries_of new) j ≡ linked_at (entries_of e) j
    front_on d first there is j le = elim (cases_lt 0 worker_index) [
      | inl more ↦
          let below = rising 0 worker_index d first task more lt is (here d) in
          link_stays j (omega (arith, le, below)) ∙ p.front d first there is j le
      | inr none ↦
          let same = ap (λ (t : Task). t.entry) (first_is (omega (arith, none)) d first is) in
          link_stays j (omega (arith, le, same)) ∙ p.front d first there is j le
    ]

    next_on : (d : Worker) (first : Task) → 0 < worker_index + 1 → 0 < length worker_list
        → (get_or worker_list 0 d).task ≡ Some first
        → linked_at (entries_of new) (first.entry + 1) ≡ true
    next_on d first _ there is = elim (cases_lt 0 worker_index) [
      | inl more ↦
          let below = rising 0 worker_index d first task more lt is (here d) in
          link_stays (first.entry + 1) (omega (arith, below)) ∙ p.next d first more there is
      | inr none ↦
          let same = ap (λ (t : Task). t.entry) (first_is (omega (arith, none)) d first is) in
          ap (λ n. linked_at (entries_of new) (n + 1)) same ∙ put.computed.linked
    ]

    pub taking_put : Taking e worker_list (worker_index + 1) last new
    taking_put = record {
      keeps = keeps_both e now new p.keeps keeps;
      start = λ none. absurd (omega (arith, none));
      stands = stands_on;
      low = low_on;
      front = front_on;
      next = next_on;
    }

  -- one worker more
  pub taking_more : AreRising worker_list → (last : Option ℕ) (new : Editing) → KeepsShown now new
      → IsTaken w replaced last now new
      → Taking e worker_list (worker_index + 1) last new
  taking_more rising last new keeps (inl (thrown, same, stays)) =
      subst (λ (x : Option ℕ). Taking e worker_list (worker_index + 1) x new) (sym same)
      (subst (λ (x : Editing). Taking e worker_list (worker_index + 1) replaced x) (sym stays)
      (taking_skip thrown))
  taking_more rising last new keeps (inr (task, some, other, put)) =
      taking_put task some rising last new keeps put

-- ---- one round

some_of : (o : Option Task) (none : Bool) → is_some o ≡ not none → none ≡ false
    → (task : Task) × (o ≡ Some task)
some_of None none is off = absurd (let e : false ≡ not none = is in let f : not none ≡ true = ap not off in
    let g : false ≡ true = e ∙ f in cc)
some_of (Some task) none is off = (task, refl)

-- the first worker, who has a task
pub busy_first : (worker_list : List Worker) (w : Worker) (none : Bool) → 0 < length worker_list
    → is_some (get_or worker_list 0 w).task ≡ not none
    → none ≡ false
    → (task : Task) × ((d : Worker) → (get_or worker_list 0 d).task ≡ Some task)
busy_first worker_list w none lt is off =
    let found = some_of (get_or worker_list 0 w).task none is off in (
      found.0,
      λ d. ap (λ (x : Worker). x.task) (get_or_default worker_list 0 d w lt) ∙ found.1,
    )

-- workers that have nothing to do
pub idle_linked : (e : Editing) (last : ℕ) (old dealt : List Worker) → AreDealt e last old dealt
    → 0 < length dealt
    → ((d : Worker) → (get_or dealt 0 d).task ≡ None)
    → (i : ℕ) → i < last → linked_at (entries_of e) (i + 1) ≡ true
idle_linked e last old [] a some idle = absurd (omega (arith, some))
idle_linked e last old (w ∷ dealt) a some idle = a.none w some (idle w)

-- a round whose first segment lies behind a linked front
pub front_lengthens : (setup : Setup) (inputs : List Input) (e : Editing) (last : ℕ)
    (old dealt played : List Worker) (now : Editing)
    → AreDealt e last old dealt
    → EachDid (HasPlayed setup inputs) dealt played
    → LengthensFront played e now
    → 0 < length dealt
    → (task : Task) → ((d : Worker) → (get_or dealt 0 d).task ≡ Some task)
    → linked_at (entries_of e) 0 ≡ true
    → (m : ℕ) → AreLinked m (entries_of e) → AreLinked (m + 1) (entries_of now)
front_lengthens setup inputs e last old [] played now a did longer some task is first m linked i le =
    absurd (omega (arith, some))
front_lengthens setup inputs e last old (w ∷ dealt) played now a did longer some task is first m linked i le =
    let many = did.many in
    let segment = a.segment 0 w task some (is w) in
    let front : AreLinked task.entry (entries_of e) =
    all_before (entries_of e) task.entry first (a.before w task some (is w)) in
    let past : m ≤ task.entry = elim (cases_lt task.entry m) [
      | inl inside ↦ absurd (let on = linked (task.entry + 1) (omega (arith, inside)) in
          let off : true ≡ false = sym on ∙ segment.unlinked in cc)
      | inr low ↦ low
    ] in longer w task (omega (arith, some, many)) ((did.each 0 w some).task ∙ is w) front i (omega
    (arith, le, past))

-- what workers that were dealt their segments can play
pub dealt_can_play : (disk : List ℕ) (e : Editing) (last : ℕ) (old dealt : List Worker)
    → IsDraft (editing_setup e) disk e.session.current
    → last < length (entries_of e)
    → AreDealt e last old dealt
    → All (CanPlay e.cart e.session.current.inputs) dealt
dealt_can_play disk e last old dealt draft there a i d lt = record {
  types = a.types i d lt;
  order = λ task some.
      let is = a.segment i d task lt some in
      let below = is.there in
      let up = draft.kept.true_links.rising task.entry (omega (arith, below, there)) in
      let from = is.place in
      let to = is.end in
      omega (arith, up, from, to);
  within = λ task some.
      let is = a.segment i d task lt some in
      let below = is.there in
      let in_range = draft.kept.true_links.within (task.entry + 1) (omega (arith, below, there)) in
      let to = is.end in
      omega (arith, in_range, to);
}
