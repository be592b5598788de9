-- Workers of whom one changes.
use Rattle.std.proofs.Common.{◌≡◌, ◌≢◌, ℕ, ◌+◌, ◌<◌, List, length, get_or, set, inl, inr, sym, subst, arith}
use Rattle.std.proofs.Common.{length-set}
use Rattle.std.specs.List.{All}
use Rattle.std.proofs.lemmas.Bool.{cases_lt}
use Rattle.std.proofs.lemmas.List.{get_or-set_same, get_or-set_other}
use Rattle.w4_segments.specs.declared.worker.Worker.{Worker}

module _ (worker_list : List Worker) (worker_index : ℕ) (w : Worker) (lt : worker_index < length worker_list)
  where
    pub changed_here : (d : Worker) → get_or (set worker_list worker_index w) worker_index d ≡ w
    changed_here d = get_or-set_same worker_list worker_index w d lt

    pub unchanged : (i : ℕ) (d : Worker) → i ≢ worker_index → get_or (set worker_list worker_index w) i d
        ≡ get_or worker_list i d
    unchanged i d other = get_or-set_other worker_list worker_index i w d other

    -- what held below holds up to the worker that changed
    pub up_to_here : (P : ℕ → Worker → Type 0) → ((i : ℕ) (d : Worker) → i < worker_index
        → P i (get_or worker_list i d))
        → P worker_index w
        → (i : ℕ) (d : Worker) → i < worker_index + 1 → P i (get_or (set worker_list worker_index w) i d)
    up_to_here P before now i d below = elim (cases_lt i worker_index) [
      | inl low ↦
          let other : i ≢ worker_index = λ e. absurd (omega (arith, low, e)) in
          subst (P i) (sym (unchanged i d other)) (before i d low)
      | inr high ↦
          let same : worker_index ≡ i = omega (arith, below, high) in
          subst (λ j. P j (get_or (set worker_list worker_index w) j d)) same
          (subst (P worker_index) (sym (changed_here d)) now)
    ]

    pub all_changed : (P : Worker → Type 0) → All P worker_list → P w → All P (set worker_list worker_index w)
    all_changed P before now i d below = elim (cases_lt i worker_index) [
      | inl low ↦
          let other : i ≢ worker_index = λ e. absurd (omega (arith, low, e)) in
          subst P (sym (unchanged i d other)) (before i d (omega
          (arith, below, length-set worker_list worker_index w)))
      | inr high ↦ elim (cases_lt worker_index i) [
        | inl past ↦
            let other : i ≢ worker_index = λ e. absurd (omega (arith, past, e)) in
            subst P (sym (unchanged i d other)) (before i d
            (omega (arith, below, length-set worker_list worker_index w)))
        | inr most ↦
            let same : worker_index ≡ i = omega (arith, high, most) in
            subst (λ j. P (get_or (set worker_list worker_index w) j d)) same
            (subst P (sym (changed_here d)) now)
      ]
    ]
