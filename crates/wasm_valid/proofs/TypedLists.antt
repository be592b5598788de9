-- What a typed list comes to, and how that passes through the ends of lists into one another.
use Rattle.std.proofs.Common.{◌≡◌, ℕ, zero, suc, ◌<◌, ◌≤◌, ◌-◌, Bool, true, false, cond, nat_le, nat_lt, List}
use Rattle.std.proofs.Common.{[], ◌∷◌, ◌++◌, length, map, take, drop, reverse, Option, Some, None}
use Rattle.std.proofs.Common.{option_to_list, refl, sym, ap, ◌∙◌, subst}
use Rattle.std.specs.Prelude.{slice_get}
use Rattle.std.proofs.lemmas.List.{reverse-reverse}
use Rattle.w4_defs.specs.declared.value.Val.{Val}
use Rattle.w4_defs.specs.declared.value.Val.TheVariants as val
use Rattle.w4_defs.specs.declared.value.ValType.{ValType}
use Rattle.w4_defs.specs.declared.value.ValType.TheVariants.{I32}
use Rattle.w4_defs.specs.Module.{Signature, Function}
use Rattle.w4_defs.specs.Lookup.{global_types}
use Rattle.w4_defs.specs.ValueTypes.{have_types, result_types}
use Rattle.w4_defs.specs.Typing.{Context, with_label, body_context}
use Rattle.w4_defs.specs.Outcome.{Store, Outcome, Falls, Branch, Returns, Trap, Spent, Stuck}
use Rattle.w4_defs.specs.Control.{Next, on_i32, where_some, with_top, with_arguments, and_then, close}
use Rattle.w4_defs.specs.Control.{close_loop, leave}
use Rattle.w4_defs.specs.Effects.{Effect, Does, Traps, Lacks}
use Rattle.w4_defs.specs.Evaluation.{with_page, outcome_of_effect, outcome_after_units}
use Rattle.w4_defs.specs.InstructionSoundness.{Suits}
use Rattle.w4_defs.specs.RunLaws.{types_of, Within}
use Rattle.w4_defs.proofs.Budgets.{AtMost}
use Rattle.wasm_valid.proofs.TypedValues.{types_joined, types_reversed, split, are_of_typed}

-- the types of all globals, the imported ones first
abbrev pub global_values : Context → List ValType
global_values c = map (λ g. g.value) (global_types c.within)

-- a list that leads to outs falls with operands of these types, or leaves with those that its label or its
-- function's results want; locals and globals keep their types; it never lacks anything
abbrev pub OutcomeFits : {H : Type 0} → Context → List ValType → Outcome H → Type 0
OutcomeFits c outs (Falls ops ls st r) =
    (types_of ops ≡ reverse outs) × (types_of ls ≡ c.locals) × (types_of st.globals ≡ global_values c)
OutcomeFits c outs (Branch l vs ls st r) =
    (label : List ValType) × (slice_get c.labels l ≡ Some label) × (types_of vs ≡ reverse label)
    × (types_of ls ≡ c.locals) × (types_of st.globals ≡ global_values c)
OutcomeFits c outs (Returns vs st r) =
    (types_of vs ≡ reverse c.results) × (types_of st.globals ≡ global_values c)
OutcomeFits c outs (Trap cause st) = types_of st.globals ≡ global_values c
OutcomeFits c outs (Spent st) = types_of st.globals ≡ global_values c
OutcomeFits c outs Stuck = ⊥

-- what goes on fits, wherever it begins with at most b units and with operands of these types, the top first
abbrev pub NextFits : {H : Type 0} → Context → List ValType → ℕ → List ValType → Next H → Type 0
NextFits {H} c outs b tops go = (ops ls : List Val) (st : Store H) (r : ℕ) → r ≤ b
    → types_of ops ≡ tops → types_of ls ≡ c.locals → types_of st.globals ≡ global_values c
    → OutcomeFits c outs (go ops ls st r)

-- a block's results, closed by number and type
result_held : (r : Option ValType) (vs : List Val) → types_of vs ≡ reverse (result_types r)
    → have_types (option_to_list r) vs ≡ true
result_held None vs h = are_of_typed [] vs h
result_held (Some t) vs h = are_of_typed (t ∷ []) vs h

-- values that go onto operands
pub onto : (ts tops : List ValType) (vs ops : List Val) → types_of vs ≡ ts → types_of ops ≡ tops
    → types_of (vs ++ ops) ≡ ts ++ tops
onto ts tops vs ops h k = types_joined vs ops ∙ ap (λ x. x ++ types_of ops) h ∙ ap (λ x. ts ++ x) k

module _ {H : Type 0} (c : Context) (outs : List ValType) where
  pub on_i32_fits : (tops : List ValType) (ops : List Val) (go : ℕ → List Val → Outcome H)
      → types_of ops ≡ I32 ∷ tops
      → ((n : ℕ) (ops : List Val) → types_of ops ≡ tops → OutcomeFits c outs (go n ops))
      → OutcomeFits c outs (on_i32 Stuck ops go)
  on_i32_fits tops [] go h k = absurd (cc h)
  on_i32_fits tops (val.I32 n ∷ ops) go h k = k n ops (cc h)
  on_i32_fits tops (val.I64 n ∷ ops) go h k = absurd (cc h)

  pub where_some_fits : {A : Type 0} (lack : Outcome H) (o : Option A) (x : A) (go : A → Outcome H)
      → o ≡ Some x
      → OutcomeFits c outs (go x) → OutcomeFits c outs (where_some lack o go)
  where_some_fits lack o x go e k = subst (λ o. OutcomeFits c outs (where_some lack o go)) (sym e) k

  pub cond_fits : (test : Bool) (o p : Outcome H) → (test ≡ true → OutcomeFits c outs o)
      → (test ≡ false → OutcomeFits c outs p) → OutcomeFits c outs (cond test o p)
  cond_fits true o p h k = h refl
  cond_fits false o p h k = k refl

  pub holds_fits : (test : Bool) (o p : Outcome H) → test ≡ true → OutcomeFits c outs o
      → OutcomeFits c outs (cond test o p)
  holds_fits test o p e h = subst (λ t. OutcomeFits c outs (cond t o p)) (sym e) h

  pub with_top_fits : (ts below : List ValType) (ops : List Val) (go : List Val → List Val → Outcome H)
      → types_of ops ≡ reverse ts ++ below
      → ((vs ops : List Val) → types_of vs ≡ reverse ts → types_of ops ≡ below → OutcomeFits c outs
      (go vs ops))
      → OutcomeFits c outs (with_top Stuck (length ts) ops go)
  with_top_fits ts below ops go h k =
      let n = length ts in
      let s = split ts below ops h in
      holds_fits (nat_le n (length ops)) (go (take n ops) (drop n ops)) Stuck s.enough
      (k (take n ops) (drop n ops) s.top s.rest)

  pub with_arguments_fits : (params below : List ValType) (ops : List Val) (go : List Val → List Val
      → Outcome H) → types_of ops ≡ reverse params ++ below
      → ((args ops : List Val) → types_of args ≡ params → types_of ops ≡ below → OutcomeFits c outs
      (go args ops))
      → OutcomeFits c outs (with_arguments Stuck params ops go)
  with_arguments_fits params below ops go h k =
      let n = length params in
      let s = split params below ops h in
      let args : List Val = reverse (take n ops) in
      let typed : types_of args ≡ params =
      types_reversed (take n ops) ∙ ap reverse s.top ∙ reverse-reverse params in
      holds_fits (have_types params args) (go args (drop n ops)) Stuck (are_of_typed params args typed)
      (k args (drop n ops) typed s.rest)

  pub and_then_fits : (mid : List ValType) (b : ℕ) (o : Outcome H) (go : Next H) → AtMost b o
      → OutcomeFits c mid o
      → NextFits c outs b (reverse mid) go → OutcomeFits c outs (and_then o go)
  and_then_fits mid b (Falls ops ls st r) go a h k = k ops ls st r a h.0 h.1 h.2
  and_then_fits mid b (Branch l vs ls st r) go a h k = h
  and_then_fits mid b (Returns vs st r) go a h k = h
  and_then_fits mid b (Trap cause st) go a h k = h
  and_then_fits mid b (Spent st) go a h k = h
  and_then_fits mid b Stuck go a h k = h

  pub close_fits : (result : Option ValType) (tops : List ValType) (b : ℕ) (ops : List Val) (go : Next H)
      (o : Outcome H) → types_of ops ≡ tops → AtMost b o
      → OutcomeFits (with_label (result_types result) c) (result_types result) o
      → NextFits c outs b (reverse (result_types result) ++ tops) go
      → OutcomeFits c outs (close (option_to_list result) ops go o)
  close_fits result tops b ops go (Falls vs ls st r) e a h k =
      holds_fits (have_types (option_to_list result) vs) (go (vs ++ ops) ls st r) Stuck
      (result_held result vs h.0)
      (k (vs ++ ops) ls st r a (onto (reverse (result_types result)) tops vs ops h.0 e) h.1 h.2)
  close_fits result tops b ops go (Branch zero vs ls st r) e a h k =
      let same : result_types result ≡ h.0 = cc h.1 in
      k (vs ++ ops) ls st r a
      (onto (reverse (result_types result)) tops vs ops (h.2 ∙ ap reverse (sym same)) e) h.3 h.4
  close_fits result tops b ops go (Branch (suc l) vs ls st r) e a h k = h
  close_fits result tops b ops go (Returns vs st r) e a h k = h
  close_fits result tops b ops go (Trap cause st) e a h k = h
  close_fits result tops b ops go (Spent st) e a h k = h
  close_fits result tops b ops go Stuck e a h k = h

  -- a branch to a loop begins its next iteration with less
  pub step_fits : (result : Option ValType) (tops : List ValType) (b : ℕ) (ops : List Val) (go : Next H)
      (again : List Val → Store H → ℕ → Outcome H) (o : Outcome H)
      → types_of ops ≡ tops → Within b o → OutcomeFits (with_label [] c) (result_types result) o
      → NextFits c outs b (reverse (result_types result) ++ tops) go
      → ((ls : List Val) (st : Store H) (r : ℕ) → r < b → types_of ls ≡ c.locals
      → types_of st.globals ≡ global_values c → OutcomeFits c outs (again ls st r))
      → OutcomeFits c outs (close_loop (option_to_list result) ops go again o)
  step_fits result tops b ops go again (Falls vs ls st r) e a h k t =
      holds_fits (have_types (option_to_list result) vs) (go (vs ++ ops) ls st r) Stuck
      (result_held result vs h.0)
      (k (vs ++ ops) ls st r a (onto (reverse (result_types result)) tops vs ops h.0 e) h.1 h.2)
  step_fits result tops b ops go again (Branch zero vs ls st r) e a h k t = t ls st r a h.3 h.4
  step_fits result tops b ops go again (Branch (suc l) vs ls st r) e a h k t = h
  step_fits result tops b ops go again (Returns vs st r) e a h k t = h
  step_fits result tops b ops go again (Trap cause st) e a h k t = h
  step_fits result tops b ops go again (Spent st) e a h k t = h
  step_fits result tops b ops go again Stuck e a h k t = h

  -- the end of a called function: its results go onto the caller's operands
  pub leave_fits : (s : Signature) (f : Function) (tops : List ValType) (ops locals : List Val)
      (o : Outcome H)
      → types_of ops ≡ tops → types_of locals ≡ c.locals
      → reverse outs ≡ reverse s.results ++ tops → OutcomeFits (body_context c.within s f) s.results o
      → OutcomeFits c outs (leave s.results ops locals o)
  leave_fits s f tops ops locals (Falls vs ls st r) e l g h =
      holds_fits (have_types (reverse s.results) vs) (Falls (vs ++ ops) locals st r) Stuck
      (are_of_typed (reverse s.results) vs h.0)
      (onto (reverse s.results) tops vs ops h.0 e ∙ sym g, l, h.2)
  leave_fits s f tops ops locals (Branch zero vs ls st r) e l g h =
      let same : s.results ≡ h.0 = cc h.1 in
      (onto (reverse s.results) tops vs ops (h.2 ∙ ap reverse (sym same)) e ∙ sym g, l, h.4)
  leave_fits s f tops ops locals (Branch (suc n) vs ls st r) e l g h = absurd (cc h.1)
  leave_fits s f tops ops locals (Returns vs st r) e l g h =
      (onto (reverse s.results) tops vs ops h.0 e ∙ sym g, l, h.1)
  leave_fits s f tops ops locals (Trap cause st) e l g h = h
  leave_fits s f tops ops locals (Spent st) e l g h = h
  leave_fits s f tops ops locals Stuck e l g h = h

  pub settle_fits : (types locals : List ValType) (f : Effect) (st : Store H) (b : ℕ) → Suits types locals f
      → reverse outs ≡ types → locals ≡ c.locals
      → types_of st.globals ≡ global_values c → OutcomeFits c outs (outcome_of_effect f st b)
  settle_fits types locals (Does ops ls page) st b h e l g = (h.0 ∙ sym e, h.1 ∙ l, g)
  settle_fits types locals (Traps cause) st b h e l g = g
  settle_fits types locals Lacks st b h e l g = h

  pub settle_after_fits : (units : ℕ) (types locals : List ValType) (f : Effect) (st : Store H) (b : ℕ)
      → Suits types locals f → reverse outs ≡ types → locals ≡ c.locals
      → types_of st.globals ≡ global_values c → OutcomeFits c outs (outcome_after_units units f st b)
  settle_after_fits units types locals (Does ops ls page) st b h e l g =
      cond_fits (nat_lt b units) (Spent st) (Falls ops ls (with_page page st) (b - units)) (λ t. g)
      (λ t. (h.0 ∙ sym e, h.1 ∙ l, g))
  settle_after_fits units types locals (Traps cause) st b h e l g = g
  settle_after_fits units types locals Lacks st b h e l g = h
