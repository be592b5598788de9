-- An instruction that traps or is spent leaves the store as it was.
use Rattle.std.proofs.Common.{ℕ, ◌-◌, List, [], ◌∷◌, Option, Some, None, Bool, true, false, cond, nat_eq, nat_le, nat_lt, length, min, take, drop, reverse, slice_get, slice_set, refl}
use Rattle.w4_defs.specs.declared.value.Val.{Val}
use Rattle.w4_defs.specs.declared.value.Val.TheVariants as val
use Rattle.w4_defs.specs.declared.value.ValType.{ValType}
use Rattle.w4_defs.specs.declared.value.ValType.TheVariants as type
use Rattle.w4_defs.specs.declared.operation.Op.TheVariants as op
use Rattle.w4_defs.specs.declared.basic.Basic.TheVariants.{MemoryCopy, MemoryFill}
use Rattle.w4_defs.specs.Outcome.{Store, Called, Outcome, Falls, Branch, Returns, Spent, Stuck}
use Rattle.w4_defs.specs.ValueTypes.{have_types, same_value_type, integers_of}
use Rattle.w4_defs.specs.Control.{on_i32, on_value, where_some, with_top}
use Rattle.w4_defs.specs.Effects.{Effect, Does, Traps, Lacks, effect}
use Rattle.w4_defs.specs.Evaluation.{Env, with_page, with_globals, after_import, outcome_of_effect, outcome_after_units, branch, with_result, further_units}
use Rattle.w4_defs.specs.RunLaws.{LeavesStore, FaultsChangeNothing, SpentImportsChangeNothing}

module _ {H : Type 0} (st : Store H) where
  on_i32_keeps : (ops : List Val) (go : ℕ → List Val → Outcome H)
      → ((n : ℕ) (ops : List Val) → LeavesStore st (go n ops)) → LeavesStore st (on_i32 Stuck ops go)
  on_i32_keeps [] go k = tt
  on_i32_keeps (val.I32 n ∷ ops) go k = k n ops
  on_i32_keeps (val.I64 n ∷ ops) go k = tt

  on_value_keeps : (ops : List Val) (go : Val → List Val → Outcome H)
      → ((v : Val) (ops : List Val) → LeavesStore st (go v ops)) → LeavesStore st (on_value Stuck ops go)
  on_value_keeps [] go k = tt
  on_value_keeps (v ∷ ops) go k = k v ops

  where_some_keeps : {A : Type 0} (o : Option A) (go : A → Outcome H) → ((x : A) → LeavesStore st (go x))
      → LeavesStore st (where_some Stuck o go)
  where_some_keeps None go k = tt
  where_some_keeps (Some x) go k = k x

  cond_keeps : (test : Bool) (o p : Outcome H) → LeavesStore st o → LeavesStore st p
      → LeavesStore st (cond test o p)
  cond_keeps true o p h k = h
  cond_keeps false o p h k = k

  with_top_keeps : (n : ℕ) (ops : List Val) (go : List Val → List Val → Outcome H)
      → ((vs ops : List Val) → LeavesStore st (go vs ops)) → LeavesStore st (with_top Stuck n ops go)
  with_top_keeps n ops go k =
      cond_keeps (nat_le n (length ops)) (go (take n ops) (drop n ops)) Stuck
      (k (take n ops) (drop n ops)) tt

  settle_keeps : (f : Effect) (b : ℕ) → LeavesStore st (outcome_of_effect f st b)
  settle_keeps (Does ops ls page) b = tt
  settle_keeps (Traps c) b = refl
  settle_keeps Lacks b = tt

  settle_after_keeps : (units : ℕ) (f : Effect) (b : ℕ) → LeavesStore st (outcome_after_units units f st b)
  settle_after_keeps units (Does ops ls page) b =
      cond_keeps (nat_lt b units) (Spent st) (Falls ops ls (with_page page st) (b - units)) refl tt
  settle_after_keeps units (Traps c) b = refl
  settle_after_keeps units Lacks b = tt

  branch_keeps : (env : Env) (l : ℕ) (ops ls : List Val) (b : ℕ) → LeavesStore st (branch env l ops ls st b)
  branch_keeps env l ops ls b =
      where_some_keeps (slice_get env.labels l)
      (λ n. with_top Stuck n ops (λ vs ops. Branch l vs ls st b)) (λ n.
      with_top_keeps n ops (λ vs ops. Branch l vs ls st b) (λ vs ops. tt))

  answered_keeps : (results : List ValType) (n : Option ℕ) (ops ls : List Val) (after : Store H) (b : ℕ)
      → LeavesStore st (with_result results n ops ls after b)
  answered_keeps [] None ops ls after b = tt
  answered_keeps [] (Some n) ops ls after b = tt
  answered_keeps (type.I32 ∷ []) (Some n) ops ls after b = tt
  answered_keeps (type.I32 ∷ []) None ops ls after b = tt
  answered_keeps results n ops ls after b = tt

pub spent_imports_change_nothing : {H : Type 0} → SpentImportsChangeNothing H
spent_imports_change_nothing {H} out s i ops ls st b =
    let args : List Val = reverse (take (length s.params) ops) in
    let below : List Val = drop (length s.params) ops in
    let weight : ℕ = out.weight st.host i (integers_of args) st.page in
    let c : Called H = out.effect st.host i (integers_of args) st.page in
    let o : Outcome H = with_result s.results c.answer below ls (after_import c st) (b - weight) in
    cond_keeps st (have_types s.params args) (cond (nat_lt b weight) (Spent st) o) Stuck
    (cond_keeps st (nat_lt b weight) (Spent st) o refl
    (answered_keeps st s.results c.answer below ls (after_import c st) (b - weight))) tt

pub faults_change_nothing : {H : Type 0} → FaultsChangeNothing H
faults_change_nothing prog e (op.Call f) labels env ops ls st b h = absurd h
faults_change_nothing prog e (op.CallIndirect t table) labels env ops ls st b h = absurd h
faults_change_nothing prog e (op.Br l) labels env ops ls st b h = branch_keeps st env l ops ls b
faults_change_nothing prog e (op.BrIf l) labels env ops ls st b h = on_i32_keeps st ops _ (λ c ops.
    cond_keeps st (nat_eq c 0) (Falls ops ls st b) (branch env l ops ls st b) tt
    (branch_keeps st env l ops ls b))
faults_change_nothing prog e op.BrTable labels env ops ls st b h = on_i32_keeps st ops _ (λ i ops.
    where_some_keeps st (slice_get labels (min i (length labels - 1))) _
    (λ l. branch_keeps st env l ops ls b))
faults_change_nothing prog e op.Return labels env ops ls st b h =
    with_top_keeps st env.results ops (λ vs ops. Returns vs st b) (λ vs ops. tt)
faults_change_nothing prog e (op.GlobalGet i) labels env ops ls st b h =
    where_some_keeps st (slice_get st.globals i) (λ v. Falls (v ∷ ops) ls st b) (λ v. tt)
faults_change_nothing prog e (op.GlobalSet i) labels env ops ls st b h =
    where_some_keeps st (slice_get st.globals i) _ (λ old. on_value_keeps st ops _ (λ v ops.
    cond_keeps st (same_value_type old v) (Falls ops ls (with_globals (slice_set st.globals i v) st) b) Stuck
    tt tt))
faults_change_nothing prog e (op.Basic MemoryCopy) labels env ops ls st b h =
    settle_after_keeps st (further_units ops) (effect (op.Basic MemoryCopy) ops ls st.page) b
faults_change_nothing prog e (op.Basic MemoryFill) labels env ops ls st b h =
    settle_after_keeps st (further_units ops) (effect (op.Basic MemoryFill) ops ls st.page) b
faults_change_nothing prog e o labels env ops ls st b h = settle_keeps st (effect o ops ls st.page) b
