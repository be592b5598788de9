-- A run leaves globals of the types that they had.
use Rattle.std.proofs.Common.{◌≡◌, ℕ, zero, suc, ◌-◌, List, [], ◌∷◌, ◌++◌, Option, Some, None, Bool, true, false, cond, if◌then◌else◌, option_to_list, nat_eq, nat_le, nat_lt, length, min, take, drop, reverse, slice_get, slice_set, refl, ap, sym, ◌∙◌}
use Rattle.w4_defs.specs.declared.value.Val.{Val}
use Rattle.w4_defs.specs.declared.value.Val.TheVariants as val
use Rattle.w4_defs.specs.declared.value.ValType.{ValType}
use Rattle.w4_defs.specs.declared.value.ValType.TheVariants as type
use Rattle.w4_defs.specs.declared.value.Cause.TheVariants as cause
use Rattle.w4_defs.specs.declared.console.Import.{Import}
use Rattle.w4_defs.specs.declared.operation.Op.{Op}
use Rattle.w4_defs.specs.declared.operation.Op.TheVariants as op
use Rattle.w4_defs.specs.declared.basic.Basic.TheVariants.{MemoryCopy, MemoryFill}
use Rattle.w4_defs.specs.Tree.{Expr, done, plain, block, loop, if_then, if_else}
use Rattle.w4_defs.specs.Module.{Signature}
use Rattle.w4_defs.specs.Outcome.{Store, Called, HostFunctions, Outcome, Falls, Branch, Returns, Trap, Spent, Stuck}
use Rattle.w4_defs.specs.Program.{Own, Callee, own_function, host_function, no_function, zeros, Prog}
use Rattle.w4_defs.specs.ValueTypes.{have_types, result_arity, same_value_type, same_signature, integers_of, type_of}
use Rattle.w4_defs.specs.Control.{Next, on_i32, on_value, where_some, with_top, and_then, close, close_loop, leave}
use Rattle.w4_defs.specs.Effects.{Effect, Does, Traps, Lacks, effect}
use Rattle.w4_defs.specs.Evaluation.{Env, Evaluator, inside, allowed, called_env, with_page, with_globals, after_import, outcome_of_effect, outcome_after_units, branch, set_global, with_result, call_import, call_own, call, call_typed, call_table_element, call_indirect, further_units, simple, act, eval_within, eval}
use Rattle.w4_defs.specs.RunLaws.{types_of, LeavesGlobals, GlobalsKeepTypes}

-- a value of the same type in another's place
types_set : (vs : List Val) (i : ℕ) (old v : Val) → slice_get vs i ≡ Some old → same_value_type old v ≡ true
    → types_of (slice_set vs i v) ≡ types_of vs
types_set [] i old v h k = refl
types_set (x ∷ vs) zero (val.I32 m) (val.I32 n) h k =
    ap (λ (x : Val). type_of x ∷ types_of vs) (sym (there h))
  where
    there : Some x ≡ Some (val.I32 m) → x ≡ val.I32 m
    there h = cc h
types_set (x ∷ vs) zero (val.I64 m) (val.I64 n) h k =
    ap (λ (x : Val). type_of x ∷ types_of vs) (sym (there h))
  where
    there : Some x ≡ Some (val.I64 m) → x ≡ val.I64 m
    there h = cc h
types_set (x ∷ vs) zero (val.I32 m) (val.I64 n) h k = absurd (cc k)
types_set (x ∷ vs) zero (val.I64 m) (val.I32 n) h k = absurd (cc k)
types_set (x ∷ vs) (suc i) old v h k = ap (λ ts. type_of x ∷ ts) (types_set vs i old v h k)

module _ {H : Type 0} (types : List ValType) where
  -- what goes on keeps the types
  abbrev Keeps : Next H → Type 0
  Keeps go = (ops ls : List Val) (st : Store H) (b : ℕ) → types_of st.globals ≡ types
      → LeavesGlobals types (go ops ls st b)

  on_i32_has : (ops : List Val) (go : ℕ → List Val → Outcome H)
      → ((n : ℕ) (ops : List Val) → LeavesGlobals types (go n ops))
      → LeavesGlobals types (on_i32 Stuck ops go)
  on_i32_has [] go k = tt
  on_i32_has (val.I32 n ∷ ops) go k = k n ops
  on_i32_has (val.I64 n ∷ ops) go k = tt

  where_some_has : {A : Type 0} (lack : Outcome H) (o : Option A) (go : A → Outcome H)
      → LeavesGlobals types lack → ((x : A) → LeavesGlobals types (go x))
      → LeavesGlobals types (where_some lack o go)
  where_some_has lack None go l k = l
  where_some_has lack (Some x) go l k = k x

  cond_has : (test : Bool) (o p : Outcome H) → LeavesGlobals types o → LeavesGlobals types p
      → LeavesGlobals types (cond test o p)
  cond_has true o p h k = h
  cond_has false o p h k = k

  with_top_has : (n : ℕ) (ops : List Val) (go : List Val → List Val → Outcome H)
      → ((vs ops : List Val) → LeavesGlobals types (go vs ops))
      → LeavesGlobals types (with_top Stuck n ops go)
  with_top_has n ops go k =
      cond_has (nat_le n (length ops)) (go (take n ops) (drop n ops)) Stuck (k (take n ops) (drop n ops))
      tt

  and_then_has : (o : Outcome H) (go : Next H) → LeavesGlobals types o → Keeps go
      → LeavesGlobals types (and_then o go)
  and_then_has (Falls ops ls st r) go h k = k ops ls st r h
  and_then_has (Branch l vs ls st r) go h k = h
  and_then_has (Returns vs st r) go h k = h
  and_then_has (Trap c st) go h k = h
  and_then_has (Spent st) go h k = h
  and_then_has Stuck go h k = tt

  close_has : (result : List ValType) (ops : List Val) (go : Next H) (o : Outcome H) → LeavesGlobals types o
      → Keeps go → LeavesGlobals types (close result ops go o)
  close_has result ops go (Falls vs ls st r) h k =
      cond_has (have_types result vs) (go (vs ++ ops) ls st r) Stuck (k (vs ++ ops) ls st r h) tt
  close_has result ops go (Branch zero vs ls st r) h k = k (vs ++ ops) ls st r h
  close_has result ops go (Branch (suc l) vs ls st r) h k = h
  close_has result ops go (Returns vs st r) h k = h
  close_has result ops go (Trap c st) h k = h
  close_has result ops go (Spent st) h k = h
  close_has result ops go Stuck h k = tt

  step_has : (result : List ValType) (ops : List Val) (go : Next H) (again : List Val → Store H → ℕ
      → Outcome H) (o : Outcome H) → LeavesGlobals types o → Keeps go
      → ((ls : List Val) (st : Store H) (b : ℕ) → types_of st.globals ≡ types
      → LeavesGlobals types (again ls st b)) → LeavesGlobals types (close_loop result ops go again o)
  step_has result ops go again (Falls vs ls st r) h k a =
      cond_has (have_types result vs) (go (vs ++ ops) ls st r) Stuck (k (vs ++ ops) ls st r h) tt
  step_has result ops go again (Branch zero vs ls st r) h k a = a ls st r h
  step_has result ops go again (Branch (suc l) vs ls st r) h k a = h
  step_has result ops go again (Returns vs st r) h k a = h
  step_has result ops go again (Trap c st) h k a = h
  step_has result ops go again (Spent st) h k a = h
  step_has result ops go again Stuck h k a = tt

  leave_has : (results : List ValType) (ops ls : List Val) (o : Outcome H) → LeavesGlobals types o
      → LeavesGlobals types (leave results ops ls o)
  leave_has results ops ls (Falls vs ls' st r) h =
      cond_has (have_types (reverse results) vs) (Falls (vs ++ ops) ls st r) Stuck h tt
  leave_has results ops ls (Branch zero vs ls' st r) h = h
  leave_has results ops ls (Branch (suc l) vs ls' st r) h = tt
  leave_has results ops ls (Returns vs st r) h = h
  leave_has results ops ls (Trap c st) h = h
  leave_has results ops ls (Spent st) h = h
  leave_has results ops ls Stuck h = tt

  settle_has : (f : Effect) (st : Store H) (b : ℕ) → types_of st.globals ≡ types
      → LeavesGlobals types (outcome_of_effect f st b)
  settle_has (Does ops ls page) st b h = h
  settle_has (Traps c) st b h = h
  settle_has Lacks st b h = tt

  settle_after_has : (units : ℕ) (f : Effect) (st : Store H) (b : ℕ) → types_of st.globals ≡ types
      → LeavesGlobals types (outcome_after_units units f st b)
  settle_after_has units (Does ops ls page) st b h =
      cond_has (nat_lt b units) (Spent st) (Falls ops ls (with_page page st) (b - units)) h h
  settle_after_has units (Traps c) st b h = h
  settle_after_has units Lacks st b h = tt

  branch_has : (env : Env) (l : ℕ) → Keeps (branch env l)
  branch_has env l ops ls st b h =
      where_some_has Stuck (slice_get env.labels l)
      (λ n. with_top Stuck n ops (λ vs ops. Branch l vs ls st b)) tt (λ n.
      with_top_has n ops (λ vs ops. Branch l vs ls st b) (λ vs ops. h))

  put_global_has : (i : ℕ) (old : Val) (ops ls : List Val) (st : Store H) (b : ℕ)
      → slice_get st.globals i ≡ Some old → types_of st.globals ≡ types
      → LeavesGlobals types
      (on_value Stuck ops
      (λ v ops. if same_value_type old v then Falls ops ls
      (with_globals (slice_set st.globals i v) st) b else Stuck))
  put_global_has i old [] ls st b e h = tt
  put_global_has i old (v ∷ ops) ls st b e h = go (same_value_type old v) refl
    where
      go : (t : Bool) → same_value_type old v ≡ t
          → LeavesGlobals types
          (cond t (Falls ops ls (with_globals (slice_set st.globals i v) st) b) Stuck)
      go true k = types_set st.globals i old v e k ∙ h
      go false k = tt

  set_global_has : (i : ℕ) → Keeps (set_global i)
  set_global_has i ops ls st b h = go (slice_get st.globals i) refl
    where
      go : (found : Option Val) → slice_get st.globals i ≡ found
          → LeavesGlobals types (where_some Stuck found (λ old. on_value Stuck ops (λ v ops.
          if same_value_type old v then Falls ops ls (with_globals (slice_set st.globals i v) st) b
          else Stuck)))
      go None e = tt
      go (Some old) e = put_global_has i old ops ls st b e h

  answered_has : (results : List ValType) (n : Option ℕ) → Keeps (with_result results n)
  answered_has [] None ops ls st b h = h
  answered_has [] (Some n) ops ls st b h = tt
  answered_has (type.I32 ∷ []) (Some n) ops ls st b h = h
  answered_has (type.I32 ∷ []) None ops ls st b h = tt
  answered_has results n ops ls st b h = tt

  call_import_has : (imports : HostFunctions H) (s : Signature) (i : Import) → Keeps (call_import imports s i)
  call_import_has imports s i ops ls st b h =
      let args : List Val = reverse (take (length s.params) ops) in
      let below : List Val = drop (length s.params) ops in
      let weight : ℕ = imports.weight st.host i (integers_of args) st.page in
      let c : Called H = imports.effect st.host i (integers_of args) st.page in
      let o : Outcome H = with_result s.results c.answer below ls (after_import c st) (b - weight) in
      cond_has (have_types s.params args) (cond (nat_lt b weight) (Spent st) o) Stuck
      (cond_has (nat_lt b weight) (Spent st) o h
      (answered_has s.results c.answer below ls (after_import c st) (b - weight) h)) tt

  module _ (prog : Prog H) (e : Evaluator H) (keeps : (body : Expr) (env : Env) → Keeps (e body env)) where
    call_own_has : (f : Own) (env : Env) → Keeps (call_own e f env)
    call_own_has f env ops ls st b h =
        let args : List Val = reverse (take (length f.signature.params) ops) in
        let o : Outcome H =
        leave f.signature.results (drop (length f.signature.params) ops) ls
        (e f.function.list (called_env f env) [] (args ++ zeros f.function.runs) st b) in
        cond_has (allowed f env) (cond (have_types f.signature.params args) o Stuck) (Trap cause.Stack st)
        (cond_has (have_types f.signature.params args) o Stuck
        (leave_has f.signature.results (drop (length f.signature.params) ops) ls
        (e f.function.list (called_env f env) [] (args ++ zeros f.function.runs) st b)
        (keeps f.function.list (called_env f env) [] (args ++ zeros f.function.runs) st b h)) tt) h

    call_has : (c : Callee) (env : Env) → Keeps (call prog e c env)
    call_has (own_function f) env ops ls st b h = call_own_has f env ops ls st b h
    call_has (host_function s i) env ops ls st b h = call_import_has prog.host_functions s i ops ls st b h
    call_has no_function env ops ls st b h = tt

    call_typed_has : (s : Signature) (c : Callee) (env : Env) → Keeps (call_typed prog e s c env)
    call_typed_has s (own_function f) env ops ls st b h =
        cond_has (same_signature f.signature s) (call_own e f env ops ls st b) (Trap cause.Type_ st)
        (call_own_has f env ops ls st b h) h
    call_typed_has s (host_function t i) env ops ls st b h =
        cond_has (same_signature t s) (call_import prog.host_functions t i ops ls st b)
        (Trap cause.Type_ st) (call_import_has prog.host_functions t i ops ls st b h) h
    call_typed_has s no_function env ops ls st b h = tt

    call_element_has : (s : Signature) (element : Option ℕ) (env : Env)
        → Keeps (call_table_element prog e s element env)
    call_element_has s None env ops ls st b h = h
    call_element_has s (Some f) env ops ls st b h =
        where_some_has Stuck (slice_get prog.functions f) (λ c. call_typed prog e s c env ops ls st b) tt
        (λ c. call_typed_has s c env ops ls st b h)

    call_indirect_has : (t table : ℕ) (env : Env) → Keeps (call_indirect prog e t table env)
    call_indirect_has t zero env ops ls st b h =
        where_some_has Stuck (slice_get prog.types t) _ tt (λ s. on_i32_has ops _ (λ i ops.
        where_some_has (Trap cause.Table st) (slice_get prog.table i)
        (λ element. call_table_element prog e s element env ops ls st b) h
        (λ element. call_element_has s element env ops ls st b h)))
    call_indirect_has t (suc table) env ops ls st b h = tt

    simple_has : (o : Op) (labels : List ℕ) (env : Env) → Keeps (simple prog e o labels env)
    simple_has (op.Br l) labels env ops ls st b h = branch_has env l ops ls st b h
    simple_has (op.BrIf l) labels env ops ls st b h =
        on_i32_has ops _ (λ c ops. cond_has (nat_eq c 0) (Falls ops ls st b) (branch env l ops ls st b) h
        (branch_has env l ops ls st b h))
    simple_has op.BrTable labels env ops ls st b h = on_i32_has ops _ (λ i ops.
        where_some_has Stuck (slice_get labels (min i (length labels - 1))) (λ l. branch env l ops ls st b)
        tt (λ l. branch_has env l ops ls st b h))
    simple_has op.Return labels env ops ls st b h =
        with_top_has env.results ops (λ vs ops. Returns vs st b) (λ vs ops. h)
    simple_has (op.Call f) labels env ops ls st b h =
        where_some_has Stuck (slice_get prog.functions f) (λ c. call prog e c env ops ls st b) tt
        (λ c. call_has c env ops ls st b h)
    simple_has (op.CallIndirect t table) labels env ops ls st b h =
        call_indirect_has t table env ops ls st b h
    simple_has (op.GlobalGet i) labels env ops ls st b h =
        where_some_has Stuck (slice_get st.globals i) (λ v. Falls (v ∷ ops) ls st b) tt (λ v. h)
    simple_has (op.GlobalSet i) labels env ops ls st b h = set_global_has i ops ls st b h
    simple_has (op.Basic MemoryCopy) labels env ops ls st b h =
        settle_after_has (further_units ops) (effect (op.Basic MemoryCopy) ops ls st.page) st b h
    simple_has (op.Basic MemoryFill) labels env ops ls st b h =
        settle_after_has (further_units ops) (effect (op.Basic MemoryFill) ops ls st.page) st b h
    simple_has o labels env ops ls st b h = settle_has (effect o ops ls st.page) st b h

    act_has : (body : Expr) (env : Env) → Keeps (act prog e body env)
    act_has done env ops ls st b h = h
    act_has (plain m rest) env ops ls st zero h = h
    act_has (plain m rest) env ops ls st (suc b) h =
        and_then_has (simple prog e m.0 m.1 env ops ls st b) (e rest env)
        (simple_has m.0 m.1 env ops ls st b h) (keeps rest env)
    act_has (block r inner rest) env ops ls st zero h = h
    act_has (block r inner rest) env ops ls st (suc b) h =
        close_has (option_to_list r) ops (e rest env) (e inner (inside (result_arity r) env) [] ls st b)
        (keeps inner (inside (result_arity r) env) [] ls st b h) (keeps rest env)
    act_has (loop r inner rest) env ops ls st zero h = h
    act_has (loop r inner rest) env ops ls st (suc b) h =
        step_has (option_to_list r) ops (e rest env) (λ ls st b. e (loop r inner rest) env ops ls st (suc b))
        (e inner (inside 0 env) [] ls st b)
        (keeps inner (inside 0 env) [] ls st b h) (keeps rest env)
        (λ ls st b k. keeps (loop r inner rest) env ops ls st (suc b) k)
    act_has (if_then r taken rest) env ops ls st zero h = h
    act_has (if_then r taken rest) env ops ls st (suc b) h = on_i32_has ops _ (λ c ops.
        let chosen : Expr = if nat_eq c 0 then done else taken in
        close_has (option_to_list r) ops (e rest env) (e chosen (inside (result_arity r) env) [] ls st b)
        (keeps chosen (inside (result_arity r) env) [] ls st b h) (keeps rest env))
    act_has (if_else r taken other rest) env ops ls st zero h = h
    act_has (if_else r taken other rest) env ops ls st (suc b) h = on_i32_has ops _ (λ c ops.
        let chosen : Expr = if nat_eq c 0 then other else taken in
        close_has (option_to_list r) ops (e rest env) (e chosen (inside (result_arity r) env) [] ls st b)
        (keeps chosen (inside (result_arity r) env) [] ls st b h) (keeps rest env))

  within_has : (prog : Prog H) (n : ℕ) (body : Expr) (env : Env) → Keeps (eval_within prog n body env)
  unfolding eval_within
  within_has prog zero body env ops ls st b h = tt
  within_has prog (suc n) body env ops ls st b h =
      act_has prog (eval_within prog n) (within_has prog n) body env ops ls st b h

pub globals_keep_types : {H : Type 0} → GlobalsKeepTypes H
unfolding eval
globals_keep_types prog body env ops ls st b =
    within_has (types_of st.globals) prog (suc b) body env ops ls st b refl
