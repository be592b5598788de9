-- A typed list fits, one step over another: its first instruction, and the lists that follow from it.
use Rattle.std.proofs.Common.{◌≡◌, ℕ, zero, suc, ◌<◌, Bool, true, false, cond, if◌then◌else◌, nat_eq, nat_lt}
use Rattle.std.proofs.Common.{List, [], ◌∷◌, ◌++◌, length, reverse, Option, Some, None, option_and_then}
use Rattle.std.proofs.Common.{option_to_list, refl, sym, ap, ◌∙◌, subst, arith}
use Rattle.std.specs.Prelude.{slice_get}
use Rattle.std.proofs.lemmas.Bool.{ltb-true}
use Rattle.std.proofs.lemmas.List.{reverse-append, append-nil}
use Rattle.std.proofs.lemmas.Option.{some_pair_parts}
use Rattle.w4_defs.specs.declared.value.Val.{Val}
use Rattle.w4_defs.specs.declared.value.ValType.{ValType}
use Rattle.w4_defs.specs.declared.value.ValType.TheVariants.{I32}
use Rattle.w4_defs.specs.declared.operation.Op.{Op}
use Rattle.w4_defs.specs.declared.operation.Op.TheVariants as op
use Rattle.w4_defs.specs.declared.basic.Basic.{Basic}
use Rattle.w4_defs.specs.declared.basic.Basic.TheVariants.{MemoryCopy, MemoryFill}
use Rattle.w4_defs.specs.Tree.{Expr, done, plain, block, loop, if_then, if_else}
use Rattle.w4_defs.specs.Module.{WasmModule}
use Rattle.w4_defs.specs.Lookup.{signature_of, global_types, tables_of, memories_of}
use Rattle.w4_defs.specs.ValueTypes.{result_arity, result_types}
use Rattle.w4_defs.specs.OperandTypes.{stack_type_if, gives, unary_type, basic_type}
use Rattle.w4_defs.specs.Typing.{Context, with_label, HasType, OperationHasType, branches, calls}
use Rattle.w4_defs.specs.Typing.{calls_indirectly, consumes, sets}
use Rattle.w4_defs.specs.Outcome.{Store, Stuck}
use Rattle.w4_defs.specs.Program.{Prog}
use Rattle.w4_defs.specs.Control.{close}
use Rattle.w4_defs.specs.Effects.{Does, local_get, local_set, local_tee, select, effect}
use Rattle.w4_defs.specs.Evaluation.{Env, Evaluator, inside, further_units, outcome_of_effect, call, simple}
use Rattle.w4_defs.specs.Evaluation.{act, eval}
use Rattle.w4_defs.specs.RunLaws.{types_of}
use Rattle.w4_defs.proofs.PlainSound.{plain_sound}
use Rattle.w4_defs.proofs.Budgets.{Keeps, simple_most, body_most, eval_keeps}
use Rattle.w4_defs.proofs.Unfolding.{eval_unfolds}
use Rattle.wasm_valid.proofs.OperandTypeLaws.{some_and_then}
use Rattle.wasm_valid.proofs.TypedLists.{OutcomeFits, global_values, on_i32_fits, where_some_fits}
use Rattle.wasm_valid.proofs.TypedLists.{and_then_fits, close_fits, step_fits, settle_fits, settle_after_fits}
use Rattle.wasm_valid.proofs.TypedCalls.{Linked, Matches, Evaluates, call_fits, call_indirect_fits}
use Rattle.wasm_valid.proofs.TypedInstructions.{topmost_part, local_get_suits, local_set_suits}
use Rattle.wasm_valid.proofs.TypedInstructions.{local_tee_suits, select_suits, drop_suits, branch_fits}
use Rattle.wasm_valid.proofs.TypedInstructions.{branch_if_fits, branch_table_fits, return_fits}
use Rattle.wasm_valid.proofs.TypedInstructions.{get_global_fits, set_global_fits}

where_true : {A : Type 0} (b : Bool) (o : Option A) (x : A) → cond b o None ≡ Some x
    → (b ≡ true) × (o ≡ Some x)
where_true true o x h = (refl, h)
where_true false o x h = absurd (cc h)

stack_type_parts : (b : Bool) (x y a g : List ValType) → stack_type_if b x y ≡ Some (a, g) → (x ≡ a) × (y ≡ g)
stack_type_parts true x y a g h = some_pair_parts x a y g h
stack_type_parts false x y a g h = absurd (cc h)

-- operands whose topmost types are written otherwise
retyped : (ts a b tops : List ValType) → ts ≡ reverse a ++ tops → b ≡ a → ts ≡ reverse b ++ tops
retyped ts a b tops h e = h ∙ ap (λ x. reverse x ++ tops) (sym e)

inside_matches : (c : Context) (env : Env) (r : Option ValType) → Matches c env
    → Matches (with_label (result_types r) c) (inside (result_arity r) env)
inside_matches c env None m = record { labels = ap (λ ns. 0 ∷ ns) m.labels; results = m.results }
inside_matches c env (Some t) m = record { labels = ap (λ ns. 1 ∷ ns) m.labels; results = m.results }

loop_matches : (c : Context) (env : Env) → Matches c env → Matches (with_label [] c) (inside 0 env)
loop_matches c env m = record { labels = ap (λ ns. 0 ∷ ns) m.labels; results = m.results }

chosen_typed : (test : Bool) (c : Context) (x y : Expr) (ts : List ValType) → HasType c x [] ts
    → HasType c y [] ts → HasType c (cond test x y) [] ts
chosen_typed true c x y ts h k = h
chosen_typed false c x y ts h k = k

module _ {H : Type 0} (c : Context) (prog : Prog H) (e : Evaluator H) (n : ℕ) (fits : Evaluates c.within n e)
    (linked : Linked c.within prog) where
  -- a memory or numeric instruction
  plain_fits : (i : Basic) (a given tops outs : List ValType) (ops ls : List Val) (st : Store H) (b : ℕ)
      → basic_type (nat_lt 0 (length (memories_of c.within))) i ≡ Some (a, given)
      → types_of ops ≡ reverse a ++ tops → reverse outs ≡ reverse given ++ tops → types_of ls ≡ c.locals
      → types_of st.globals ≡ global_values c
      → OutcomeFits c outs (outcome_of_effect (effect (op.Basic i) ops ls st.page) st b)
  plain_fits i a given tops outs ops ls st b t h g l k =
      settle_fits c outs (reverse given ++ tops) (types_of ls) (effect (op.Basic i) ops ls st.page) st b
      ((plain_sound (nat_lt 0 (length (memories_of c.within))) i
      (a, given) t).suits tops ops ls st.page h) g l k

  simple_fits : (o : Op) (labels : List ℕ) (env : Env) (a given tops outs : List ValType)
      (ops ls : List Val) (st : Store H) (b : ℕ) → b < n → Matches c env
      → OperationHasType c o labels a given → types_of ops ≡ reverse a ++ tops
      → reverse outs ≡ reverse given ++ tops → types_of ls ≡ c.locals → types_of st.globals ≡ global_values c
      → OutcomeFits c outs (simple prog e o labels env ops ls st b)
  simple_fits op.Unreachable labels env a given tops outs ops ls st b less m t h g l k = k
  simple_fits op.Nop labels env a given tops outs ops ls st b less m t h g l k =
      let q = some_pair_parts [] a [] given t in
      settle_fits c outs tops (types_of ls) (Does ops ls st.page) st b
      (retyped (types_of ops) a [] tops h q.0, refl) (retyped (reverse outs) given [] tops g q.1) l k
  simple_fits (op.Br label) labels env a given tops outs ops ls st b less m t h g l k =
      let (below, ts, found, parts, i, j) = t in
      branch_fits c outs env label ts (reverse below ++ tops) ops ls st b m found
      (retyped (types_of ops) a (below ++ ts) tops h (sym parts) ∙ topmost_part below ts tops) l k
  simple_fits (op.BrIf label) labels env a given tops outs ops ls st b less m t h g l k =
      let p = some_and_then branches (slice_get c.labels label) (a, given) t in
      let q = some_pair_parts (p.0 ++ I32 ∷ []) a p.0 given p.2 in
      branch_if_fits c outs env label p.0 tops ops ls st b m p.1
      (retyped (types_of ops) a (p.0 ++ I32 ∷ []) tops h q.0 ∙ topmost_part p.0 (I32 ∷ []) tops)
      (retyped (reverse outs) given p.0 tops g q.1) l k
  simple_fits op.BrTable labels env a given tops outs ops ls st b less m t h g l k =
      let (below, ts, some, are, parts, i, j) = t in
      branch_table_fits c outs env labels ts (reverse below ++ tops) ops ls st b m some are
      (retyped (types_of ops) a (below ++ ts ++ I32 ∷ []) tops h (sym parts)
      ∙ topmost_part (below ++ ts) (I32 ∷ []) tops ∙ ap (λ x. I32 ∷ x) (topmost_part below ts tops)) l k
  simple_fits op.Return labels env a given tops outs ops ls st b less m (below, parts, i, j) h g l k =
      return_fits c outs env (reverse below ++ tops) ops ls st b m
      (retyped (types_of ops) a (below ++ c.results) tops h (sym parts) ∙ topmost_part below c.results tops) k
  simple_fits (op.Call func) labels env a given tops outs ops ls st b less m t h g l k =
      let p = some_and_then calls (signature_of c.within func) (a, given) t in
      let q = some_pair_parts p.0.params a p.0.results given p.2 in
      let f = linked.functions func p.0 p.1 in
      where_some_fits c outs Stuck (slice_get prog.functions func) f.named.callee
      (λ callee. call prog e callee env ops ls st b) f.named.found
      (call_fits c outs tops prog e n fits linked p.0 f.named.callee env ops ls st b less f.named.ready
      f.signature
      (retyped (types_of ops) a p.0.params tops h q.0)
      (retyped (reverse outs) given p.0.results tops g q.1) l k)
  simple_fits (op.CallIndirect type table) labels env a given tops outs ops ls st b less m t h g l k =
      let r =
      where_true (nat_lt table (length (tables_of c.within)))
      (option_and_then calls_indirectly (slice_get c.within.types type)) (a, given) t in
      let p = some_and_then calls_indirectly (slice_get c.within.types type) (a, given) r.1 in
      let q = some_pair_parts (p.0.params ++ I32 ∷ []) a p.0.results given p.2 in
      call_indirect_fits c outs tops prog e n fits linked type table p.0 env ops ls st b less
      (ltb-true table (length (tables_of c.within)) r.0) p.1
      (retyped (types_of ops) a (p.0.params ++ I32 ∷ []) tops h q.0 ∙ topmost_part p.0.params (I32 ∷ []) tops)
      (retyped (reverse outs) given p.0.results tops g q.1) l k
  simple_fits op.Drop labels env a given tops outs ops ls st b less m (ts, i, one, none) h g l k =
      settle_fits c outs tops (types_of ls) (effect op.Drop ops ls st.page) st b
      (drop_suits ts tops (types_of ls) ops ls st.page
      (retyped (types_of ops) a (ts ∷ []) tops h (sym one)) refl)
      (retyped (reverse outs) given [] tops g (sym none)) l k
  simple_fits op.Select labels env a given tops outs ops ls st b less m (ts, i, three, one) h g l k =
      settle_fits c outs (ts ∷ tops) (types_of ls) (select ops ls st.page) st b
      (select_suits ts tops (types_of ls) ops ls st.page
      (retyped (types_of ops) a (ts ∷ ts ∷ I32 ∷ []) tops h (sym three)) refl)
      (retyped (reverse outs) given (ts ∷ []) tops g (sym one)) l k
  simple_fits (op.LocalGet index) labels env a given tops outs ops ls st b less m t h g l k =
      let p = some_and_then gives (slice_get c.locals index) (a, given) t in
      let q = some_pair_parts [] a (p.0 ∷ []) given p.2 in
      settle_fits c outs (p.0 ∷ tops) (types_of ls) (local_get index ops ls st.page) st b
      (local_get_suits index p.0 tops ops ls st.page (ap (λ ts. slice_get ts index) l ∙ p.1)
      (retyped (types_of ops) a [] tops h q.0)) (retyped (reverse outs) given (p.0 ∷ []) tops g q.1) l k
  simple_fits (op.LocalSet index) labels env a given tops outs ops ls st b less m t h g l k =
      let p = some_and_then consumes (slice_get c.locals index) (a, given) t in
      let q = some_pair_parts (p.0 ∷ []) a [] given p.2 in
      settle_fits c outs tops (types_of ls) (local_set index ops ls st.page) st b
      (local_set_suits index p.0 tops ops ls st.page (ap (λ ts. slice_get ts index) l ∙ p.1)
      (retyped (types_of ops) a (p.0 ∷ []) tops h q.0)) (retyped (reverse outs) given [] tops g q.1) l k
  simple_fits (op.LocalTee index) labels env a given tops outs ops ls st b less m t h g l k =
      let p = some_and_then unary_type (slice_get c.locals index) (a, given) t in
      let q = some_pair_parts (p.0 ∷ []) a (p.0 ∷ []) given p.2 in
      settle_fits c outs (p.0 ∷ tops) (types_of ls) (local_tee index ops ls st.page) st b
      (local_tee_suits index p.0 tops ops ls st.page (ap (λ ts. slice_get ts index) l ∙ p.1)
      (retyped (types_of ops) a (p.0 ∷ []) tops h q.0))
      (retyped (reverse outs) given (p.0 ∷ []) tops g q.1) l k
  simple_fits (op.GlobalGet index) labels env a given tops outs ops ls st b less m t h g l k =
      let p = some_and_then (λ x. gives x.value) (slice_get (global_types c.within) index) (a, given) t in
      let q = some_pair_parts [] a (p.0.value ∷ []) given p.2 in
      get_global_fits c outs index p.0 tops ops ls st b p.1 (retyped (types_of ops) a [] tops h q.0)
      (retyped (reverse outs) given (p.0.value ∷ []) tops g q.1) l k
  simple_fits (op.GlobalSet index) labels env a given tops outs ops ls st b less m t h g l k =
      let p = some_and_then sets (slice_get (global_types c.within) index) (a, given) t in
      let q = stack_type_parts p.0.mutable (p.0.value ∷ []) [] a given p.2 in
      set_global_fits c outs index p.0 tops ops ls st b p.1
      (retyped (types_of ops) a (p.0.value ∷ []) tops h q.0) (retyped (reverse outs) given [] tops g q.1) l k
  simple_fits (op.Basic MemoryCopy) labels env a given tops outs ops ls st b less m t h g l k =
      settle_after_fits c outs (further_units ops) (reverse given ++ tops) (types_of ls)
      (effect (op.Basic MemoryCopy) ops ls st.page) st b
      ((plain_sound (nat_lt 0 (length (memories_of c.within))) MemoryCopy
      (a, given) t).suits tops ops ls st.page h) g l k
  simple_fits (op.Basic MemoryFill) labels env a given tops outs ops ls st b less m t h g l k =
      settle_after_fits c outs (further_units ops) (reverse given ++ tops) (types_of ls)
      (effect (op.Basic MemoryFill) ops ls st.page) st b
      ((plain_sound (nat_lt 0 (length (memories_of c.within))) MemoryFill
      (a, given) t).suits tops ops ls st.page h) g l k
  simple_fits (op.Basic i) labels env a given tops outs ops ls st b less m t h g l k =
      plain_fits i a given tops outs ops ls st b t h g l k
  simple_fits o labels env a given tops outs ops ls st b less m t h g l k = absurd (cc t)

  module _ (keeps : Keeps n e) where
    -- a list inside and then the rest
    closed_fits : (r : Option ValType) (inner rest : Expr) (env : Env) (ins outs : List ValType)
        (ops ls : List Val) (st : Store H) (b : ℕ) → b < n → Matches c env
        → HasType (with_label (result_types r) c) inner [] (result_types r)
        → HasType c rest (ins ++ result_types r) outs
        → types_of ops ≡ reverse ins → types_of ls ≡ c.locals → types_of st.globals ≡ global_values c
        → OutcomeFits c outs (close (option_to_list r) ops (e rest env)
        (e inner (inside (result_arity r) env) [] ls st b))
    closed_fits r inner rest env ins outs ops ls st b less m t u h l k =
        close_fits c outs r (reverse ins) b ops (e rest env)
        (e inner (inside (result_arity r) env) [] ls st b) h
        (body_most e n b keeps less inner (inside (result_arity r) env) [] ls st)
        (fits (with_label (result_types r) c) inner (inside (result_arity r) env) []
        (result_types r) [] ls st b less refl (inside_matches c env r m) t refl l k)
        (λ ops ls st r' small h l k. fits c rest env (ins ++ result_types r) outs ops ls st r'
        (omega arith) refl m u (h ∙ sym (reverse-append ins (result_types r))) l k)

    act_fits : (body : Expr) (env : Env) (ins outs : List ValType) (ops ls : List Val) (st : Store H) (b : ℕ)
        → b < suc n → Matches c env → HasType c body ins outs
        → types_of ops ≡ reverse ins → types_of ls ≡ c.locals → types_of st.globals ≡ global_values c
        → OutcomeFits c outs (act prog e body env ops ls st b)
    act_fits done env ins outs ops ls st b less m t h l k = (h ∙ ap reverse t, l, k)
    act_fits (plain i rest) env ins outs ops ls st zero less m t h l k = k
    act_fits (plain i rest) env ins outs ops ls st (suc b) less m (mid, led, t) h l k =
        let small : b < n = omega arith in
        and_then_fits c outs mid b (simple prog e i.0 i.1 env ops ls st b) (e rest env)
        (simple_most prog e n keeps i.0 i.1 env ops ls st b small)
        (simple_fits i.0 i.1 env led.1 led.2 (reverse led.0) mid ops ls st b small m led.4
        (h ∙ ap reverse led.3 ∙ reverse-append led.0 led.1)
        (ap reverse led.5 ∙ reverse-append led.0 led.2) l k)
        (λ ops ls st r lower h l k. fits c rest env mid outs ops ls st r (omega arith) refl m t h l k)
    act_fits (block r inner rest) env ins outs ops ls st zero less m t h l k = k
    act_fits (block r inner rest) env ins outs ops ls st (suc b) less m t h l k =
        closed_fits r inner rest env ins outs ops ls st b (omega arith) m t.0 t.1 h l k
    act_fits (loop r inner rest) env ins outs ops ls st zero less m t h l k = k
    act_fits (loop r inner rest) env ins outs ops ls st (suc b) less m t h l k =
        let small : b < n = omega arith in
        step_fits c outs r (reverse ins) b ops (e rest env)
        (λ ls st b. e (loop r inner rest) env ops ls st (suc b)) (e inner (inside 0 env) [] ls st b) h
        (keeps inner (inside 0 env) [] ls st b small)
        (fits (with_label [] c) inner (inside 0 env) [] (result_types r) [] ls st b small refl
        (loop_matches c env m) t.0 refl l k)
        (λ ops ls st r' lower h l k. fits c rest env (ins ++ result_types r) outs ops ls st r'
        (omega arith) refl m t.1 (h ∙ sym (reverse-append ins (result_types r))) l k)
        (λ ls st r' lower l k. fits c (loop r inner rest) env ins outs ops ls st (suc r')
        (omega arith) refl m t h l k)
    act_fits (if_then r taken rest) env ins outs ops ls st zero less m t h l k = k
    act_fits (if_then None taken rest) env ins outs ops ls st (suc b) less m (none, ts, parts, t, u) h l k =
        on_i32_fits c outs (reverse ts) ops _ (h ∙ ap reverse parts ∙ reverse-append ts (I32 ∷ []))
        (λ test ops h.
        closed_fits None (if nat_eq test 0 then done else taken) rest env ts outs ops ls st b (omega arith) m
        (chosen_typed (nat_eq test 0) (with_label [] c) done taken [] refl t)
        (subst (λ x. HasType c rest x outs) (sym (append-nil ts)) u) h l k)
    act_fits (if_then (Some type) taken rest) env ins outs ops ls st (suc b) less m t h l k = absurd (cc t.0)
    act_fits (if_else r taken other rest) env ins outs ops ls st zero less m t h l k = k
    act_fits (if_else r taken other rest) env ins outs ops ls st (suc b) less m (ts, parts, t, u, v) h l k =
        on_i32_fits c outs (reverse ts) ops _ (h ∙ ap reverse parts ∙ reverse-append ts (I32 ∷ []))
        (λ test ops h.
        closed_fits r (if nat_eq test 0 then other else taken) rest env ts outs ops ls st b (omega arith) m
        (chosen_typed (nat_eq test 0) (with_label (result_types r) c) other taken (result_types r) u t) v
        h l k)

pub eval_fits : {H : Type 0} (m : WasmModule) (prog : Prog H) → Linked m prog → (n : ℕ)
    → Evaluates m n (eval prog)
eval_fits m prog linked zero c body env ins outs ops ls st b less within same t h l k = absurd (omega arith)
eval_fits m prog linked (suc n) c body env ins outs ops ls st b less within same t h l k =
    subst (OutcomeFits c outs) (sym (eval_unfolds prog body env ops ls st b))
    (act_fits c prog (eval prog) n
    (subst (λ x. Evaluates x n (eval prog)) (sym within) (eval_fits m prog linked n))
    (subst (λ x. Linked x prog) (sym within) linked)
    (λ body env ops ls st b small. eval_keeps prog body env ops ls st b)
    body env ins outs ops ls st b less same t h l k)
