-- Calls of typed programs: the callee finds its arguments, and its results go onto the caller's operands.
use Rattle.std.proofs.Common.{◌≡◌, ◌⊎◌, inl, inr, ◌↔◌, ℕ, zero, suc, ◌<◌, ◌≤◌, ◌-◌, true, false, nat_lt, List}
use Rattle.std.proofs.Common.{[], ◌∷◌, ◌++◌, length, map, reverse, Option, Some, None, refl, sym, ap, ◌∙◌}
use Rattle.std.proofs.Common.{subst, arith}
use Rattle.std.specs.Prelude.{slice_get, IsSome}
use Rattle.w4_defs.specs.declared.value.Val.{Val}
use Rattle.w4_defs.specs.declared.value.ValType.{ValType}
use Rattle.w4_defs.specs.declared.value.ValType.TheVariants.{I32}
use Rattle.w4_defs.specs.declared.value.Cause.TheVariants as cause
use Rattle.w4_defs.specs.declared.console.Import.{Import}
use Rattle.w4_defs.specs.declared.console.Import.TheVariants.{Diskr, Diskw}
use Rattle.w4_defs.specs.Tree.{Expr}
use Rattle.w4_defs.specs.Module.{Signature, WasmModule}
use Rattle.w4_defs.specs.Lookup.{signature_of, tables_of, local_types}
use Rattle.w4_defs.specs.ValueTypes.{same_signature, integers_of}
use Rattle.w4_defs.specs.Typing.{Context, HasType, body_context}
use Rattle.w4_defs.specs.Imports.{import_type}
use Rattle.w4_defs.specs.Program.{Own, Callee, own_function, host_function, no_function, zeros, Prog}
use Rattle.w4_defs.specs.Outcome.{Store, Called, HostFunctions, Outcome, Spent, Stuck, Trap}
use Rattle.w4_defs.specs.Control.{where_some, with_arguments, leave}
use Rattle.w4_defs.specs.Evaluation.{Env, Evaluator, allowed, called_env, after_import, with_result}
use Rattle.w4_defs.specs.Evaluation.{call_import, call_own, call, call_typed, call_table_element}
use Rattle.w4_defs.specs.Evaluation.{call_indirect}
use Rattle.w4_defs.specs.RunLaws.{types_of}
use Rattle.w4_defs.specs.TypeSoundness.{AnswersByType}
use Rattle.wasm_valid.proofs.TypeLaws.{same_signature_is}
use Rattle.wasm_valid.proofs.TypedValues.{types_joined}
use Rattle.wasm_valid.proofs.TypedLists.{OutcomeFits, global_values, on_i32_fits, where_some_fits, cond_fits}
use Rattle.wasm_valid.proofs.TypedLists.{with_arguments_fits, leave_fits}

-- a callee of a valid module: a typed body, whose locals begin with their types, or an import of its type
abbrev pub IsReady : WasmModule → Callee → Type 0
IsReady m (own_function f) =
    HasType (body_context m f.signature f.function) f.function.list [] f.signature.results
    × (types_of (zeros f.function.runs) ≡ local_types f.function.runs)
IsReady m (host_function s i) = s ≡ import_type i
IsReady m no_function = ⊥

abbrev pub HasSignature : Signature → Callee → Type 0
HasSignature s (own_function f) = f.signature ≡ s
HasSignature s (host_function t i) = t ≡ s
HasSignature s no_function = ⊥

-- a function index names such a callee
pub record Named (m : WasmModule) (functions : List Callee) (func : ℕ) : Type 0 where
  pub callee : Callee
  pub found : slice_get functions func ≡ Some callee
  pub ready : IsReady m callee

pub record NamedAs (m : WasmModule) (functions : List Callee) (func : ℕ) (s : Signature) : Type 0 where
  pub named : Named m functions func
  pub signature : HasSignature s named.callee

-- what a run calls is what the module's typing speaks of
pub record Linked {H : Type 0} (m : WasmModule) (prog : Prog H) : Type 0 where
  pub types : prog.types ≡ m.types
  pub functions : (func : ℕ) (s : Signature) → signature_of m func ≡ Some s → NamedAs m prog.functions func s
  pub table_typed : (i func : ℕ) → slice_get prog.table i ≡ Some (Some func) → Named m prog.functions func
  pub answers : AnswersByType prog.host_functions
  pub one_table : length (tables_of m) ≤ 1

-- the environment has the labels and the results of the context, by number
pub record Matches (c : Context) (env : Env) : Type 0 where
  pub labels : env.labels ≡ map length c.labels
  pub results : env.results ≡ length c.results

-- typed lists of this module fit, with less than n units
abbrev pub Evaluates : {H : Type 0} → WasmModule → ℕ → Evaluator H → Type 0
Evaluates {H} m n e =
    (c : Context) (body : Expr) (env : Env) (ins outs : List ValType) (ops ls : List Val) (st : Store H)
    (b : ℕ)
    → b < n → c.within ≡ m → Matches c env → HasType c body ins outs
    → types_of ops ≡ reverse ins → types_of ls ≡ c.locals → types_of st.globals ≡ global_values c
    → OutcomeFits c outs (e body env ops ls st b)

-- an import has no result, or one i32
import_results : (i : Import) → ((import_type i).results ≡ []) ⊎ ((import_type i).results ≡ I32 ∷ [])
import_results Diskr = inr refl
import_results Diskw = inr refl
import_results _ = inl refl

module _ {H : Type 0} (c : Context) (outs tops : List ValType) where
  answered_fits : (results : List ValType) (n : Option ℕ) (ops ls : List Val) (st : Store H) (b : ℕ)
      → (results ≡ []) ⊎ (results ≡ I32 ∷ []) → IsSome n ↔ (length results ≡ 1)
      → types_of ops ≡ tops → reverse outs ≡ reverse results ++ tops → types_of ls ≡ c.locals
      → types_of st.globals ≡ global_values c → OutcomeFits c outs (with_result results n ops ls st b)
  answered_fits [] None ops ls st b k a h g l s = (h ∙ sym g, l, s)
  answered_fits [] (Some n) ops ls st b k a h g l s = absurd (let e : 0 ≡ 1 = a.0 refl in cc e)
  answered_fits (I32 ∷ []) (Some n) ops ls st b k a h g l s = (ap (λ ts. I32 ∷ ts) h ∙ sym g, l, s)
  answered_fits (I32 ∷ []) None ops ls st b k a h g l s = absurd (let e : false ≡ true = a.1 refl in cc e)
  answered_fits (t ∷ ts) n ops ls st b (inl e) a h g l s = absurd (cc e)
  answered_fits (t ∷ ts) n ops ls st b (inr e) a h g l s = absurd (cc e)

  pub call_import_fits : (imports : HostFunctions H) (s : Signature) (i : Import) (ops ls : List Val)
      (st : Store H)
      (b : ℕ) → AnswersByType imports → s ≡ import_type i
      → types_of ops ≡ reverse s.params ++ tops → reverse outs ≡ reverse s.results ++ tops
      → types_of ls ≡ c.locals → types_of st.globals ≡ global_values c
      → OutcomeFits c outs (call_import imports s i ops ls st b)
  call_import_fits imports s i ops ls st b answers e h g l k =
      with_arguments_fits c outs s.params tops ops _ h (λ args ops typed below.
      let weight : ℕ = imports.weight st.host i (integers_of args) st.page in
      let done : Called H = imports.effect st.host i (integers_of args) st.page in
      cond_fits c outs (nat_lt b weight) (Spent st)
      (with_result s.results done.answer ops ls (after_import done st) (b - weight)) (λ t. k)
      (λ t. answered_fits s.results done.answer ops ls (after_import done st) (b - weight)
      (subst (λ x. (x.results ≡ []) ⊎ (x.results ≡ I32 ∷ [])) (sym e) (import_results i))
      (subst (λ x. IsSome done.answer ↔ (length x.results ≡ 1)) (sym e)
      (answers st.host i (integers_of args) st.page)) below g l k))

  module _ (prog : Prog H) (e : Evaluator H) (n : ℕ) (fits : Evaluates c.within n e)
      (linked : Linked c.within prog) where
    pub call_own_fits : (f : Own) (env : Env) (ops ls : List Val) (st : Store H) (b : ℕ) → b < n
        → IsReady c.within (own_function f)
        → types_of ops ≡ reverse f.signature.params ++ tops
        → reverse outs ≡ reverse f.signature.results ++ tops
        → types_of ls ≡ c.locals → types_of st.globals ≡ global_values c
        → OutcomeFits c outs (call_own e f env ops ls st b)
    call_own_fits f env ops ls st b less ready h g l k =
        let go : List Val → List Val → Outcome H =
        λ args ops. leave f.signature.results ops ls
        (e f.function.list (called_env f env) [] (args ++ zeros f.function.runs) st b) in
        let into : Context = body_context c.within f.signature f.function in
        let same : Matches into (called_env f env) = record { labels = refl; results = refl } in
        cond_fits c outs (allowed f env) (with_arguments Stuck f.signature.params ops go)
        (Trap cause.Stack st)
        (λ t. with_arguments_fits c outs f.signature.params tops ops go h (λ args ops typed below.
        let locals : List Val = args ++ zeros f.function.runs in
        leave_fits c outs f.signature f.function tops ops ls
        (e f.function.list (called_env f env) [] locals st b) below l g
        (fits into f.function.list
        (called_env f env) [] f.signature.results [] locals st b less refl same ready.0 refl
        (types_joined args (zeros f.function.runs) ∙ ap (λ ts. ts ++ types_of (zeros f.function.runs)) typed
        ∙ ap (λ ts. f.signature.params ++ ts) ready.1) k)))
        (λ t. k)

    pub call_fits : (s : Signature) (callee : Callee) (env : Env) (ops ls : List Val) (st : Store H) (b : ℕ)
        → b < n → IsReady c.within callee → HasSignature s callee
        → types_of ops ≡ reverse s.params ++ tops → reverse outs ≡ reverse s.results ++ tops
        → types_of ls ≡ c.locals → types_of st.globals ≡ global_values c
        → OutcomeFits c outs (call prog e callee env ops ls st b)
    call_fits s (own_function f) env ops ls st b less ready named h g l k =
        call_own_fits f env ops ls st b less ready
        (subst (λ x. types_of ops ≡ reverse x.params ++ tops) (sym named) h)
        (subst (λ x. reverse outs ≡ reverse x.results ++ tops) (sym named) g) l k
    call_fits s (host_function t i) env ops ls st b less ready named h g l k =
        call_import_fits prog.host_functions t i ops ls st b linked.answers ready
        (subst (λ x. types_of ops ≡ reverse x.params ++ tops) (sym named) h)
        (subst (λ x. reverse outs ≡ reverse x.results ++ tops) (sym named) g) l k
    call_fits s no_function env ops ls st b less ready named h g l k = absurd ready

    -- a callee of another type traps
    call_typed_fits : (s : Signature) (callee : Callee) (env : Env) (ops ls : List Val) (st : Store H) (b : ℕ)
        → b < n → IsReady c.within callee
        → types_of ops ≡ reverse s.params ++ tops → reverse outs ≡ reverse s.results ++ tops
        → types_of ls ≡ c.locals → types_of st.globals ≡ global_values c
        → OutcomeFits c outs (call_typed prog e s callee env ops ls st b)
    call_typed_fits s (own_function f) env ops ls st b less ready h g l k =
        cond_fits c outs (same_signature f.signature s) (call_own e f env ops ls st b) (Trap cause.Type_ st)
        (λ t. call_fits s (own_function f) env ops ls st b less ready (same_signature_is f.signature s t) h g
        l k)
        (λ t. k)
    call_typed_fits s (host_function t i) env ops ls st b less ready h g l k =
        cond_fits c outs (same_signature t s) (call_import prog.host_functions t i ops ls st b)
        (Trap cause.Type_ st)
        (λ same. call_fits s (host_function t i) env ops ls st b less ready (same_signature_is t s same) h g
        l k)
        (λ t. k)
    call_typed_fits s no_function env ops ls st b less ready h g l k = absurd ready

    call_element_fits : (s : Signature) (i : ℕ) (element : Option ℕ) (env : Env) (ops ls : List Val)
        (st : Store H) (b : ℕ) → b < n → slice_get prog.table i ≡ Some element
        → types_of ops ≡ reverse s.params ++ tops → reverse outs ≡ reverse s.results ++ tops
        → types_of ls ≡ c.locals → types_of st.globals ≡ global_values c
        → OutcomeFits c outs (call_table_element prog e s element env ops ls st b)
    call_element_fits s i None env ops ls st b less found h g l k = k
    call_element_fits s i (Some func) env ops ls st b less found h g l k =
        let p = linked.table_typed i func found in
        where_some_fits c outs Stuck (slice_get prog.functions func) p.callee
        (λ x. call_typed prog e s x env ops ls st b) p.found
        (call_typed_fits s p.callee env ops ls st b less p.ready h g l k)

    -- an index past the table's end traps
    call_index_fits : (s : Signature) (i : ℕ) (found : Option (Option ℕ)) (env : Env) (ops ls : List Val)
        (st : Store H) (b : ℕ) → b < n → slice_get prog.table i ≡ found
        → types_of ops ≡ reverse s.params ++ tops → reverse outs ≡ reverse s.results ++ tops
        → types_of ls ≡ c.locals → types_of st.globals ≡ global_values c
        → OutcomeFits c outs (where_some (Trap cause.Table st) found
        (λ element. call_table_element prog e s element env ops ls st b))
    call_index_fits s i None env ops ls st b less found h g l k = k
    call_index_fits s i (Some element) env ops ls st b less found h g l k =
        call_element_fits s i element env ops ls st b less found h g l k

    pub call_indirect_fits : (t table : ℕ) (s : Signature) (env : Env) (ops ls : List Val) (st : Store H)
        (b : ℕ) → b < n
        → table < length (tables_of c.within) → slice_get c.within.types t ≡ Some s
        → types_of ops ≡ I32 ∷ (reverse s.params ++ tops) → reverse outs ≡ reverse s.results ++ tops
        → types_of ls ≡ c.locals → types_of st.globals ≡ global_values c
        → OutcomeFits c outs (call_indirect prog e t table env ops ls st b)
    call_indirect_fits t zero s env ops ls st b less small found h g l k =
        where_some_fits c outs Stuck (slice_get prog.types t) s _
        (ap (λ types. slice_get types t) linked.types ∙ found)
        (on_i32_fits c outs (reverse s.params ++ tops) ops _ h (λ i ops below.
        call_index_fits s i (slice_get prog.table i) env ops ls st b less refl below g l k))
    call_indirect_fits t (suc table) s env ops ls st b less small found h g l k =
        absurd (omega (arith, linked.one_table))
