-- Each typed instruction that holds no list finds what it takes and leaves what it gives.
use Rattle.std.proofs.Common.{◌≡◌, ℕ, zero, suc, ◌<◌, ◌-◌, Bool, true, false, cond, if◌then◌else◌, nat_eq}
use Rattle.std.proofs.Common.{min, List, [], ◌∷◌, ◌++◌, length, reverse, Option, Some, option_map, slice_set}
use Rattle.std.proofs.Common.{refl, sym, ap, ◌∙◌, subst, arith}
use Rattle.std.specs.Prelude.{slice_get}
use Rattle.std.proofs.lemmas.List.{reverse-append, append_assoc}
use Rattle.std.proofs.lemmas.Option.{slice_get-map}
use Rattle.w4_defs.specs.declared.value.Val.{Val}
use Rattle.w4_defs.specs.declared.value.Val.TheVariants as val
use Rattle.w4_defs.specs.declared.value.ValType.{ValType}
use Rattle.w4_defs.specs.declared.value.ValType.TheVariants.{I32}
use Rattle.w4_defs.specs.declared.value.GlobalType.{GlobalType}
use Rattle.w4_defs.specs.declared.operation.Op.TheVariants as op
use Rattle.w4_defs.specs.Lookup.{global_types}
use Rattle.w4_defs.specs.ValueTypes.{type_of, same_value_type}
use Rattle.w4_defs.specs.Typing.{Context, AreLabels}
use Rattle.w4_defs.specs.Outcome.{Store, Falls, Branch, Returns, Stuck}
use Rattle.w4_defs.specs.Control.{on_i32, on_value, where_some, with_top}
use Rattle.w4_defs.specs.Effects.{Effect, Does, Lacks, local_get, local_set, local_tee, select, effect}
use Rattle.w4_defs.specs.Evaluation.{Env, with_globals, branch, branch_if, branch_table, return, get_global}
use Rattle.w4_defs.specs.Evaluation.{set_global}
use Rattle.w4_defs.specs.InstructionSoundness.{Suits}
use Rattle.w4_defs.specs.RunLaws.{types_of}
use Rattle.wasm_valid.proofs.TypedValues.{typed_at, types_set, same_kinds}
use Rattle.wasm_valid.proofs.TypedLists.{OutcomeFits, global_values, on_i32_fits, where_some_fits, cond_fits}
use Rattle.wasm_valid.proofs.TypedLists.{holds_fits, with_top_fits}
use Rattle.wasm_valid.proofs.TypedCalls.{Matches}

-- ---- effects

some_suits : (types locals : List ValType) {A : Type 0} (o : Option A) (x : A) (go : A → Effect) → o ≡ Some x
    → Suits types locals (go x) → Suits types locals (where_some Lacks o go)
some_suits types locals o x go e k = subst (λ o. Suits types locals (where_some Lacks o go)) (sym e) k

holds_suits : (types locals : List ValType) (test : Bool) (f g : Effect) → test ≡ true → Suits types locals f
    → Suits types locals (cond test f g)
holds_suits types locals test f g e h = subst (λ t. Suits types locals (cond t f g)) (sym e) h

on_value_suits : (types locals : List ValType) (t : ValType) (tops : List ValType) (ops : List Val) (go : Val
    → List Val → Effect) → types_of ops ≡ t ∷ tops
    → ((v : Val) (ops : List Val) → type_of v ≡ t → types_of ops ≡ tops → Suits types locals (go v ops))
    → Suits types locals (on_value Lacks ops go)
on_value_suits types locals t tops [] go h k = absurd (cc h)
on_value_suits types locals t tops (v ∷ ops) go h k = k v ops (cc h) (cc h)

on_i32_suits : (types locals tops : List ValType) (ops : List Val) (go : ℕ → List Val → Effect)
    → types_of ops ≡ I32 ∷ tops
    → ((n : ℕ) (ops : List Val) → types_of ops ≡ tops → Suits types locals (go n ops))
    → Suits types locals (on_i32 Lacks ops go)
on_i32_suits types locals tops [] go h k = absurd (cc h)
on_i32_suits types locals tops (val.I32 n ∷ ops) go h k = k n ops (cc h)
on_i32_suits types locals tops (val.I64 n ∷ ops) go h k = absurd (cc h)

-- a value onto operands
pushed : (t : ValType) (tops : List ValType) (v : Val) (ops : List Val) → type_of v ≡ t → types_of ops ≡ tops
    → types_of (v ∷ ops) ≡ t ∷ tops
pushed t tops v ops e h = ap (λ x. x ∷ types_of ops) e ∙ ap (λ ts. t ∷ ts) h

pub local_get_suits : (i : ℕ) (t : ValType) (tops : List ValType) (ops ls : List Val) (page : List ℕ)
    → slice_get (types_of ls) i ≡ Some t → types_of ops ≡ tops
    → Suits (t ∷ tops) (types_of ls) (local_get i ops ls page)
local_get_suits i t tops ops ls page e h =
    let p = typed_at ls i t e in
    some_suits (t ∷ tops) (types_of ls) (slice_get ls i) p.value (λ v. Does (v ∷ ops) ls page) p.found
    (pushed t tops p.value ops p.typed h, refl)

pub local_set_suits : (i : ℕ) (t : ValType) (tops : List ValType) (ops ls : List Val) (page : List ℕ)
    → slice_get (types_of ls) i ≡ Some t → types_of ops ≡ t ∷ tops
    → Suits tops (types_of ls) (local_set i ops ls page)
local_set_suits i t tops ops ls page e h =
    let p = typed_at ls i t e in
    some_suits tops (types_of ls) (slice_get ls i) p.value
    (λ old. on_value Lacks ops
    (λ v ops. if same_value_type old v then Does ops (slice_set ls i v) page else Lacks)) p.found
    (on_value_suits tops (types_of ls) t tops ops _ h (λ v ops typed below.
    holds_suits tops (types_of ls) (same_value_type p.value v) (Does ops (slice_set ls i v) page) Lacks
    (same_kinds p.value v (p.typed ∙ sym typed))
    (below, types_set ls i t v e typed)))

pub local_tee_suits : (i : ℕ) (t : ValType) (tops : List ValType) (ops ls : List Val) (page : List ℕ)
    → slice_get (types_of ls) i ≡ Some t → types_of ops ≡ t ∷ tops
    → Suits (t ∷ tops) (types_of ls) (local_tee i ops ls page)
local_tee_suits i t tops ops ls page e h =
    let p = typed_at ls i t e in
    some_suits (t ∷ tops) (types_of ls) (slice_get ls i) p.value
    (λ old. on_value Lacks ops
    (λ v ops. if same_value_type old v then Does (v ∷ ops) (slice_set ls i v) page else Lacks)) p.found
    (on_value_suits (t ∷ tops) (types_of ls) t tops ops _ h (λ v ops typed below.
    holds_suits (t ∷ tops) (types_of ls) (same_value_type p.value v) (Does (v ∷ ops) (slice_set ls i v) page)
    Lacks
    (same_kinds p.value v (p.typed ∙ sym typed))
    (pushed t tops v ops typed below, types_set ls i t v e typed)))

type_of_chosen : (test : Bool) (v w : Val) (t : ValType) → type_of v ≡ t → type_of w ≡ t
    → type_of (cond test v w) ≡ t
type_of_chosen true v w t h k = h
type_of_chosen false v w t h k = k

pub select_suits : (t : ValType) (tops locals : List ValType) (ops ls : List Val) (page : List ℕ)
    → types_of ops ≡ I32 ∷ t ∷ t ∷ tops → types_of ls ≡ locals
    → Suits (t ∷ tops) locals (select ops ls page)
select_suits t tops locals ops ls page h l =
    on_i32_suits (t ∷ tops) locals (t ∷ t ∷ tops) ops _ h (λ n ops h.
    on_value_suits (t ∷ tops) locals t (t ∷ tops) ops _ h (λ second ops s h.
    on_value_suits (t ∷ tops) locals t tops ops _ h (λ first ops f h.
    holds_suits (t ∷ tops) locals (same_value_type first second)
    (Does ((if nat_eq n 0 then second else first) ∷ ops) ls page) Lacks
    (same_kinds first second (f ∙ sym s)) (
      pushed t tops (if nat_eq n 0 then second else first) ops
          (type_of_chosen (nat_eq n 0) second first t s f) h,
      l,
    ))))

pub drop_suits : (t : ValType) (tops locals : List ValType) (ops ls : List Val) (page : List ℕ)
    → types_of ops ≡ t ∷ tops → types_of ls ≡ locals
    → Suits tops locals (effect op.Drop ops ls page)
drop_suits t tops locals ops ls page h l =
    on_value_suits tops locals t tops ops _ h (λ v ops typed below. (below, l))

-- ---- labels

-- a position in the labels of a br_table
label_at : (c : Context) (label : List ValType) (labels : List ℕ) (i : ℕ) → i < length labels
    → AreLabels c label labels
    → (l : ℕ) × (slice_get labels i ≡ Some l) × (slice_get c.labels l ≡ Some label)
label_at c label [] i h k = absurd (omega arith)
label_at c label (l ∷ labels) zero h k = (l, refl, k.0)
label_at c label (l ∷ labels) (suc i) h k = label_at c label labels i (omega arith) k.1

-- the types that a reverse of two parts begins with
pub topmost_part : (a b tops : List ValType) → reverse (a ++ b) ++ tops ≡ reverse b ++ (reverse a ++ tops)
topmost_part a b tops = ap (λ ts. ts ++ tops) (reverse-append a b) ∙ append_assoc (reverse b) (reverse a) tops

-- the type of a global's value, by its index
global_typed : {H : Type 0} (c : Context) (st : Store H) (i : ℕ) (g : GlobalType)
    → slice_get (global_types c.within) i ≡ Some g → types_of st.globals ≡ global_values c
    → slice_get (types_of st.globals) i ≡ Some g.value
global_typed c st i g e s =
    ap (λ ts. slice_get ts i) s ∙ slice_get-map (λ g. g.value) (global_types c.within) i ∙ ap
    (option_map (λ g. g.value)) e

module _ {H : Type 0} (c : Context) (outs : List ValType) where
  pub branch_fits : (env : Env) (l : ℕ) (label below : List ValType) (ops ls : List Val) (st : Store H)
      (b : ℕ)
      → Matches c env → slice_get c.labels l ≡ Some label
      → types_of ops ≡ reverse label ++ below → types_of ls ≡ c.locals → types_of st.globals ≡ global_values c
      → OutcomeFits c outs (branch env l ops ls st b)
  branch_fits env l label below ops ls st b m e h k g =
      where_some_fits c outs Stuck (slice_get env.labels l) (length label) _
      (ap (λ ns. slice_get ns l) m.labels ∙ slice_get-map length c.labels l ∙ ap (option_map length) e)
      (with_top_fits c outs label below ops (λ vs ops. Branch l vs ls st b) h
      (λ vs ops top rest. (label, e, top, k, g)))

  pub branch_if_fits : (env : Env) (l : ℕ) (label tops : List ValType) (ops ls : List Val) (st : Store H)
      (b : ℕ) → Matches c env → slice_get c.labels l ≡ Some label
      → types_of ops ≡ I32 ∷ (reverse label ++ tops) → reverse outs ≡ reverse label ++ tops
      → types_of ls ≡ c.locals → types_of st.globals ≡ global_values c
      → OutcomeFits c outs (branch_if env l ops ls st b)
  branch_if_fits env l label tops ops ls st b m e h o k g =
      on_i32_fits c outs (reverse label ++ tops) ops _ h (λ n ops below.
      cond_fits c outs (nat_eq n 0) (Falls ops ls st b) (branch env l ops ls st b)
      (λ t. (below ∙ sym o, k, g))
      (λ t. branch_fits env l label tops ops ls st b m e below k g))

  pub branch_table_fits : (env : Env) (labels : List ℕ) (label below : List ValType) (ops ls : List Val)
      (st : Store H) (b : ℕ) → Matches c env → 0 < length labels → AreLabels c label labels
      → types_of ops ≡ I32 ∷ (reverse label ++ below) → types_of ls ≡ c.locals
      → types_of st.globals ≡ global_values c
      → OutcomeFits c outs (branch_table env labels ops ls st b)
  branch_table_fits env labels label below ops ls st b m some are h k g =
      on_i32_fits c outs (reverse label ++ below) ops _ h (λ i ops rest.
      let position = min i (length labels - 1) in
      let p = label_at c label labels position (omega arith) are in
      where_some_fits c outs Stuck (slice_get labels position) p.0 (λ l. branch env l ops ls st b) p.1
      (branch_fits env p.0 label below ops ls st b m p.2 rest k g))

  pub return_fits : (env : Env) (below : List ValType) (ops ls : List Val) (st : Store H) (b : ℕ)
      → Matches c env
      → types_of ops ≡ reverse c.results ++ below → types_of st.globals ≡ global_values c
      → OutcomeFits c outs (return env ops ls st b)
  return_fits env below ops ls st b m h g =
      subst (λ n. OutcomeFits c outs (with_top Stuck n ops (λ vs ops. Returns vs st b))) (sym m.results)
      (with_top_fits c outs c.results below ops (λ vs ops. Returns vs st b) h (λ vs ops top rest. (top, g)))

  pub get_global_fits : (i : ℕ) (g : GlobalType) (tops : List ValType) (ops ls : List Val) (st : Store H)
      (b : ℕ) → slice_get (global_types c.within) i ≡ Some g
      → types_of ops ≡ tops → reverse outs ≡ g.value ∷ tops → types_of ls ≡ c.locals
      → types_of st.globals ≡ global_values c → OutcomeFits c outs (get_global i ops ls st b)
  get_global_fits i g tops ops ls st b e h o k s =
      let p = typed_at st.globals i g.value (global_typed c st i g e s) in
      where_some_fits c outs Stuck (slice_get st.globals i) p.value (λ v. Falls (v ∷ ops) ls st b) p.found
      (pushed g.value tops p.value ops p.typed h ∙ sym o, k, s)

  pub set_global_fits : (i : ℕ) (g : GlobalType) (tops : List ValType) (ops ls : List Val) (st : Store H)
      (b : ℕ) → slice_get (global_types c.within) i ≡ Some g
      → types_of ops ≡ g.value ∷ tops → reverse outs ≡ tops → types_of ls ≡ c.locals
      → types_of st.globals ≡ global_values c → OutcomeFits c outs (set_global i ops ls st b)
  set_global_fits i g tops [] ls st b e h o k s = absurd (cc h)
  set_global_fits i g tops (v ∷ ops) ls st b e h o k s =
      let there = global_typed c st i g e s in
      let p = typed_at st.globals i g.value there in
      let typed : type_of v ≡ g.value = cc h in
      let below : types_of ops ≡ tops = cc h in
      where_some_fits c outs Stuck (slice_get st.globals i) p.value
      (λ old. on_value Stuck (v ∷ ops)
      (λ v ops. if same_value_type old v then Falls ops ls
      (with_globals (slice_set st.globals i v) st) b else Stuck)) p.found
      (holds_fits c outs (same_value_type p.value v)
      (Falls ops ls (with_globals (slice_set st.globals i v) st) b) Stuck
      (same_kinds p.value v (p.typed ∙ sym typed))
      (below ∙ sym o, k, types_set st.globals i g.value v there typed ∙ s))
