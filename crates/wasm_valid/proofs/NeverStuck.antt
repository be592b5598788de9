-- A run of an entry function of an accepted module has a meaning, and leaves globals of their types.
use Rattle.std.proofs.Common.{◌≡◌, ◌≢◌, ℕ, zero, suc, Bool, true, false, cond, nat_le, List, [], ◌∷◌, ◌++◌}
use Rattle.std.proofs.Common.{length, map, reverse, Some, None, refl, sym, ap, ◌∙◌, subst, arith}
use Rattle.w4_defs.specs.declared.value.ValType.{ValType}
use Rattle.w4_defs.specs.declared.value.Cause.TheVariants.{Stack}
use Rattle.w4_defs.specs.declared.console.Import.{Import}
use Rattle.w4_defs.specs.declared.console.Import.TheVariants.{Blit}
use Rattle.w4_defs.specs.Module.{Signature, Function, Global, WasmModule, nothing_to_nothing}
use Rattle.w4_defs.specs.Lookup.{signature_of, global_types, local_types, own_global_types}
use Rattle.w4_defs.specs.ValueTypes.{same_signature}
use Rattle.w4_defs.specs.Imports.{import_type}
use Rattle.w4_defs.specs.Profile.{profile_refusal}
use Rattle.w4_defs.specs.Typing.{Context, body_context}
use Rattle.w4_defs.specs.Validity.{IsValid}
use Rattle.w4_defs.specs.Outcome.{Store, HostFunctions, Outcome, Falls, Branch, Returns, Trap, Spent, Stuck}
use Rattle.w4_defs.specs.Outcome.{Ended, RunDone, RunTrap, RunSpent, RunStuck}
use Rattle.w4_defs.specs.Program.{Callee, own_function, host_function, no_function, zeros, reserve_of, Prog}
use Rattle.w4_defs.specs.Program.{program}
use Rattle.w4_defs.specs.Control.{leave}
use Rattle.w4_defs.specs.Evaluation.{body_env, eval, run_own, ended, enter_own, enter, run_entry}
use Rattle.w4_defs.specs.RunLaws.{types_of}
use Rattle.w4_defs.specs.TypeSoundness.{AnswersByType, HasTypes, NeverStuck, KeepsGlobalTypes}
use Rattle.wasm_valid.proofs.ProfileLaws.{own_globals}
use Rattle.wasm_valid.proofs.TypedValues.{are_of_typed}
use Rattle.wasm_valid.proofs.TypedLists.{OutcomeFits}
use Rattle.wasm_valid.proofs.TypedCalls.{IsReady, HasSignature, Linked, Matches}
use Rattle.wasm_valid.proofs.TypedSteps.{eval_fits}
use Rattle.wasm_valid.proofs.TypedModules.{linked}

-- an end with a meaning, at which the globals have these types
abbrev EndsWithTypes : {H : Type 0} → List ValType → Ended H → Type 0
EndsWithTypes types (RunDone st rest) = types_of st.globals ≡ types
EndsWithTypes types (RunTrap c st) = types_of st.globals ≡ types
EndsWithTypes types (RunSpent st) = types_of st.globals ≡ types
EndsWithTypes types RunStuck = ⊥

ends_typed : {H : Type 0} (types : List ValType) (end : Ended H) → EndsWithTypes types end
    → HasTypes types end
ends_typed types (RunDone st rest) h = h
ends_typed types (RunTrap c st) h = h
ends_typed types (RunSpent st) h = h
ends_typed types RunStuck h = absurd h

cond_ends : {H : Type 0} (types : List ValType) (test : Bool) (o p : Ended H) → EndsWithTypes types o
    → EndsWithTypes types p
    → EndsWithTypes types (cond test o p)
cond_ends types true o p h k = h
cond_ends types false o p h k = k

-- the end of an entry function
left_ends : {H : Type 0} (m : WasmModule) (s : Signature) (f : Function) (o : Outcome H)
    → OutcomeFits (body_context m s f) s.results o
    → EndsWithTypes (map (λ g. g.value) (global_types m)) (ended (leave s.results [] [] o))
left_ends m s f (Falls vs ls st r) h =
    subst (λ t. EndsWithTypes (map (λ g. g.value) (global_types m))
    (ended (cond t (Falls (vs ++ []) [] st r) Stuck)))
    (sym (are_of_typed (reverse s.results) vs h.0)) h.2
left_ends m s f (Branch zero vs ls st r) h = h.4
left_ends m s f (Branch (suc l) vs ls st r) h = absurd (cc h.1)
left_ends m s f (Returns vs st r) h = h.1
left_ends m s f (Trap c st) h = h
left_ends m s f (Spent st) h = h
left_ends m s f Stuck h = h

import_takes : (i : Import) → (import_type i).params ≡ [] → ⊥
import_takes Blit h = absurd (cc h)
import_takes _ h = absurd (cc h)

enter_ends : {H : Type 0} (m : WasmModule) (prog : Prog H) → Linked m prog
    → (callee : Callee) (st : Store H) (b : ℕ) → IsReady m callee → HasSignature nothing_to_nothing callee
    → types_of st.globals ≡ map (λ g. g.value) (global_types m)
    → EndsWithTypes (map (λ g. g.value) (global_types m)) (enter prog (Some callee) st b)
enter_ends {H} m prog l (own_function f) st b ready named k =
    let types : List ValType = map (λ g. g.value) (global_types m) in
    let into : Context = body_context m f.signature f.function in
    let same : Matches into (body_env f 1 (reserve_of f)) = record { labels = refl; results = refl } in
    let o : Outcome H =
    eval prog f.function.list (body_env f 1 (reserve_of f)) [] (zeros f.function.runs) st b in
    let locals : types_of (zeros f.function.runs) ≡ f.signature.params ++ local_types f.function.runs =
    ready.1 ∙ ap (λ s. s.params ++ local_types f.function.runs) (sym named) in
    let fits : OutcomeFits into f.signature.results o =
    eval_fits m prog l (suc b) into f.function.list (body_env f 1 (reserve_of f)) [] f.signature.results []
    (zeros f.function.runs) st b
    (omega arith) refl same ready.0 refl locals k in
    subst (λ t. EndsWithTypes types (cond t (enter_own prog f st b) RunStuck))
    (ap (λ s. same_signature s nothing_to_nothing) (sym named))
    (cond_ends types (nat_le (reserve_of f) 1048576) (ended (run_own prog f st b)) (RunTrap Stack st)
    (left_ends m f.signature f.function o fits) k)
enter_ends m prog l (host_function s i) st b ready named k =
    absurd (import_takes i (ap (λ s. s.params) (sym ready ∙ named)))
enter_ends m prog l no_function st b ready named k = absurd ready

values_of : (gs : List Global) → map (λ g. g.value) (map (λ g. g.global) gs) ≡ map (λ g. g.global.value) gs
values_of [] = refl
values_of (g ∷ gs) = ap (λ ts. g.global.value ∷ ts) (values_of gs)

-- only own globals are there
own_values : (m : WasmModule) → profile_refusal m ≡ None
    → map (λ g. g.value) (global_types m) ≡ own_global_types m
own_values m h = ap (map (λ g. g.value)) (own_globals m h) ∙ values_of m.globals

run_ends : {H : Type 0} (m : WasmModule) (imports : HostFunctions H) → profile_refusal m ≡ None → IsValid m
    → length m.functions ≡ length m.bodies → AnswersByType imports
    → (func : ℕ) (st : Store H) (b : ℕ) → signature_of m func ≡ Some nothing_to_nothing
    → types_of st.globals ≡ own_global_types m
    → EndsWithTypes (own_global_types m) (run_entry m imports func st b)
run_ends m imports profile valid as_many_bodies answers func st b signature_is globals =
    let prog = program m imports in
    let l = linked m imports profile valid as_many_bodies answers in
    let p = l.functions func nothing_to_nothing signature_is in
    let same = own_values m profile in
    subst (λ types. EndsWithTypes types (run_entry m imports func st b)) same
    (subst (λ callee. EndsWithTypes (map (λ g. g.value) (global_types m)) (enter prog callee st b))
    (sym p.named.found)
    (enter_ends m prog l p.named.callee st b p.named.ready p.signature (globals ∙ sym same)))

pub never_stuck : {H : Type 0} (m : WasmModule) (imports : HostFunctions H)
    → profile_refusal m ≡ None → IsValid m → length m.functions ≡ length m.bodies → AnswersByType imports
    → (func : ℕ) (st : Store H) (b : ℕ) → signature_of m func ≡ Some nothing_to_nothing
    → types_of st.globals ≡ own_global_types m
    → run_entry m imports func st b ≢ RunStuck
never_stuck m imports profile valid as_many_bodies answers func st b signature_is globals h =
    subst (EndsWithTypes (own_global_types m)) h
    (run_ends m imports profile valid as_many_bodies answers func st b signature_is globals)

pub run_keeps_global_types : {H : Type 0} (m : WasmModule) (imports : HostFunctions H)
    → profile_refusal m ≡ None → IsValid m → length m.functions ≡ length m.bodies → AnswersByType imports
    → (func : ℕ) (st : Store H) (b : ℕ) → signature_of m func ≡ Some nothing_to_nothing
    → types_of st.globals ≡ own_global_types m
    → HasTypes (own_global_types m) (run_entry m imports func st b)
run_keeps_global_types m imports profile valid as_many_bodies answers func st b signature_is globals =
    ends_typed (own_global_types m) (run_entry m imports func st b)
    (run_ends m imports profile valid as_many_bodies answers func st b signature_is globals)

-- the law, said of host functions
pub never_stuck_with : {H : Type 0} (imports : HostFunctions H) → AnswersByType imports → NeverStuck imports
never_stuck_with imports answers m profile valid as_many_bodies =
    never_stuck m imports profile valid as_many_bodies answers

pub globals_keep_types_with : {H : Type 0} (imports : HostFunctions H) → AnswersByType imports
    → KeepsGlobalTypes imports
globals_keep_types_with imports answers m profile valid as_many_bodies =
    run_keeps_global_types m imports profile valid as_many_bodies answers
