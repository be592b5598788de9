-- A call that is refused traps, and leaves the store.
use Rattle.std.specs.Prelude.{◌≡◌, refl, ℕ, List, false}
use Rattle.w4_defs.specs.declared.value.Val.{Val}
use Rattle.w4_defs.specs.declared.value.Cause.TheVariants.{Type_}
use Rattle.w4_defs.specs.Module.{Signature}
use Rattle.w4_defs.specs.ValueTypes.{same_signature}
use Rattle.w4_defs.specs.Outcome.{Store, Trap}
use Rattle.w4_defs.specs.Program.{Callee, own_function, host_function, no_function, Prog}
use Rattle.w4_defs.specs.Evaluation.{Env, Evaluator, call_typed}
use Rattle.w4_defs.specs.RunLaws.{ForbiddenCallLeavesStore, RefusedCallsLeaveStore, IsOfType}

pub forbidden_call_leaves_store : {H : Type 0} → ForbiddenCallLeavesStore H
forbidden_call_leaves_store prog e f env ops ls st b forbidden = rw forbidden refl

other_type : {H : Type 0} (prog : Prog H) (e : Evaluator H) (s other : Signature) (callee : Callee)
    (env : Env) (ops ls : List Val) (st : Store H) (b : ℕ)
    → IsOfType other callee → same_signature other s ≡ false
    → call_typed prog e s callee env ops ls st b ≡ Trap Type_ st
other_type prog e s other (own_function f) env ops ls st b is differs = rw is (rw differs refl)
other_type prog e s other (host_function t i) env ops ls st b is differs = rw is (rw differs refl)
other_type prog e s other no_function env ops ls st b is differs = absurd is

pub refused_calls_leave_store : {H : Type 0} → RefusedCallsLeaveStore H
refused_calls_leave_store prog e t index s env ops ls st b named = (
  λ past. rw named (rw past refl),
  λ empty. rw named (rw empty refl),
  λ f callee other found there is differs. rw named
      (rw found (rw there (other_type prog e s other callee env ops ls st b is differs))),
)
