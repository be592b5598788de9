-- A made module is in the profile and valid, whatever the draws.
use Rattle.std.proofs.Common.{◌≡◌, refl, ℕ, zero, suc, ◌+◌, ◌*◌, ◌%◌, ◌<◌, ◌≤◌, inl, inr, false, ◌||◌, List, [], ◌∷◌, ◌++◌, length, map, replicate, Some, None, sym, ◌∙◌, ap, subst, arith, append-nil}
use Rattle.std.specs.Prelude.{slice_get, flat_map, drop, All, option_and_then}
use Rattle.std.specs.List.{range_with_len, list_any, AllByRecursion}
use Rattle.std.proofs.lemmas.Bool.{cases_lt, or_from}
use Rattle.std.proofs.lemmas.List.Elements.{All-from_recursion, All-nil, All-cons, All-append, All-replicate}
use Rattle.std.proofs.lemmas.List.FromFn.{length-map-range_with_len}
use Rattle.w4_defs.specs.declared.value.ValType.{ValType}
use Rattle.w4_defs.specs.declared.value.ValType.TheVariants.{I32}
use Rattle.w4_defs.specs.declared.operation.Op.{Op}
use Rattle.w4_defs.specs.declared.operation.Op.TheVariants.{Call, Basic}
use Rattle.w4_defs.specs.declared.basic.Basic.TheVariants.{I32Add}
use Rattle.w4_defs.specs.declared.refusal.ProfileRefusal.TheVariants.{Floats}
use Rattle.w4_defs.specs.Module.{Signature, Function, WasmModule, nothing_to_nothing}
use Rattle.w4_defs.specs.Imports.{returns_i32}
use Rattle.w4_defs.specs.Lookup.{function_indices, signature_of}
use Rattle.w4_defs.specs.Floats.{is_float_operation, function_has_float, module_has_float}
use Rattle.w4_defs.specs.Profile.{if_so, causes, first_cause, profile_refusal}
use Rattle.w4_defs.specs.Typing.{Context, calls, only_type, OperationHasType, HasType, body_context}
use Rattle.w4_defs.specs.Validity.{AreMemoryLimits, Exists, KeepsModuleRules, IsTypedAt}
use Rattle.w4_defs.proofs.EmptyCartValid.{all_one}
use Rattle.w4_defs.specs.Generator.{seed_after, draw, operations, chosen, small_functions, made_frames, small_function, step_of, byte_at, update_function, made_module, made_input, made_inputs}
use Rattle.w4_defs.specs.MadeLaws.{MadeModulesAreAccepted, DrawsAreSmall, MadeInputsAreCounted}
use Rattle.w4_defs.specs.Tree.{sequence}

-- ---- draws and inputs

pub draws_are_small : DrawsAreSmall
unfolding seed_after
draws_are_small number k = omega arith

pub made_inputs_are_counted : MadeInputsAreCounted
unfolding made_inputs
made_inputs_are_counted number = length-map-range_with_len (made_input number) 0 made_frames

-- ---- the chosen operations

-- no float, and two i32 to an i32
IsChoice : Op → Type 0
IsChoice op =
    (is_float_operation op ≡ false)
    × ((c : Context) → OperationHasType c op [] (I32 ∷ I32 ∷ []) (I32 ∷ []))

all_choices : AllByRecursion IsChoice operations
unfolding IsChoice
all_choices = (
  (refl, λ c. refl),
  (
    (refl, λ c. refl),
    (
      (refl, λ c. refl),
      (
        (refl, λ c. refl),
        (
          (refl, λ c. refl),
          (
            (refl, λ c. refl),
            (
              (refl, λ c. refl),
              ((refl, λ c. refl), ((refl, λ c. refl), ((refl, λ c. refl), ((refl, λ c. refl), tt)))),
            ),
          ),
        ),
      ),
    ),
  ),
)

chosen-choice : (drawn : ℕ) → IsChoice (chosen drawn)
chosen-choice drawn =
    All-from_recursion IsChoice operations all_choices (drawn % 11) (Basic I32Add) (omega arith)

chosen-no_float : (drawn : ℕ) → is_float_operation (chosen drawn) ≡ false
unfolding IsChoice
chosen-no_float drawn = (chosen-choice drawn).0

chosen-type : (drawn : ℕ) (c : Context) → OperationHasType c (chosen drawn) [] (I32 ∷ I32 ∷ []) (I32 ∷ [])
unfolding IsChoice
chosen-type drawn = (chosen-choice drawn).1

-- ---- no float

small-no_float : (number g : ℕ) → function_has_float (small_function number g) ≡ false
unfolding small_function
small-no_float number g =
    let first = draw number (3 * g) in
    let second = draw number (3 * g + 2) in
    or_from (is_float_operation (chosen first)) _ (chosen-no_float first)
    (or_from (is_float_operation (chosen second)) false (chosen-no_float second) refl)

update-no_float : function_has_float update_function ≡ false
unfolding update_function
update-no_float = refl

abbrev bodies_from : ℕ → ℕ → ℕ → List Function
bodies_from number start count = map (small_function number) (range_with_len start count)
    ++ update_function ∷ []

smalls-no_float : (number start count : ℕ)
    → list_any function_has_float (bodies_from number start count) ≡ false
smalls-no_float number start zero = or_from _ false update-no_float refl
smalls-no_float number start (suc count) =
    or_from _ _ (small-no_float number start) (smalls-no_float number (start + 1) count)

made-no_float : (number : ℕ) → module_has_float (made_module number) ≡ false
made-no_float number = ap (λ b. b || false) (smalls-no_float number 0 small_functions)

made-profile : (number : ℕ) → profile_refusal (made_module number) ≡ None
unfolding small_function update_function
made-profile number =
    ap (λ b. first_cause (if_so b Floats ∷ drop 1 (causes (made_module number)))) (made-no_float number)

-- ---- typing

-- `update`, and the small functions
none_to_none : Signature
none_to_none = nothing_to_nothing

two_to_one : Signature
two_to_one = returns_i32 2

small_context : WasmModule → ℕ → ℕ → Context
small_context m number g = body_context m two_to_one (small_function number g)

small-typed : (m : WasmModule) (number g : ℕ) →
    HasType (small_context m number g) (small_function number g).list [] (I32 ∷ [])
unfolding small_function two_to_one small_context
small-typed m number g =
    let c : Context = small_context m number g in (
      I32 ∷ [],
      ([], [], I32 ∷ [], refl, refl, refl),
      (
        I32 ∷ I32 ∷ [],
        (I32 ∷ [], [], I32 ∷ [], refl, refl, refl),
        (
          I32 ∷ [],
          ([], I32 ∷ I32 ∷ [], I32 ∷ [], refl, chosen-type (draw number (3 * g)) c, refl),
          (
            I32 ∷ I32 ∷ [],
            (I32 ∷ [], [], I32 ∷ [], refl, refl, refl),
            (
              I32 ∷ [],
              ([], I32 ∷ I32 ∷ [], I32 ∷ [], refl, chosen-type (draw number (3 * g + 2)) c, refl),
              refl,
            ),
          ),
        ),
      ),
    )

update_context : ℕ → Context
update_context number = body_context (made_module number) none_to_none update_function

-- functions 1 to 64 take two i32 to an i32
replicated : {X : Type 0} (x : X) (rest : List X) (n k : ℕ) → k < n →
    slice_get (replicate n x ++ rest) k ≡ Some x
replicated x rest zero k below = absurd (omega (arith, below))
replicated x rest (suc n) zero below = refl
replicated x rest (suc n) (suc k) below = replicated x rest n k (omega (arith, below))

small-signature : (number g : ℕ) → g < small_functions →
    signature_of (made_module number) (g + 1) ≡ Some two_to_one
unfolding two_to_one
small-signature number g below =
    let next : suc g ≡ g + 1 = omega arith in
    ap (λ k. signature_of (made_module number) k) (sym next)
    ∙ ap (λ found. option_and_then (λ index. slice_get (made_module number).types index) found)
    (replicated 1 (0 ∷ []) small_functions g below)

call-typed : (number g : ℕ) → g < small_functions →
    only_type (update_context number) (Call (g + 1)) ≡ Some (I32 ∷ I32 ∷ [], I32 ∷ [])
unfolding update_context two_to_one
call-typed number g below = ap (λ found. option_and_then calls found) (small-signature number g below)

-- a step takes nothing and leaves nothing, so that what follows it goes on from there
step-typed : (number g : ℕ) (rest : List Op) → g < small_functions →
    HasType (update_context number) (sequence rest) [] [] →
    HasType (update_context number) (sequence (step_of g ++ rest)) [] []
unfolding update_context none_to_none
step-typed number g rest below after = (
  I32 ∷ [],
  ([], [], I32 ∷ [], refl, refl, refl),
  (
    I32 ∷ I32 ∷ [],
    (I32 ∷ [], [], I32 ∷ [], refl, refl, refl),
    (
      I32 ∷ I32 ∷ [],
      (I32 ∷ [], I32 ∷ [], I32 ∷ [], refl, refl, refl),
      (
        I32 ∷ I32 ∷ I32 ∷ [],
        (I32 ∷ I32 ∷ [], [], I32 ∷ [], refl, refl, refl),
        (
          I32 ∷ I32 ∷ I32 ∷ [],
          (I32 ∷ I32 ∷ [], I32 ∷ [], I32 ∷ [], refl, refl, refl),
          (
            I32 ∷ I32 ∷ [],
            (I32 ∷ [], I32 ∷ I32 ∷ [], I32 ∷ [], refl, call-typed number g below, refl),
            ([], ([], I32 ∷ I32 ∷ [], [], refl, refl, refl), after),
          ),
        ),
      ),
    ),
  ),
)

steps-typed : (number start count : ℕ) (rest : List Op) → start + count ≤ small_functions →
    HasType (update_context number) (sequence rest) [] [] →
    HasType (update_context number) (sequence (flat_map step_of (range_with_len start count) ++ rest)) [] []
steps-typed number start zero rest within after = after
steps-typed number start (suc count) rest within after =
    step-typed number start (flat_map step_of (range_with_len (start + 1) count) ++ rest)
    (omega (arith, within))
    (steps-typed number (start + 1) count rest (omega (arith, within)) after)

-- the rectangle
rectangle : List Op
rectangle = flat_map byte_at (6560 ∷ 6564 ∷ 6568 ∷ 6572 ∷ []) ++ Call 0 ∷ []

byte-typed : (number address : ℕ) (ins : List ValType) (rest : List Op) →
    HasType (update_context number) (sequence rest) (ins ++ I32 ∷ []) [] →
    HasType (update_context number) (sequence (byte_at address ++ rest)) ins []
unfolding update_context none_to_none
byte-typed number address ins rest after = (
  ins ++ I32 ∷ [],
  (ins, [], I32 ∷ [], sym (append-nil ins), refl, refl),
  (ins ++ I32 ∷ [], (ins, I32 ∷ [], I32 ∷ [], refl, refl, refl), after),
)

rectangle-typed : (number : ℕ) → HasType (update_context number) (sequence rectangle) [] []
unfolding update_context none_to_none rectangle
rectangle-typed number =
    let last : List Op = Call 0 ∷ [] in
    let fourth : List Op = byte_at 6572 ++ last in
    let third : List Op = byte_at 6568 ++ fourth in
    let second : List Op = byte_at 6564 ++ third in
    byte-typed number 6560 [] second
    (byte-typed number 6564 (I32 ∷ []) third
    (byte-typed number 6568 (I32 ∷ I32 ∷ []) fourth
    (byte-typed number 6572 (I32 ∷ I32 ∷ I32 ∷ []) last
    ([], ([], I32 ∷ I32 ∷ I32 ∷ I32 ∷ [], [], refl, refl, refl), refl))))

update-typed : (number : ℕ) → HasType (update_context number) update_function.list [] []
unfolding update_function rectangle
update-typed number = steps-typed number 0 small_functions rectangle (omega arith) (rectangle-typed number)

-- ---- the bodies by their places

mapped : {X : Type 0} (f : ℕ → X) (rest : List X) (start n k : ℕ) → k < n →
    slice_get (map f (range_with_len start n) ++ rest) k ≡ Some (f (start + k))
mapped f rest start zero k below = absurd (omega (arith, below))
mapped f rest start (suc n) zero below =
    let same : start ≡ start + 0 = omega arith in ap (λ i. Some (f i)) same
mapped f rest start (suc n) (suc k) below =
    let same : start + 1 + k ≡ start + suc k = omega arith in
    mapped f rest (start + 1) n k (omega (arith, below)) ∙ ap (λ i. Some (f i)) same

small-typed_at : (number k : ℕ) → k < small_functions → IsTypedAt (made_module number) k
unfolding small_context two_to_one
small-typed_at number k below =
    let same : 0 + k ≡ k = omega arith in (
      1,
      small_function number k,
      replicated 1 (0 ∷ []) small_functions k below,
      mapped (small_function number) (update_function ∷ []) 0 small_functions k below
          ∙ ap (λ g. Some (small_function number g)) same,
      (two_to_one, refl, small-typed (made_module number) number k),
    )

update-typed_at : (number : ℕ) → IsTypedAt (made_module number) small_functions
unfolding update_context none_to_none
update-typed_at number = (0, update_function, refl, refl, (none_to_none, refl, update-typed number))

typed_at : (number k : ℕ) → k < length (made_module number).bodies → IsTypedAt (made_module number) k
typed_at number k below = elim (cases_lt k small_functions) [
  | inl small ↦ small-typed_at number k small
  | inr last ↦
      let same : small_functions ≡ k = omega (arith, below, last) in
      subst (λ n. IsTypedAt (made_module number) n) same (update-typed_at number)
]

-- ---- module rules

made-functions : (number : ℕ) →
    All (λ index. index < length (made_module number).types) (function_indices (made_module number))
made-functions number =
    let P : ℕ → Type 0 = λ index. index < 3 in
    All-cons P 2 (replicate small_functions 1 ++ 0 ∷ []) (omega arith)
    (All-append P (replicate small_functions 1) (0 ∷ [])
    (All-replicate P small_functions 1 (omega arith))
    (all_one P 0 (omega arith)))

made-rules : (number : ℕ) → KeepsModuleRules (made_module number)
made-rules number = record {
  functions = made-functions number;
  one_table = omega arith;
  one_memory = omega arith;
  table_limits = All-nil _;
  memory_limits = all_one AreMemoryLimits _ (omega arith, omega arith, omega arith);
  globals = All-nil _;
  exports = all_one (λ e. Exists (made_module number) e.kind e.index) _ (omega arith);
  export_names = λ i j d below last. absurd (omega (arith, below, last));
  start = tt;
  elements = All-nil _;
  segments = All-nil _;
}

pub made_modules_are_accepted : MadeModulesAreAccepted
made_modules_are_accepted number = (made-profile number, (made-rules number, typed_at number))
