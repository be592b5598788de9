-- Draws that are counted from a later number.
use Rattle.std.proofs.Common.{◌≡◌, ℕ, zero, suc, ◌+◌, ◌*◌, ◌/◌, ◌%◌, ◌^◌, List, [], ◌∷◌, ◌++◌, map, refl, ap}
use Rattle.std.proofs.Common.{sym, ◌∙◌, arith}
use Rattle.std.specs.List.{range_with_len}
use Rattle.std.proofs.lemmas.List.FromFn.{map-range_with_len_more}
use Rattle.w4_defs.specs.declared.console.Input.{Input}
use Rattle.w4_defs.specs.Module.{Function}
use Rattle.w4_defs.specs.Generator.{seed_after, draw, small_functions, small_function, made_frames}
use Rattle.w4_defs.specs.Generator.{made_input, made_inputs}
use Rattle.wasm_write.specs.Draws.{function_of_draws, input_of_draw, inputs_from}

seed_after-add : (n k j : ℕ) → seed_after (seed_after n k) j ≡ seed_after n (k + j)
unfolding seed_after
seed_after-add n k zero =
    let e : k ≡ k + 0 = omega arith in
    ap (seed_after n) e
seed_after-add n k (suc j) =
    let e : suc (k + j) ≡ k + suc j = omega arith in
    ap (λ s. (s * 1664525 + 1013904223) % 2 ^ 32) (seed_after-add n k j) ∙ ap (seed_after n) e

pub later_seed : (n k j l : ℕ) → k + j ≡ l → seed_after (seed_after n k) j ≡ seed_after n l
later_seed n k j l e = seed_after-add n k j ∙ ap (seed_after n) e

pub later_draw : (n k j l : ℕ) → k + j ≡ l → draw (seed_after n k) j ≡ draw n l
later_draw n k j l e =
    let f : k + suc j ≡ suc l = omega arith in
    ap (λ s. s / 65536) (later_seed n k (suc j) (suc l) f)

-- the function of three draws in a row
pub function_of_three : (n : ℕ)
    → function_of_draws (draw n 0) (draw (seed_after n 1) 0) (draw (seed_after (seed_after n 1) 1) 0)
    ≡ small_function n 0
unfolding small_function seed_after
function_of_three n = refl

pub later_function : (n g : ℕ) → small_function (seed_after n (3 * g)) 0 ≡ small_function n g
unfolding small_function
later_function n g =
    let s : ℕ = seed_after n (3 * g) in
    ap (λ d. function_of_draws d (draw s 1) (draw s 2)) (later_draw n (3 * g) 0 (3 * g) (omega arith))
    ∙ ap (λ d. function_of_draws (draw n (3 * g)) d (draw s 2)) (later_draw n (3 * g) 1 (3 * g + 1) refl)
    ∙ ap (λ d. function_of_draws (draw n (3 * g)) (draw n (3 * g + 1)) d)
    (later_draw n (3 * g) 2 (3 * g + 2) refl)

maps_same : {X : Type 0} (f g : ℕ → X) → ((k : ℕ) → f k ≡ g k) → (ks : List ℕ) → map f ks ≡ map g ks
maps_same f g same [] = refl
maps_same f g same (k ∷ ks) = ap (λ x. x ∷ map f ks) (same k) ∙ ap (λ xs. g k ∷ xs) (maps_same f g same ks)

pub later_inputs : (n : ℕ) → inputs_from (seed_after n (3 * small_functions)) ≡ made_inputs n
unfolding made_inputs
later_inputs n =
    maps_same
    (λ k. input_of_draw (draw (seed_after n (3 * small_functions)) k))
    (made_input n)
    (λ k. ap input_of_draw (later_draw n (3 * small_functions) k (3 * small_functions + k) refl))
    (range_with_len 0 made_frames)

-- ---- one turn more

pub three_draws : (n n1 n2 first value second : ℕ) → first ≡ draw n 0 → n1 ≡ seed_after n 1
    → value ≡ draw n1 0 → n2 ≡ seed_after n1 1 → second ≡ draw n2 0
    → function_of_draws first value second ≡ small_function n 0
three_draws n n1 n2 first value second f e v g s =
    let third : second ≡ draw (seed_after (seed_after n 1) 1) 0 =
    s ∙ ap (λ m. draw m 0) (g ∙ ap (λ m. seed_after m 1) e) in
    ap (λ d. function_of_draws d value second) f
    ∙ ap (λ d. function_of_draws (draw n 0) d second) (v ∙ ap (λ m. draw m 0) e)
    ∙ ap (λ d. function_of_draws (draw n 0) (draw (seed_after n 1) 0) d) third
    ∙ function_of_three n

pub three_seeds : (n n1 n2 n3 : ℕ) → n1 ≡ seed_after n 1 → n2 ≡ seed_after n1 1 → n3 ≡ seed_after n2 1
    → n3 ≡ seed_after n 3
three_seeds n n1 n2 n3 e f g =
    g ∙ ap (λ m. seed_after m 1) (f ∙ ap (λ m. seed_after m 1) e)
    ∙ ap (λ m. seed_after m 1) (later_seed n 1 1 2 refl) ∙ later_seed n 2 1 3 refl

pub one_more_input : (n k seed drawn : ℕ) (items more : List Input) → seed ≡ seed_after n k
    → items ≡ map (λ j. input_of_draw (draw n j)) (range_with_len 0 k) → drawn ≡ draw seed 0
    → more ≡ items ++ input_of_draw drawn ∷ []
    → more ≡ map (λ j. input_of_draw (draw n j)) (range_with_len 0 (k + 1))
one_more_input n k seed drawn items more s e d m =
    let f : ℕ → Input = λ j. input_of_draw (draw n j) in
    let same : drawn ≡ draw n k = d ∙ ap (λ z. draw z 0) s ∙ later_draw n k 0 k (omega arith) in
    m ∙ ap (λ xs. xs ++ input_of_draw drawn ∷ []) e
    ∙ ap (λ z. map f (range_with_len 0 k) ++ input_of_draw z ∷ []) same
    ∙ sym (map-range_with_len_more f 0 k k (omega arith))

pub one_more_function : (n k seed : ℕ) (made : Function) (items more : List Function)
    → seed ≡ seed_after n (3 * k)
    → items ≡ map (small_function n) (range_with_len 0 k) → made ≡ small_function seed 0
    → more ≡ items ++ made ∷ []
    → more ≡ map (small_function n) (range_with_len 0 (k + 1))
one_more_function n k seed made items more s e d m =
    let same : made ≡ small_function n k = d ∙ ap (λ z. small_function z 0) s ∙ later_function n k in
    m
    ∙ ap (λ xs. xs ++ made ∷ []) e
    ∙ ap (λ f. map (small_function n) (range_with_len 0 k) ++ f ∷ []) same
    ∙ sym (map-range_with_len_more (small_function n) 0 k k (omega arith))
