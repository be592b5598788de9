-- Steps of the loops: what is asked of a list is asked of what is left of it.
use Rattle.std.proofs.Common.{◌≡◌, ℕ, zero, suc, ◌+◌, ◌-◌, ◌<◌, ◌≤◌, List, [], ◌∷◌, ◌++◌, length, drop}
use Rattle.std.proofs.Common.{get_or, Bool, true, false, Option, Some, sym, ◌∙◌, ap, arith}
use Rattle.std.specs.Prelude.{◌||◌, nat_lt, slice_get, option_map, filter_map, position, zip}
use Rattle.std.specs.List.{list_any, position_from}
use Rattle.std.proofs.lemmas.List.{at_drop_more, at_drop_all}
use Rattle.std.proofs.lemmas.Iterator.Adapters.{position_from-zero}
use Rattle.std.proofs.lemmas.Option.{same_Some}
use Rattle.w4_defs.specs.declared.module.Locals.{Locals}
use Rattle.w4_defs.specs.Module.{Function, Imported, WasmModule}
use Rattle.w4_defs.specs.Lookup.{local_count, imported_function}
use Rattle.w4_defs.specs.Profile.{has_many_locals, param_count}

pub first_is : {X : Type 0} (p : X → Bool) (xs : List X) → position p xs ≡ position_from p 0 xs
first_is p xs = position_from-zero p xs

-- a test that was made of the item at a place
pub flag_step : {X : Type 0} (p : X → Bool) (xs : List X) (i : ℕ) (r : Bool)
    → option_map p (slice_get xs i) ≡ Some r
    → list_any p (drop i xs) ≡ (r || list_any p (drop (suc i) xs))
flag_step p [] i r e = absurd cc
flag_step p (x ∷ xs) zero r e = ap (λ b. b || list_any p xs) (same_Some _ _ e)
flag_step p (x ∷ xs) (suc i) r e = flag_step p xs i r e

pub flag_found : {X : Type 0} (p : X → Bool) (xs : List X) (i : ℕ) (r : Bool)
    → option_map p (slice_get xs i) ≡ Some r → r ≡ true → list_any p (drop i xs) ≡ list_any p xs
    → true ≡ list_any p xs
flag_found p xs i r e is_met so_far =
    sym (sym so_far ∙ flag_step p xs i r e ∙ ap (λ b. b || list_any p (drop (suc i) xs)) is_met)

pub flag_next : {X : Type 0} (p : X → Bool) (xs : List X) (i next : ℕ) (r : Bool) → next ≡ i + 1
    → option_map p (slice_get xs i) ≡ Some r → r ≡ false → list_any p (drop i xs) ≡ list_any p xs
    → list_any p (drop next xs) ≡ list_any p xs
flag_next p xs i next r en e fails so_far =
    ap (λ n. list_any p (drop n xs)) {y = suc i} (omega (arith, en))
    ∙ sym (flag_step p xs i r e ∙ ap (λ b. b || list_any p (drop (suc i) xs)) fails) ∙ so_far

pub flag_end : {X : Type 0} (p : X → Bool) (xs : List X) (i : ℕ) → length xs ≤ i
    → list_any p (drop i xs) ≡ list_any p xs → false ≡ list_any p xs
flag_end p xs i h so_far = sym (at_drop_all (list_any p) xs i h) ∙ so_far

-- an own function's index beside its body
pub zip_at : (m : WasmModule) (fs : List ℕ) (bs : List Function) (i index : ℕ) (runs : List Locals)
    → slice_get fs i ≡ Some index → option_map (λ f. f.runs) (slice_get bs i) ≡ Some runs
    → option_map (has_many_locals m) (slice_get (zip fs bs) i)
    ≡ Some (nat_lt 1024 (param_count (slice_get m.types index) + local_count runs))
zip_at m [] bs i index runs hf hb = absurd cc
zip_at m (f ∷ fs) [] i index runs hf hb = absurd cc
zip_at m (f ∷ fs) (b ∷ bs) zero index runs hf hb =
    ap (λ k. Some (nat_lt 1024 (param_count (slice_get m.types k) + local_count b.runs))) (same_Some _ _ hf)
    ∙ ap (λ rs. Some (nat_lt 1024 (param_count (slice_get m.types index) + local_count rs)))
    (same_Some _ _ hb)
zip_at m (f ∷ fs) (b ∷ bs) (suc i) index runs hf hb = zip_at m fs bs i index runs hf hb

pub zip_length : (fs : List ℕ) (bs : List Function) → length (zip fs bs) ≤ length fs
zip_length [] bs = omega arith
zip_length (f ∷ fs) [] = omega arith
zip_length (f ∷ fs) (b ∷ bs) = omega (arith, zip_length fs bs)

pub count_step : (runs : List Locals) (i : ℕ) (run : Locals) → i < length runs → run ≡ get_or runs i run
    → local_count (drop i runs) ≡ run.count + local_count (drop (i + 1) runs)
count_step runs i run h e = at_drop_more local_count runs i run h
    ∙ ap (λ r. r.count + local_count (drop (i + 1) runs)) (sym e)

pub count_end : (runs : List Locals) (i : ℕ) → length runs ≤ i → local_count (drop i runs) ≡ 0
count_end runs i h = at_drop_all local_count runs i h

-- the type index of a function, past some of the imports
abbrev pub index_from : List Imported → List ℕ → ℕ → Option ℕ
index_from is fs left = slice_get (filter_map (λ i. imported_function i.kind) is ++ fs) left

pub index_step : (is : List Imported) (i : ℕ) (x : Imported) (fs : List ℕ) (left : ℕ) → i < length is
    → x ≡ get_or is i x
    → index_from (drop i is) fs left ≡ index_from (x ∷ drop (i + 1) is) fs left
index_step is i x fs left h e = at_drop_more (λ xs. index_from xs fs left) is i x h
    ∙ ap (λ y. index_from (y ∷ drop (i + 1) is) fs left) (sym e)

pub index_end : (is : List Imported) (i : ℕ) (fs : List ℕ) (left : ℕ) → length is ≤ i
    → index_from (drop i is) fs left ≡ slice_get fs left
index_end is i fs left h = at_drop_all (λ xs. index_from xs fs left) is i h
