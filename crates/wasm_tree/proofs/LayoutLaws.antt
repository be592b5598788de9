-- Each body stands where its position says, and the functions are read back from there.
use Rattle.std.proofs.Common.{◌≡◌, ℕ, zero, suc, ◌+◌, ◌<◌, List, [], ◌∷◌, ◌++◌, length, map, take, drop}
use Rattle.std.proofs.Common.{get_or, Some, refl, sym, subst, ◌∙◌, ap, append_assoc, append-nil}
use Rattle.std.proofs.Common.{length-append, arith}
use Rattle.std.specs.Prelude.{slice_get, option_map}
use Rattle.std.proofs.Math.Seq.{drop-append_seam, take-append_seam}
use Rattle.std.proofs.lemmas.List.Elements.{All-tail, All-push}
use Rattle.w4_defs.specs.declared.operation.Op.TheVariants.{End}
use Rattle.w4_defs.specs.Tree.{Mark, Expr, flat_at, flat}
use Rattle.w4_defs.specs.Flattening.{IsProper, read_flat}
use Rattle.w4_defs.specs.Module.{Function}
use Rattle.w4_defs.proofs.ReadBack.{flattening_read_back}
use Rattle.wasm_tree.specs.Shifting.{shifted_mark, within}
use Rattle.wasm_tree.specs.Layout.{Placed, mark_count, laid_from, placed_from, starts_from, placed_function}
use Rattle.wasm_tree.specs.Layout.{functions_of, AreProper, AreLaid, StandsAt}
use Rattle.wasm_tree.proofs.ShiftLaws.{flattening_shifted, all_back, length_flat}

-- where one list stands between two others
part_between : (front xs back : List Mark) (at count : ℕ) → at ≡ length front → count ≡ length xs
    → take count (drop at (front ++ (xs ++ back))) ≡ xs
part_between front xs back at count ea ec =
    ap (λ k. take count (drop k (front ++ (xs ++ back)))) ea
    ∙ ap (λ ys. take count ys) (drop-append_seam front (xs ++ back))
    ∙ ap (λ k. take k (xs ++ back)) ec ∙ take-append_seam xs back

-- a body's tree, from its marks among all
read_within : (start : ℕ) (e : Expr) → IsProper e → read_flat (map (within start) (flat_at End start e)) ≡ e
read_within start e p =
    ap (λ ms. read_flat (map (within start) ms)) (flattening_shifted start e p)
    ∙ ap (λ ms. read_flat ms) (all_back start (flat e))
    ∙ flattening_read_back e p

size_right : (at : ℕ) (f : Function) → mark_count f ≡ length (flat_at End at f.list)
size_right at f = sym (length_flat End at f.list)

one_back : (front back : List Mark) (at : ℕ) → at ≡ length front → (f : Function) → IsProper f.list
    → placed_function (front ++ (flat_at End at f.list ++ back))
    (record { start = at; count = mark_count f; runs = f.runs }) ≡ f
one_back front back at e f p =
    ap (λ ms. record { runs = f.runs; list = read_flat (map (within at) ms) })
    (part_between front (flat_at End at f.list) back at (mark_count f) e (size_right at f))
    ∙ ap (λ x. record { runs = f.runs; list = x }) (read_within at f.list p)

back_from : (front : List Mark) (at : ℕ) → at ≡ length front → (fs : List Function) → AreProper fs
    → functions_of (front ++ laid_from at fs) (placed_from at fs) ≡ fs
back_from front at e [] p = refl
back_from front at e (f ∷ fs) p =
    let here : List Mark = flat_at End at f.list in
    let back : List Mark = laid_from (at + mark_count f) fs in
    let next : at + mark_count f ≡ length (front ++ here) =
    omega (arith, length-append front here, size_right at f) in
    ap (λ g. g ∷ functions_of (front ++ (here ++ back)) (placed_from (at + mark_count f) fs))
    (one_back front back at e f (p 0 f (omega arith)))
    ∙ ap (λ gs. f ∷ gs)
    (ap (λ ms. functions_of ms (placed_from (at + mark_count f) fs))
    (sym (append_assoc front here back)) ∙ back_from (front ++ here) (at + mark_count f) next fs
    (All-tail (λ g. IsProper g.list) f fs p))

pub laid : (ms : List Mark) (ps : List Placed) (h : AreLaid ms ps) → functions_of ms ps ≡ h.0
laid ms ps h = ap (λ xs. functions_of xs ps) h.2 ∙ ap (λ xs. functions_of (laid_from 0 h.0) xs) h.3
    ∙ back_from [] 0 refl h.0 h.1

-- the two lists, by the functions that they show
pub layout_shown : (ms : List Mark) (ps : List Placed) (fs : List Function) → AreLaid ms ps
    → functions_of ms ps ≡ fs
    → AreProper fs × (ms ≡ laid_from 0 fs) × (ps ≡ placed_from 0 fs)
layout_shown ms ps fs h e =
    let same : h.0 ≡ fs = sym (laid ms ps h) ∙ e in (
      subst (λ (gs : List Function). AreProper gs) same h.1,
      h.2 ∙ ap (λ gs. laid_from 0 gs) same,
      h.3
          ∙ ap (λ gs. placed_from 0 gs) same,
    )

pub lays : (ms : List Mark) (ps : List Placed) (fs : List Function) → AreProper fs → ms ≡ laid_from 0 fs
    → ps ≡ placed_from 0 fs → functions_of ms ps ≡ fs
lays ms ps fs p em ep = laid ms ps (fs, p, em, ep)

-- one more body
laid_more : (at : ℕ) (fs : List Function) (f : Function) (start : ℕ) → start ≡ at + length (laid_from at fs)
    → laid_from at (fs ++ f ∷ []) ≡ laid_from at fs ++ flat_at End start f.list
laid_more at [] f start e =
    append-nil (flat_at End at f.list) ∙ ap (λ n. flat_at End n f.list) (omega (arith, e))
laid_more at (g ∷ fs) f start e =
    ap (λ ms. flat_at End at g.list ++ ms)
    (laid_more (at + mark_count g) fs f start
    (omega (
      arith,
      e,
      length-append (flat_at End at g.list) (laid_from (at + mark_count g) fs),
      size_right at g,
    )))
    ∙ sym (append_assoc (flat_at End at g.list) (laid_from (at + mark_count g) fs)
    (flat_at End start f.list))

placed_more : (at : ℕ) (fs : List Function) (f : Function) (start : ℕ) → start ≡ at + length (laid_from at fs)
    → placed_from at (fs ++ f ∷ []) ≡ placed_from at fs
    ++ record { start = start; count = mark_count f; runs = f.runs } ∷ []
placed_more at [] f start e = ap (λ n. record { start = n; count = mark_count f; runs = f.runs } ∷ [])
    (omega (arith, e))
placed_more at (g ∷ fs) f start e =
    ap (λ ps. record { start = at; count = mark_count g; runs = g.runs } ∷ ps)
    (placed_more (at + mark_count g) fs f start
    (omega (
      arith,
      e,
      length-append (flat_at End at g.list) (laid_from (at + mark_count g) fs),
      size_right at g,
    )))

pub one_more_laid : (ms ms' : List Mark) (ps ps' : List Placed) (fs : List Function) (f : Function)
    (start count : ℕ)
    → AreProper fs × (ms ≡ laid_from 0 fs) × (ps ≡ placed_from 0 fs) → IsProper f.list
    → start ≡ length ms → count ≡ length (flat f.list)
    → ms' ≡ ms ++ map (shifted_mark (length ms)) (flat f.list)
    → ps' ≡ ps ++ record { start = start; count = count; runs = f.runs } ∷ []
    → AreProper (fs ++ f ∷ []) × (ms' ≡ laid_from 0 (fs ++ f ∷ [])) × (ps' ≡ placed_from 0 (fs ++ f ∷ []))
one_more_laid ms ms' ps ps' fs f start count h p es ec em ep =
    let here : start ≡ 0 + length (laid_from 0 fs) = omega (arith, es, ap length h.1) in
    let size : count ≡ mark_count f = ec ∙ sym (size_right 0 f) in (
      All-push (λ g. IsProper g.list) fs f h.0 p,
      em ∙ ap (λ n. ms ++ map (shifted_mark n) (flat f.list)) (sym es)
          ∙ ap (λ xs. ms ++ xs) (sym (flattening_shifted start f.list p))
          ∙ ap (λ xs. xs ++ flat_at End start f.list) h.1 ∙ sym (laid_more 0 fs f start here),
      ep ∙ ap (λ n. ps ++ record { start = start; count = n; runs = f.runs } ∷ []) size
          ∙ ap (λ xs. xs ++ record { start = start; count = mark_count f; runs = f.runs } ∷ []) h.2
          ∙ sym (placed_more 0 fs f start here),
    )

-- what the position of one body says of it
pub record FactsFrom (ms : List Mark) (at : ℕ) (fs : List Function) (func : ℕ) (p : Placed) : Type 0 where
  pub start : slice_get (starts_from at fs) func ≡ Some p.start
  pub stands : StandsAt ms p.start (slice_get fs func)
  pub count : option_map (λ f. length (flat f.list)) (slice_get fs func) ≡ Some p.count
  pub runs : option_map (λ f. f.runs) (slice_get fs func) ≡ Some p.runs

facts_from : (front : List Mark) (at : ℕ) → at ≡ length front → (fs : List Function) (func : ℕ) (d : Placed)
    → func < length fs
    → FactsFrom (front ++ laid_from at fs) at fs func (get_or (placed_from at fs) func d)
facts_from front at e [] func d h = absurd (omega arith)
facts_from front at e (f ∷ fs) zero d h = record {
  start = refl;
  stands = (
    laid_from (at + mark_count f) fs,
    ap (λ k. drop k (front ++ (flat_at End at f.list ++ laid_from (at + mark_count f) fs))) e
        ∙ drop-append_seam front (flat_at End at f.list ++ laid_from (at + mark_count f) fs),
  );
  count = ap Some (sym (size_right 0 f));
  runs = refl;
}
facts_from front at e (f ∷ fs) (suc func) d h =
    let here : List Mark = flat_at End at f.list in
    let back : List Mark = laid_from (at + mark_count f) fs in
    let next : at + mark_count f ≡ length (front ++ here) =
    omega (arith, length-append front here, size_right at f) in
    let p : Placed = get_or (placed_from (at + mark_count f) fs) func d in
    let s : FactsFrom (front ++ (here ++ back)) (at + mark_count f) fs func p =
    subst (λ (ms : List Mark). FactsFrom ms (at + mark_count f) fs func p) (append_assoc front here back)
    (facts_from (front ++ here) (at + mark_count f) next fs func d (omega arith)) in
    record { start = s.start; stands = s.stands; count = s.count; runs = s.runs }

pub facts : (fs : List Function) (func : ℕ) (d : Placed) → func < length fs
    → FactsFrom (laid_from 0 fs) 0 fs func (get_or (placed_from 0 fs) func d)
facts fs func d h = facts_from [] 0 refl fs func d h

pub placed_length : (at : ℕ) (fs : List Function) → length (placed_from at fs) ≡ length fs
placed_length at [] = refl
placed_length at (f ∷ fs) = ap suc (placed_length (at + mark_count f) fs)
