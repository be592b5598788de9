-- The mark of a body at a position, among the marks of all bodies.
use Rattle.std.proofs.Common.{◌≡◌, ℕ, zero, suc, ◌+◌, ◌<◌, List, [], ◌∷◌, ◌++◌, ◌≤◌, length, map, take, drop}
use Rattle.std.proofs.Common.{Some, None, refl, sym, ◌∙◌, ap, arith, length-append}
use Rattle.std.specs.Prelude.{slice_get, option_map, All, IfSome, Option}
use Rattle.std.proofs.Math.Seq.{take-append_seam}
use Rattle.std.proofs.lemmas.List.{length-map, length-drop, map-append, drop-map}
use Rattle.std.proofs.lemmas.List.Elements.{All-head, All-tail}
use Rattle.std.proofs.lemmas.Option.{slice_get-map, same_Some}
use Rattle.w4_defs.specs.declared.operation.Op.{Op}
use Rattle.w4_defs.specs.declared.operation.Op.TheVariants.{End}
use Rattle.w4_defs.specs.Tree.{Mark, span, flat_at, flat}
use Rattle.w4_defs.specs.Flattening.{IsProper}
use Rattle.w4_defs.specs.Module.{Function}
use Rattle.wasm_tree.specs.Shifting.{op_after, op_within, shifted_mark}
use Rattle.wasm_tree.specs.Pool.{operations_of}
use Rattle.wasm_tree.specs.Layout.{StandsAt, IsBody, mark_of, size_with}
use Rattle.wasm_tree.proofs.ShiftLaws.{flattening_shifted, op_back, length_flat}

got_first : {X : Type 0} (xs ys : List X) (k : ℕ) → k < length xs → slice_get (xs ++ ys) k ≡ slice_get xs k
got_first [] ys k h = absurd (omega (arith, h))
got_first (x ∷ xs) ys zero h = refl
got_first (x ∷ xs) ys (suc k) h = got_first xs ys k (omega (arith, h))

got_after : {X : Type 0} (n k at : ℕ) (xs : List X) → at ≡ n + k → slice_get (drop n xs) k ≡ slice_get xs at
got_after zero k at xs e = ap (slice_get xs) {x = k} (omega (arith, e))
got_after (suc n) k zero xs e = absurd (omega (arith, e))
got_after (suc n) k (suc at) [] e = refl
got_after (suc n) k (suc at) (x ∷ xs) e = got_after n k at xs (omega (arith, e))

got_within : {X : Type 0} (xs : List X) (k : ℕ) → k < length xs → (x : X) × (slice_get xs k ≡ Some x)
got_within [] k h = absurd (omega (arith, h))
got_within (x ∷ xs) zero h = (x, refl)
got_within (x ∷ xs) (suc k) h = got_within xs k (omega (arith, h))

pub got_all : {X : Type 0} (P : X → Type 0) (xs : List X) (k : ℕ) → All P xs → IfSome (slice_get xs k) P
got_all P [] k h = tt
got_all P (x ∷ xs) zero h = All-head P x xs h
got_all P (x ∷ xs) (suc k) h = got_all P xs k (All-tail P x xs h)

-- a mark of a body, where it stands among all
pub record Stands (ms : List Mark) (start position : ℕ) (found_mark : Option Mark) : Type 0 where
  pub itself : Mark
  pub is : found_mark ≡ Some itself
  pub among : slice_get ms (start + position) ≡ Some (shifted_mark start itself)
  pub within : start + position < length ms

function_stands : (ms : List Mark) (start position : ℕ) (f : Option Function) → StandsAt ms start f
    → IfSome f (λ g. IsProper g.list) → position < size_with f
    → Stands ms start position (mark_of f position)
function_stands ms start position None h p small = absurd h
function_stands ms start position (Some f) h p small =
    let m = got_within (flat f.list) position small in
    let there : drop start ms ≡ map (shifted_mark start) (flat f.list) ++ h.0 =
    h.1 ∙ ap (λ xs. xs ++ h.0) (flattening_shifted start f.list p) in
    let long : length (map (shifted_mark start) (flat f.list)) ≡ length (flat f.list) =
    length-map (flat f.list) (shifted_mark start) in
    record {
      itself = m.0;
      is = m.1;
      among = sym (got_after start position (start + position) ms refl)
          ∙ ap (λ xs. slice_get xs position) there
          ∙ got_first (map (shifted_mark start) (flat f.list)) h.0 position (omega (arith, small, long))
          ∙ slice_get-map (shifted_mark start) (flat f.list) position
          ∙ ap (option_map (shifted_mark start)) m.1;
      within = omega (
        arith,
        small,
        long,
        ap length there,
        length-append (map (shifted_mark start) (flat f.list)) h.0,
        length-drop start ms,
      );
    }

-- the mark of the body with this index
pub stands_in_function : (ms : List Mark) (fs : List Function) (func start position : ℕ)
    → StandsAt ms start (slice_get fs func) → All (λ f. IsProper f.list) fs
    → position < size_with (slice_get fs func)
    → Stands ms start position (mark_of (slice_get fs func) position)
stands_in_function ms fs func start position h p small =
    function_stands ms start position (slice_get fs func) h (got_all (λ f. IsProper f.list) fs func p) small

pub op_found : (ms : List Mark) (start position : ℕ) (found_mark : Option Mark)
    (s : Stands ms start position found_mark)
    (op op' : Op)
    → option_map (λ m. m.0) (slice_get ms (start + position)) ≡ Some op → op' ≡ op_within start op
    → option_map (λ m. m.0) found_mark ≡ Some op'
op_found ms start position found_mark s op op' h e =
    let same : op_after start s.itself.0 ≡ op =
    same_Some _ _ (sym (ap (option_map (λ m. m.0)) s.among) ∙ h) in
    ap (option_map (λ m. m.0)) s.is
    ∙ ap Some (sym (e ∙ ap (op_within start) (sym same) ∙ op_back start s.itself.0))

pub labels_found : (ms : List Mark) (start position : ℕ) (found_mark : Option Mark)
    (s : Stands ms start position found_mark)
    (labels : List ℕ)
    → option_map (λ m. m.1) (slice_get ms (start + position)) ≡ Some labels
    → option_map (λ m. m.1) found_mark ≡ Some labels
labels_found ms start position found_mark s labels h =
    ap (option_map (λ m. m.1)) s.is ∙ sym (ap (option_map (λ m. m.1)) s.among) ∙ h

pub index_small : (fs : List Function) (func position : ℕ) → position < size_with (slice_get fs func)
    → func < length fs
index_small [] func position h = absurd (omega (arith, h))
index_small (f ∷ fs) zero position h = omega arith
index_small (f ∷ fs) (suc func) position h = omega (arith, index_small fs func position h)

-- a body's operations are the part of all that its position names
pub body_part : (ms : List Mark) (ops part : List Op) (start count : ℕ) (f : Option Function)
    → ops ≡ operations_of ms → StandsAt ms start f
    → option_map (λ g. length (flat g.list)) f ≡ Some count → (start + count ≤ length ops)
    × (part ≡ take count (drop start ops) → IsBody f part)
body_part ms ops part start count None e h n = absurd h
body_part ms ops part start count (Some f) e h n =
    let front : List Mark = flat_at End start f.list in
    let some : count ≡ span f.list + 1 = sym (same_Some _ _ n) ∙ length_flat End 0 f.list in
    let size : count ≡ length (operations_of front) = some ∙ sym (length_flat End start f.list)
    ∙ sym (length-map front (λ m. m.0)) in
    let there : drop start ops ≡ operations_of front ++ operations_of h.0 =
    ap (drop start) e ∙ drop-map (λ m. m.0) start ms ∙ ap operations_of h.1
    ∙ map-append (λ m. m.0) front h.0 in (
      omega (
        arith,
        some,
        size,
        ap length there,
        length-append (operations_of front) (operations_of h.0),
        length-drop start ops,
      ),
      λ is. (
        start,
        is ∙ ap (take count) there ∙ ap (λ k. take k (operations_of front ++ operations_of h.0))
            size ∙ take-append_seam (operations_of front) (operations_of h.0),
      ),
    )
