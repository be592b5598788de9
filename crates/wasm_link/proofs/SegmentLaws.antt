-- Segments: the single constant of an offset, and the first of two lists.
use Rattle.std.proofs.Common.{◌≡◌, ℕ, ◌+◌, ◌-◌, ◌<◌, List, [], ◌∷◌, ◌++◌, length, map, get_or, cond}
use Rattle.std.proofs.Common.{Bool, true, false, Option, Some, None, refl, sym, ◌∙◌, ap, arith}
use Rattle.std.specs.Prelude.{option_map, nat_lt, position, slice_get}
use Rattle.std.specs.List.{position_from, position_or_len}
use Rattle.w4_defs.specs.declared.operation.Op.{Op}
use Rattle.w4_defs.specs.declared.operation.Op.TheVariants.{End}
use Rattle.w4_defs.specs.Tree.{Expr, done, plain, block, loop, if_then, if_else, span, flat}
use Rattle.w4_defs.specs.Module.{ElementSegment, DataSegment, WasmModule}
use Rattle.w4_defs.specs.Profile.{i32_constant, single_constant, exceeds_size, segments_outside, table_size}
use Rattle.wasm_tree.specs.Pool.{operations_of}
use Rattle.std.proofs.lemmas.List.{length-map}
use Rattle.std.proofs.lemmas.Option.{same_Some}
use Rattle.std.proofs.lemmas.Bool.Decides.{nat_tests}
use Rattle.wasm_tree.proofs.ShiftLaws.{length_flat}
use Rattle.wasm_link.proofs.ListSteps.{first_is}

abbrev Two : Expr → Type 0
Two e = (ops : List Op) (op d : Op) → ops ≡ operations_of (flat e) → 2 ≡ span e + 1 → op ≡ get_or ops 0 d
    → i32_constant op ≡ single_constant e

two : (e : Expr) → Two e
two done ops op d is n first = absurd (omega (arith, n))
two (plain m done) ops op d is n first = ap i32_constant (first ∙ ap (λ xs. get_or xs 0 d) is)
two (plain m (plain m' rest)) ops op d is n first = absurd (omega (arith, n))
two (plain m (block r inner rest)) ops op d is n first = absurd (omega (arith, n))
two (plain m (loop r inner rest)) ops op d is n first = absurd (omega (arith, n))
two (plain m (if_then r taken rest)) ops op d is n first = absurd (omega (arith, n))
two (plain m (if_else r taken other rest)) ops op d is n first = absurd (omega (arith, n))
two (block r inner rest) ops op d is n first = absurd (omega (arith, n))
two (loop r inner rest) ops op d is n first = absurd (omega (arith, n))
two (if_then r taken rest) ops op d is n first = absurd (omega (arith, n))
two (if_else r taken other rest) ops op d is n first = absurd (omega (arith, n))

-- two operations: an instruction and the end
pub two_ops : (e : Expr) (ops : List Op) (op d : Op) → ops ≡ operations_of (flat e) → length ops ≡ 2
    → op ≡ get_or ops 0 d → i32_constant op ≡ single_constant e
two_ops e ops op d is n first =
    two e ops op d is (sym n ∙ ap length is ∙ length-map (flat e) (λ m. m.0) ∙ length_flat End 0 e) first

pub other_ops : (e : Expr) (ops : List Op) → ops ≡ operations_of (flat e) → (length ops ≡ 2 → ⊥)
    → single_constant e ≡ None
other_ops done ops is n = refl
other_ops (plain m done) ops is n = absurd (n (ap length is))
other_ops (plain m (plain m' rest)) ops is n = refl
other_ops (plain m (block r inner rest)) ops is n = refl
other_ops (plain m (loop r inner rest)) ops is n = refl
other_ops (plain m (if_then r taken rest)) ops is n = refl
other_ops (plain m (if_else r taken other rest)) ops is n = refl
other_ops (block r inner rest) ops is n = refl
other_ops (loop r inner rest) ops is n = refl
other_ops (if_then r taken rest) ops is n = refl
other_ops (if_else r taken other rest) ops is n = refl

some_kept : (b : Bool) (i k : ℕ) (p q : Option ℕ) → (p ≡ Some k → q ≡ Some k) → cond b (Some i) p ≡ Some k
    → cond b (Some i) q ≡ Some k
some_kept true i k p q f e = e
some_kept false i k p q f e = f e

none_kept : (b : Bool) (i : ℕ) (p q r : Option ℕ) → (p ≡ None → q ≡ r) → cond b (Some i) p ≡ None
    → cond b (Some i) q ≡ r
none_kept true i p q r f e = absurd cc
none_kept false i p q r f e = f e

mapped : (b : Bool) (i j : ℕ) (p : Option ℕ)
    → option_map (λ k. j + k) (cond b (Some i) p) ≡ cond b (Some (j + i)) (option_map (λ k. j + k) p)
mapped true i j p = refl
mapped false i j p = refl

found_from : {X : Type 0} (f : X → Bool) (i k : ℕ) (xs : List X) (ys : List Bool)
    → position_from f i xs ≡ Some k → position_from (λ b. b) i (map f xs ++ ys) ≡ Some k
found_from f i k [] ys e = absurd cc
found_from f i k (x ∷ xs) ys e = some_kept (f x) i k _ _ (found_from f (i + 1) k xs ys) e

past_from : {X : Type 0} (f : X → Bool) (i : ℕ) (xs : List X) (ys : List Bool) → position_from f i xs ≡ None
    → position_from (λ b. b) i (map f xs ++ ys) ≡ position_from (λ b. b) (i + length xs) ys
past_from f i [] ys e = ap (λ n. position_from (λ b. b) n ys) {x = i} (omega arith)
past_from f i (x ∷ xs) ys e =
    none_kept (f x) i _ _ _
    (λ h. past_from f (i + 1) xs ys h ∙ ap (λ n. position_from (λ b. b) n ys) {x = i + 1 + length xs}
    (omega arith)) e

flags_from : {Y : Type 0} (g : Y → Bool) (i : ℕ) (ys : List Y)
    → position_from (λ b. b) i (map g ys) ≡ position_from g i ys
flags_from g i [] = refl
flags_from g i (y ∷ ys) = ap (cond (g y) (Some i)) (flags_from g (i + 1) ys)

moved_from : {Y : Type 0} (g : Y → Bool) (j i : ℕ) (ys : List Y)
    → position_from g (j + i) ys ≡ option_map (λ k. j + k) (position_from g i ys)
moved_from g j i [] = refl
moved_from g j i (y ∷ ys) =
    ap (λ n. cond (g y) (Some (j + i)) (position_from g n ys)) {x = j + i + 1} (omega arith)
    ∙ ap (cond (g y) (Some (j + i))) (moved_from g j (i + 1) ys)
    ∙ sym (mapped (g y) i j (position_from g (i + 1) ys))

-- the first of two lists of segments, where it is in the first list
pub in_first : {X Y : Type 0} (f : X → Bool) (g : Y → Bool) (xs : List X) (ys : List Y) (k : ℕ)
    → position f xs ≡ Some k → position (λ b. b) (map f xs ++ map g ys) ≡ Some k
in_first f g xs ys k e = first_is (λ b. b) (map f xs ++ map g ys)
    ∙ found_from f 0 k xs (map g ys) (sym (first_is f xs) ∙ e)

-- and where there is none in the first list
pub in_second : {X Y : Type 0} (f : X → Bool) (g : Y → Bool) (xs : List X) (ys : List Y)
    → position f xs ≡ None
    → position (λ b. b) (map f xs ++ map g ys) ≡ option_map (λ k. length xs + k) (position g ys)
in_second f g xs ys e =
    first_is (λ b. b) (map f xs ++ map g ys) ∙ past_from f 0 xs (map g ys) (sym (first_is f xs) ∙ e)
    ∙ flags_from g (0 + length xs) ys ∙ ap (λ n. position_from g n ys) {x = 0 + length xs} (omega arith)
    ∙ moved_from g (length xs) 0 ys
    ∙ ap (option_map (λ k. length xs + k)) (sym (first_is g ys))

decided : (b : Bool) (n i : ℕ) → cond b (Some n) None ≡ Some i → (b ≡ true) × (n ≡ i)
decided true n i e = (refl, same_Some _ _ e)
decided false n i e = absurd cc

pub position_small : {X : Type 0} (p : X → Bool) (xs : List X) (i : ℕ) → position p xs ≡ Some i
    → i < length xs
position_small p xs i e =
    let d = decided (nat_lt (position_or_len p xs) (length xs)) (position_or_len p xs) i e in
    let below : nat_lt i (length xs) ≡ true = ap (λ n. nat_lt n (length xs)) (sym d.1) ∙ d.0 in
    grind (arith, nat_tests)

abbrev pub element_test : ℕ → ElementSegment → Bool
element_test size s = exceeds_size (single_constant s.offset) (length s.functions) size

abbrev pub data_test : DataSegment → Bool
data_test s = exceeds_size (single_constant s.offset) (length s.bytes) 65536

first_element : (m : WasmModule) (es : List ElementSegment) (size : ℕ) (r : Option ℕ) → es ≡ m.elements
    → size ≡ table_size (slice_get m.tables 0) → r ≡ position (element_test size) es
    → r ≡ position (element_test (table_size (slice_get m.tables 0))) m.elements
first_element m es size r ee en er = er ∙ ap (λ n. position (element_test n) es) en
    ∙ ap (position (element_test (table_size (slice_get m.tables 0)))) ee

pub element_outside : (m : WasmModule) (es : List ElementSegment) (size k : ℕ) (r : Option ℕ)
    → es ≡ m.elements → size ≡ table_size (slice_get m.tables 0) → r ≡ position (element_test size) es
    → r ≡ Some k → Some k ≡ position (λ b. b) (segments_outside m)
element_outside m es size k r ee en er some =
    sym (in_first (element_test (table_size (slice_get m.tables 0))) data_test m.elements m.segments k
    (sym (first_element m es size r ee en er) ∙ some))

past_elements : (m : WasmModule) (es : List ElementSegment) (ss : List DataSegment) (size : ℕ)
    (r r' : Option ℕ) → es ≡ m.elements → ss ≡ m.segments → size ≡ table_size (slice_get m.tables 0)
    → r ≡ position (element_test size) es → r ≡ None → r' ≡ position data_test ss
    → option_map (λ k. length es + k) r' ≡ position (λ b. b) (segments_outside m)
past_elements m es ss size r r' ee es' en er none er' =
    ap (option_map (λ k. length es + k)) (er' ∙ ap (position data_test) es')
    ∙ ap (λ xs. option_map (λ k. length xs + k) (position data_test m.segments)) ee
    ∙ sym (in_second (element_test (table_size (slice_get m.tables 0))) data_test m.elements m.segments
    (sym (first_element m es size r ee en er) ∙ none))

pub data_outside : (m : WasmModule) (es : List ElementSegment) (ss : List DataSegment) (size k n : ℕ)
    (r r' : Option ℕ) → es ≡ m.elements → ss ≡ m.segments → size ≡ table_size (slice_get m.tables 0)
    → r ≡ position (element_test size) es → r ≡ None → r' ≡ position data_test ss → r' ≡ Some k
    → n ≡ length es + k → Some n ≡ position (λ b. b) (segments_outside m)
data_outside m es ss size k n r r' ee es' en er none er' some e =
    ap Some e ∙ sym (ap (option_map (λ j. length es + j)) some)
    ∙ past_elements m es ss size r r' ee es' en er none er'

pub none_outside : (m : WasmModule) (es : List ElementSegment) (ss : List DataSegment) (size : ℕ)
    (r r' : Option ℕ) → es ≡ m.elements → ss ≡ m.segments → size ≡ table_size (slice_get m.tables 0)
    → r ≡ position (element_test size) es → r ≡ None → r' ≡ position data_test ss → r' ≡ None
    → None ≡ position (λ b. b) (segments_outside m)
none_outside m es ss size r r' ee es' en er none er' none' =
    sym (ap (option_map (λ j. length es + j)) none') ∙ past_elements m es ss size r r' ee es' en er none er'
