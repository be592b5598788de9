-- The marks of a body with positions that count from the first mark of all bodies: the pass doesn't see
-- positions.
use Rattle.std.proofs.Common.{◌≡◌, ◌↔◌, ℕ, zero, suc, ◌+◌, ◌<◌, ◌≤◌, Bool, true, false, not, cond, List, []}
use Rattle.std.proofs.Common.{◌∷◌, ◌++◌, length, map, drop, get_or, Option, Some, None, option_map}
use Rattle.std.proofs.Common.{option_and_then, refl, sym, ap, ◌∙◌, subst, arith}
use Rattle.std.specs.Prelude.{slice_get, IfSome, IsTrue}
use Rattle.std.proofs.lemmas.List.{length-map}
use Rattle.std.proofs.lemmas.Option.{slice_get-map, slice_get-get_or, get_or_from_slice_get, same_Some}
use Rattle.w4_defs.specs.declared.module.Locals.{Locals}
use Rattle.w4_defs.specs.declared.operation.Op.{Op}
use Rattle.w4_defs.specs.declared.operation.Op.TheVariants as op
use Rattle.w4_defs.specs.Tree.{Mark, mark, flat, flat_at}
use Rattle.w4_defs.specs.Flattening.{IsProper}
use Rattle.w4_defs.specs.Module.{Signature, Function, WasmModule}
use Rattle.w4_defs.specs.Lookup.{local_types}
use Rattle.w4_defs.specs.Floats.{module_has_float}
use Rattle.w4_defs.specs.Typing.{Context, body_context, BodyHasType}
use Rattle.w4_defs.specs.Validity.{IsTypedAt}
use Rattle.wasm_tree.specs.Shifting.{op_after, shifted_mark}
use Rattle.wasm_tree.specs.Pool.{operations_of}
use Rattle.wasm_tree.specs.Layout.{IsBody, mark_of, size_with}
use Rattle.wasm_tree.proofs.ShiftLaws.{flattening_shifted}
use Rattle.wasm_valid.specs.AbstractStackLaw.{body_stands}
use Rattle.wasm_valid.specs.Pass.{OpenBlock, opened, blocks_after}
use Rattle.wasm_valid.specs.ControlStack.{after_mark, is_open}
use Rattle.wasm_valid.specs.BodyMarks.{marks_with}
use Rattle.wasm_valid.proofs.PassLaws.{pass_decides_bodies}
use Rattle.wasm_valid.proofs.BodyLaws.{stack_decides_bodies}

-- the position of an else isn't looked at, but whether there is one
same_at : (c : Context) (start : ℕ) (o : Op) (labels : List ℕ) (p : OpenBlock) (os : List OpenBlock)
    → after_mark c (op_after start o) labels (p ∷ os) ≡ after_mark c o labels (p ∷ os)
same_at c start (op.If r None end) labels p os = refl
same_at c start (op.If r (Some middle) end) labels p os = refl
same_at c start _ labels p os = refl

same_step : (c : Context) (start : ℕ) (o : Op) (labels : List ℕ) (os : List OpenBlock)
    → after_mark c (op_after start o) labels os ≡ after_mark c o labels os
same_step c start o labels [] = refl
same_step c start o labels (p ∷ os) = same_at c start o labels p os

run_more : (c : Context) (m : Mark) (ms : List Mark) (os : List OpenBlock)
    → blocks_after c (m ∷ ms) os ≡ option_and_then (blocks_after c ms) (after_mark c m.0 m.1 os)
run_more c m ms [] = refl
run_more c m ms (o ∷ os) = refl

dropped_at : {A : Type 0} (xs : List A) (k : ℕ) (x : A) → slice_get xs k ≡ Some x
    → drop k xs ≡ x ∷ drop (suc k) xs
dropped_at [] k x h = absurd (cc h)
dropped_at (y ∷ xs) zero x h = ap (λ z. z ∷ xs) (same_Some _ _ h)
dropped_at (y ∷ xs) (suc k) x h = dropped_at xs k x h

shifted : (start : ℕ) (f : Function) (ops : List Op) → IsProper f.list
    → ops ≡ operations_of (flat_at op.End start f.list)
    → ops ≡ operations_of (map (shifted_mark start) (flat f.list))
shifted start f ops p h = h ∙ ap operations_of (flattening_shifted start f.list p)

pub as_many : (o : Option Function) (ops : List Op) → IsBody o ops → IfSome o (λ f. IsProper f.list)
    → length ops ≡ size_with o
as_many None ops h p = absurd h
as_many (Some f) ops h p =
    let marks : List Mark = map (shifted_mark h.0) (flat f.list) in
    ap length (shifted h.0 f ops p h.1) ∙ length-map marks (λ m. m.0)
    ∙ length-map (flat f.list) (shifted_mark h.0)

blocks_from_mark : (c : Context) (start : ℕ) (ms : List Mark) (ops : List Op) (position : ℕ) (d : Op)
    (labels : List ℕ)
    (old : List OpenBlock) → ops ≡ operations_of (map (shifted_mark start) ms) → position < length ms
    → option_map (λ m. m.1) (slice_get ms position) ≡ Some labels
    → blocks_after c (drop position ms) old
    ≡ option_and_then (blocks_after c (drop (position + 1) ms))
    (after_mark c (get_or ops position d) labels old)
blocks_from_mark c start ms ops position d labels old h small hl =
    let m : Mark = get_or ms position (mark d) in
    let there : slice_get ms position ≡ Some m = slice_get-get_or ms position (mark d) small in
    let same : m.1 ≡ labels = same_Some _ _ (sym (ap (option_map (λ x. x.1)) there) ∙ hl) in
    let found : slice_get ops position ≡ Some (op_after start m.0) =
    ap (λ xs. slice_get xs position) h ∙ slice_get-map (λ (x : Mark). x.0) (map (shifted_mark start) ms)
    position
    ∙ ap (option_map (λ x. x.0))
    (slice_get-map (shifted_mark start) ms position ∙ ap (option_map (shifted_mark start)) there) in
    ap (λ xs. blocks_after c xs old) (dropped_at ms position m there)
    ∙ run_more c m (drop (suc position) ms) old
    ∙ ap (λ k. option_and_then (blocks_after c (drop k ms)) (after_mark c m.0 m.1 old)) {x = suc position}
    (omega arith)
    ∙ ap (λ ls. option_and_then (blocks_after c (drop (position + 1) ms)) (after_mark c m.0 ls old)) same
    ∙ ap (option_and_then (blocks_after c (drop (position + 1) ms))) (sym (same_step c start m.0 labels old))
    ∙ ap (λ x. option_and_then (blocks_after c (drop (position + 1) ms)) (after_mark c x labels old))
    (sym (get_or_from_slice_get ops position (op_after start m.0) d found))

-- one more mark
pub mark_next : (c : Context) (o : Option Function) (ops : List Op) (position : ℕ) (d : Op) (labels : List ℕ)
    (old new : List OpenBlock) (went : Bool) → IsBody o ops → IfSome o (λ f. IsProper f.list)
    → position < length ops
    → option_map (λ m. m.1) (mark_of o position) ≡ Some labels
    → after_mark c (get_or ops position d) labels old ≡ cond went (Some new) None
    → blocks_after c (drop position (marks_with o)) old
    ≡ option_and_then (blocks_after c (drop (position + 1) (marks_with o))) (cond went (Some new) None)
mark_next c None ops position d labels old new went h p small hl t = absurd h
mark_next c (Some f) ops position d labels old new went h p small hl t =
    blocks_from_mark c h.0 (flat f.list) ops position d labels old (shifted h.0 f ops p h.1)
    (omega (arith, small, as_many (Some f) ops h p)) hl
    ∙ ap (option_and_then (blocks_after c (drop (position + 1) (flat f.list)))) t

pub mark_stop : (c : Context) (ms rest : List Mark) (now new : List OpenBlock) (went : Bool)
    → blocks_after c ms now ≡ option_and_then (blocks_after c rest) (cond went (Some new) None) → went ≡ false
    → blocks_after c ms now ≡ None
mark_stop c ms rest now new went h e =
    h ∙ ap (λ b. option_and_then (blocks_after c rest) (cond b (Some new) None)) e

pub mark_on : (c : Context) (ms rest : List Mark) (now new : List OpenBlock) (went : Bool)
    → blocks_after c ms now ≡ option_and_then (blocks_after c rest) (cond went (Some new) None) → went ≡ true
    → blocks_after c rest new ≡ blocks_after c ms now
mark_on c ms rest now new went h e =
    sym (h ∙ ap (λ b. option_and_then (blocks_after c rest) (cond b (Some new) None)) e)

pub stopped : (b : Bool) (x : Option (List OpenBlock)) → b ≡ false → x ≡ None → IsTrue b ↔ (x ≡ Some [])
stopped b x e n = ((λ h. absurd (cc (sym h ∙ e))), (λ h. absurd (cc (sym n ∙ h))))

pub ended_with_none_open : (os : List OpenBlock) (b : Bool) (x : Option (List OpenBlock)) → x ≡ Some os
    → b ≡ is_open os
    → IsTrue (not b) ↔ (x ≡ Some [])
ended_with_none_open [] b x n e = ((λ h. n), (λ h. ap not e))
ended_with_none_open (o ∷ os) b x n e =
    ((λ h. absurd (cc (sym h ∙ ap not e))), (λ h. absurd (cc (sym n ∙ h))))

nothing_from : {A : Type 0} (xs : List A) (k : ℕ) → length xs ≤ k → drop k xs ≡ []
nothing_from [] zero h = refl
nothing_from [] (suc k) h = refl
nothing_from (x ∷ xs) zero h = absurd (omega (arith, h))
nothing_from (x ∷ xs) (suc k) h = nothing_from xs k (omega (arith, h))

pub past_all : (c : Context) (o : Option Function) (ops : List Op) (position : ℕ) (os : List OpenBlock)
    → IsBody o ops
    → IfSome o (λ f. IsProper f.list) → length ops ≤ position
    → blocks_after c (drop position (marks_with o)) os ≡ Some os
past_all c None ops position os h p e = absurd h
past_all c (Some f) ops position os h p e =
    ap (λ ms. blocks_after c ms os)
    (nothing_from (flat f.list) position (omega (arith, e, as_many (Some f) ops h p)))

-- ---- what the pass decides

same_answer : (r b : Bool) (x : Option (List OpenBlock)) → x ≡ cond b (Some []) None → IsTrue r
    ↔ (x ≡ Some [])
    → b ≡ r
same_answer true true x e h = refl
same_answer true false x e h = absurd (cc (sym e ∙ h.0 refl))
same_answer false true x e h = absurd (cc (h.1 e))
same_answer false false x e h = refl

pub decided : (m : WasmModule) (s : Signature) (o : Option Function) (runs : List Locals) (c : Context)
    (os : List OpenBlock) (r : Bool)
    → option_map (λ f. f.runs) o ≡ Some runs → IfSome o (λ f. IsProper f.list)
    → c ≡ record {
      within = m;
      locals = s.params ++ local_types runs;
      labels = s.results ∷ [];
      results = s.results;
    } → os ≡ opened s.results s.results ∷ []
    → IsTrue r ↔ (blocks_after c (marks_with o) os ≡ Some []) → option_map (body_stands m s) o ≡ Some r
decided m s None runs c os r hr p ec eo h = absurd (cc hr)
decided m s (Some f) runs c os r hr p ec eo h =
    let same : c ≡ body_context m s f =
    ec ∙ ap (λ x. record {
      within = m;
      locals = s.params ++ local_types x;
      labels = s.results ∷ [];
      results = s.results;
    }) (sym (same_Some _ _ hr)) in
    ap Some (same_answer r (body_stands m s f) (blocks_after c (flat f.list) os)
    (ap (λ x. blocks_after x (flat f.list) os) same ∙ ap (blocks_after (body_context m s f) (flat f.list)) eo
    ∙ pass_decides_bodies m s f p) h)

typed_with : (m : WasmModule) (func index : ℕ) (s : Signature) (r : Bool) (f : Function)
    → module_has_float m ≡ false → slice_get m.functions func ≡ Some index → slice_get m.types index ≡ Some s
    → slice_get m.bodies func ≡ Some f → body_stands m s f ≡ r → IsTrue r ↔ IsTypedAt m func
typed_with m func index s r f n hi hs hf hb =
    let law = stack_decides_bodies m index func s f n hs hf in (
      (λ h. (index, f, hi, hf, law.1 (hb ∙ h))),
      (λ (i, g, ei, eg, t). sym hb
          ∙ law.0 (subst (λ x. BodyHasType m x f) (same_Some _ _ (sym ei ∙ hi))
          (subst (BodyHasType m i) (same_Some _ _ (sym eg ∙ hf)) t))),
    )

typed_from : (m : WasmModule) (func index : ℕ) (s : Signature) (r : Bool) (o : Option Function)
    → module_has_float m ≡ false → slice_get m.functions func ≡ Some index → slice_get m.types index ≡ Some s
    → slice_get m.bodies func ≡ o → option_map (body_stands m s) o ≡ Some r → IsTrue r ↔ IsTypedAt m func
typed_from m func index s r None n hi hs hf hb = absurd (cc hb)
typed_from m func index s r (Some f) n hi hs hf hb =
    typed_with m func index s r f n hi hs hf (same_Some _ _ hb)

pub body_is_typed : (m : WasmModule) (func index : ℕ) (s : Signature) (r : Bool) → module_has_float m ≡ false
    → slice_get m.functions func ≡ Some index → slice_get m.types index ≡ Some s
    → option_map (body_stands m s) (slice_get m.bodies func) ≡ Some r → IsTrue r ↔ IsTypedAt m func
body_is_typed m func index s r n hi hs hb =
    typed_from m func index s r (slice_get m.bodies func) n hi hs refl hb

pub untyped : (m : WasmModule) (func index : ℕ) → slice_get m.functions func ≡ Some index
    → slice_get m.types index ≡ None → IsTrue false ↔ IsTypedAt m func
untyped m func index hi hn = (
  (λ h. absurd (cc h)),
  (λ (i, g, ei, eg, t). absurd (cc (sym (ap (slice_get m.types) (same_Some _ _ (sym ei ∙ hi)) ∙ hn) ∙ t.1))),
)
