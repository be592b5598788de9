-- The open lists in one stack of operand types: what a write to the stack or the frames makes of them.
use Rattle.std.proofs.Common.{◌≡◌, ℕ, suc, ◌+◌, ◌-◌, ◌<◌, ◌≤◌, Bool, true, false, List, [], ◌∷◌, ◌++◌, length}
use Rattle.std.proofs.Common.{map, take, drop, reverse, get_or, Option, Some, None, option_map, refl, sym, ap}
use Rattle.std.proofs.Common.{◌∙◌, arith, length-append, inl, inr, subst}
use Rattle.std.specs.Prelude.{slice_get, IsSome, option_to_list, ◌⊎◌}
use Rattle.std.proofs.Math.Seq.{drop-append_seam}
use Rattle.std.proofs.lemmas.List.{reverse-append, length-reverse, length-map, length-drop, take-append-drop}
use Rattle.std.proofs.lemmas.List.{get_or-reverse}
use Rattle.std.proofs.lemmas.Option.{slice_get_past, slice_get-get_or, slice_get-map}
use Rattle.w4_defs.specs.declared.value.ValType.{ValType}
use Rattle.w4_defs.specs.AbstractStack.{OperandType, topmost}
use Rattle.wasm_valid.specs.Pass.{OpenBlock, label_types}
use Rattle.wasm_valid.specs.declared.control_stack.ControlFrame.{ControlFrame}
use Rattle.wasm_valid.specs.ControlStack.{on_top, without_operands, with_operand, popped, block_of_frame}
use Rattle.wasm_valid.specs.ControlStack.{blocks_of_frames, all_frames, AreNested}

-- the lists of some frames, where so many operand types are the innermost list's own
abbrev blocks_cut_at : ControlFrame → List ControlFrame → List OperandType → ℕ → List OpenBlock
blocks_cut_at f fs ks n = block_of_frame f n ks ∷ blocks_of_frames fs (drop n ks)

-- the innermost list's operand types lie over its base
pub nested_base : (inner : Option ControlFrame) (f : ControlFrame) (outer : List ControlFrame) (count : ℕ)
    → AreNested (all_frames inner outer) count → inner ≡ Some f → f.height ≤ count
nested_base inner f outer count n e = (subst (λ i. AreNested (all_frames i outer) count) e n).0

reverse_taken : {A : Type 0} (n : ℕ) (xs : List A) → n ≤ length xs
    → reverse (take n xs) ≡ drop (length xs - n) (reverse xs)
reverse_taken n xs h =
    let high = reverse (drop n xs) in
    let size : length high ≡ length xs - n = length-reverse (drop n xs) ∙ length-drop n xs in
    sym (drop-append_seam high (reverse (take n xs)))
    ∙ ap (λ k. drop k (high ++ reverse (take n xs))) size
    ∙ ap (drop (length xs - n))
    (sym (reverse-append (take n xs) (drop n xs)) ∙ ap reverse (take-append-drop n xs))

topmost_more : (unreachable : Bool) (k : OperandType) (ks : List OperandType)
    → topmost unreachable (k ∷ ks) ≡ Some (k, ks)
topmost_more true k ks = refl
topmost_more false k ks = refl

-- one more operand type is the innermost list's
pub held_more : (f : ControlFrame) (fs : List ControlFrame) (k : OperandType) (ks : List OperandType)
    → f.height ≤ length ks
    → blocks_of_frames (f ∷ fs) (k ∷ ks) ≡ on_top (with_operand k) (blocks_of_frames (f ∷ fs) ks)
held_more f fs k ks h = ap (blocks_cut_at f fs (k ∷ ks)) {y = suc (length ks - f.height)} (omega (arith, h))

popped_more : (f : ControlFrame) (fs : List ControlFrame) (k : OperandType) (ks : List OperandType)
    → f.height ≤ length ks
    → popped (blocks_of_frames (f ∷ fs) (k ∷ ks)) ≡ Some (k, blocks_of_frames (f ∷ fs) ks)
popped_more f fs k ks h =
    let o = block_of_frame f (length ks - f.height) ks in
    ap popped (held_more f fs k ks h)
    ∙ ap (option_map (λ top. (
      top.0,
      record o { stack = record o.stack { operands = top.1 } } ∷ blocks_of_frames fs
          (drop (length ks - f.height) ks),
    )))
    (topmost_more f.unreachable k (take (length ks - f.height) ks))

pub popped_one : (f : ControlFrame) (fs : List ControlFrame) (old new : List OperandType) (k : OperandType)
    → f.height < length old
    → old ≡ new ++ k ∷ []
    → popped (blocks_of_frames (f ∷ fs) (reverse old))
    ≡ Some (k, blocks_of_frames (f ∷ fs) (reverse new))
popped_one f fs old new k h e =
    ap (λ xs. popped (blocks_of_frames (f ∷ fs) (reverse xs))) e
    ∙ ap (λ xs. popped (blocks_of_frames (f ∷ fs) xs)) (reverse-append new (k ∷ []))
    ∙ popped_more f fs k (reverse new)
    (omega (arith, h, ap length e, length-append new (k ∷ []), length-reverse new))

pub popped_some : (f : ControlFrame) (fs : List ControlFrame) (old new : List OperandType)
    (r : Option OperandType) → f.height < length old
    → old ≡ new ++ option_to_list r → IsSome r
    → popped (blocks_of_frames (f ∷ fs) (reverse old)) ≡ option_map
    (λ k. (k, blocks_of_frames (f ∷ fs) (reverse new))) r
popped_some f fs old new None h e some = absurd (cc some)
popped_some f fs old new (Some k) h e some = popped_one f fs old new k h e

pub pushed_one : (inner : Option ControlFrame) (outer : List ControlFrame) (old : List OperandType)
    (k : OperandType)
    → ((f : ControlFrame) → inner ≡ Some f → f.height ≤ length old)
    → blocks_of_frames (all_frames inner outer) (reverse (old ++ k ∷ []))
    ≡ on_top (with_operand k) (blocks_of_frames (all_frames inner outer) (reverse old))
pushed_one None outer old k h = refl
pushed_one (Some f) outer old k h =
    ap (blocks_of_frames (f ∷ reverse outer)) (reverse-append old (k ∷ []))
    ∙ held_more f (reverse outer) k (reverse old) (omega (arith, h f refl, length-reverse old))

pub restarted : (f : ControlFrame) (fs : List ControlFrame) (old new : List OperandType) (unreachable : Bool)
    → new ≡ take f.height old
    → f.height ≤ length old
    → blocks_of_frames (record f { unreachable = unreachable } ∷ fs) (reverse new)
    ≡ on_top (without_operands unreachable) (blocks_of_frames (f ∷ fs) (reverse old))
restarted f fs old new unreachable e h =
    let g : ControlFrame = record f { unreachable = unreachable } in
    let n : ℕ = length old - f.height in
    let same : reverse new ≡ drop n (reverse old) = ap reverse e ∙ reverse_taken f.height old h in
    let none : length (reverse new) - f.height ≡ 0 =
    omega (arith, h, ap length same, length-drop n (reverse old), length-reverse old) in
    ap (blocks_cut_at g fs (reverse new)) none
    ∙ ap (λ ks. block_of_frame g 0 [] ∷ blocks_of_frames fs ks) same
    ∙ ap (λ k. on_top (without_operands unreachable) (blocks_cut_at f fs (reverse old) k)) {x = n}
    (omega (arith, length-reverse old))

left_to : (f : ControlFrame) (fs gs : List ControlFrame) (old new : List OperandType)
    → new ≡ take f.height old → f.height ≤ length old
    → gs ≡ fs
    → blocks_of_frames gs (reverse new) ≡ drop 1 (blocks_of_frames (f ∷ fs) (reverse old))
left_to f fs gs old new e h same =
    let n : ℕ = length old - f.height in
    ap (λ xs. blocks_of_frames xs (reverse new)) same
    ∙ ap (blocks_of_frames fs) (ap reverse e ∙ reverse_taken f.height old h)
    ∙ ap (λ k. drop 1 (blocks_cut_at f fs (reverse old) k)) {x = n} (omega (arith, length-reverse old))

nothing_left : {A : Type 0} (xs : List A) → length xs ≡ 0 → [] ≡ reverse xs
nothing_left [] h = refl
nothing_left (x ∷ xs) h = absurd (omega (arith, h))

next_frames : (outer left : List ControlFrame) (r : Option ControlFrame) → outer ≡ left ++ option_to_list r
    → (length outer ≡ 0) ⊎ IsSome r → all_frames r left ≡ reverse outer
next_frames outer left None e (inl h) = nothing_left outer h
next_frames outer left None e (inr h) = absurd (cc h)
next_frames outer left (Some g) e h = sym (ap reverse e ∙ reverse-append left (g ∷ []))

pub left : (f : ControlFrame) (outer rest : List ControlFrame) (r : Option ControlFrame)
    (old new : List OperandType)
    → new ≡ take f.height old → f.height ≤ length old
    → outer ≡ rest ++ option_to_list r → (0 < length outer → IsSome r)
    → blocks_of_frames (all_frames r rest) (reverse new)
    ≡ drop 1 (blocks_of_frames (f ∷ reverse outer) (reverse old))
left f [] rest r old new e h eo some =
    left_to f [] (all_frames r rest) old new e h (next_frames [] rest r eo (inl refl))
left f (g ∷ outer) rest r old new e h eo some =
    left_to f (reverse (g ∷ outer)) (all_frames r rest) old new e h
    (next_frames (g ∷ outer) rest r eo (inr (some (omega arith))))

labels_held : (fs : List ControlFrame) (ks : List OperandType)
    → label_types (blocks_of_frames fs ks) ≡ map (λ f. f.label.now) fs
labels_held [] ks = refl
labels_held (f ∷ fs) ks = ap (λ ls. f.label.now ∷ ls) (labels_held fs (drop (length ks - f.height) ks))

pub no_label : (f : ControlFrame) (outer : List ControlFrame) (ks : List OperandType) (depth : ℕ)
    → length outer ≤ depth
    → None ≡ slice_get (label_types (blocks_of_frames (f ∷ reverse outer) ks)) (depth + 1)
no_label f outer ks depth h =
    let labels : List (List ValType) = map (λ g. g.label.now) (f ∷ reverse outer) in
    sym (ap (λ ls. slice_get ls (depth + 1)) (labels_held (f ∷ reverse outer) ks)
    ∙ slice_get_past labels (depth + 1)
    (omega (arith, h, length-map (f ∷ reverse outer) (λ g. g.label.now), length-reverse outer)))

pub some_label : (f g : ControlFrame) (outer : List ControlFrame) (ks : List OperandType) (depth at : ℕ)
    → depth < length outer
    → at ≡ length outer - 1 - depth → g ≡ get_or outer at g
    → Some g.label.now ≡ slice_get (label_types (blocks_of_frames (f ∷ reverse outer) ks)) (depth + 1)
some_label f g outer ks depth at h ea e =
    let there : slice_get (reverse outer) depth ≡ Some g =
    slice_get-get_or (reverse outer) depth g (omega (arith, h, length-reverse outer))
    ∙ ap Some (get_or-reverse outer depth g h ∙ ap (λ k. get_or outer k g) (sym ea) ∙ sym e) in
    sym (ap (λ ls. slice_get ls (depth + 1)) (labels_held (f ∷ reverse outer) ks)
    ∙ slice_get-map (λ (x : ControlFrame). x.label.now) (f ∷ reverse outer) (depth + 1)
    ∙ ap (λ k. option_map (λ x. x.label.now) (slice_get (f ∷ reverse outer) k)) {y = suc depth} (omega arith)
    ∙ ap (option_map (λ x. x.label.now)) there)
