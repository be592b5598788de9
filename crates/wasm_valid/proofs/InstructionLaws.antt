-- The instructions of a flattening are those of its tree.
use Rattle.std.proofs.Common.{◌≡◌, ℕ, ◌+◌, List, [], ◌∷◌, ◌++◌, cond, true, false, Some, None, refl, ◌∙◌, ap}
use Rattle.std.proofs.Common.{arith}
use Rattle.std.specs.List.{count_by}
use Rattle.std.proofs.lemmas.List.{map-append}
use Rattle.std.proofs.lemmas.List.Sums.{sum_by-append}
use Rattle.w4_defs.specs.declared.operation.Op.{Op}
use Rattle.w4_defs.specs.declared.operation.Op.TheVariants.{Block, Loop, If, Else, End}
use Rattle.w4_defs.specs.Tree.{Mark, mark, Expr, done, plain, block, loop, if_then, if_else, span, flat_at}
use Rattle.w4_defs.specs.Flattening.{IsLeaf, IsProper}
use Rattle.w4_defs.specs.Program.{instructions}
use Rattle.wasm_tree.specs.Pool.{operations_of}
use Rattle.wasm_valid.specs.Instructions.{is_instruction, InstructionsAreCounted}

abbrev counted : List Mark → ℕ
counted ms = count_by is_instruction (operations_of ms)

counted_joined : (xs ys : List Mark) → counted (xs ++ ys) ≡ counted xs + counted ys
counted_joined xs ys =
    ap (count_by is_instruction) (map-append (λ m. m.0) xs ys)
    ∙ sum_by-append (λ op. cond (is_instruction op) 1 0) (operations_of xs) (operations_of ys)

counted_more : (m : Mark) (ms : List Mark) → counted (m ∷ ms) ≡ cond (is_instruction m.0) 1 0 + counted ms
counted_more m ms = omega (arith, counted_joined (m ∷ []) ms)

leaf_counts : (op : Op) → IsLeaf op → is_instruction op ≡ true
leaf_counts Else h = absurd h
leaf_counts End h = absurd h
leaf_counts op h = refl

pub counted_at : (close : Op) → is_instruction close ≡ false → (at : ℕ) (e : Expr) → IsProper e
    → counted (flat_at close at e) ≡ instructions e
counted_at close c at done p =
    let e : ◌≡◌ {A = ℕ} (cond (is_instruction close) 1 0) 0 = ap (λ b. cond b 1 0) c in omega (arith, e)
counted_at close c at (plain m rest) p =
    let e : ◌≡◌ {A = ℕ} (cond (is_instruction m.0) 1 0) 1 = ap (λ b. cond b 1 0) (leaf_counts m.0 p.0) in
    omega (arith, e, counted_more m (flat_at close (at + 1) rest), counted_at close c (at + 1) rest p.1)
counted_at close c at (block r inner rest) p =
    let end : ℕ = at + 1 + span inner in
    omega (
      arith,
      counted_more (mark (Block r end)) (flat_at End (at + 1) inner),
      counted_joined (mark (Block r end) ∷ flat_at End (at + 1) inner) (flat_at close (end + 1) rest),
      counted_at End refl (at + 1) inner p.0,
      counted_at close c (end + 1) rest p.1,
    )
counted_at close c at (loop r inner rest) p =
    let end : ℕ = at + 1 + span inner in
    omega (
      arith,
      counted_more (mark (Loop r end)) (flat_at End (at + 1) inner),
      counted_joined (mark (Loop r end) ∷ flat_at End (at + 1) inner) (flat_at close (end + 1) rest),
      counted_at End refl (at + 1) inner p.0,
      counted_at close c (end + 1) rest p.1,
    )
counted_at close c at (if_then r taken rest) p =
    let end : ℕ = at + 1 + span taken in
    omega (
      arith,
      counted_more (mark (If r None end)) (flat_at End (at + 1) taken),
      counted_joined (mark (If r None end) ∷ flat_at End (at + 1) taken) (flat_at close (end + 1) rest),
      counted_at End refl (at + 1) taken p.0,
      counted_at close c (end + 1) rest p.1,
    )
counted_at close c at (if_else r taken other rest) p =
    let middle : ℕ = at + 1 + span taken in
    let end : ℕ = middle + 1 + span other in
    omega (
      arith,
      counted_more (mark (If r (Some middle) end)) (flat_at Else (at + 1) taken),
      counted_joined ((mark (If r (Some middle) end) ∷ flat_at Else (at + 1) taken)
          ++ flat_at End (middle + 1) other) (flat_at close (end + 1) rest),
      counted_joined (mark (If r (Some middle) end) ∷ flat_at Else (at + 1) taken)
          (flat_at End (middle + 1) other),
      counted_at Else refl (at + 1) taken p.0,
      counted_at End refl (middle + 1) other p.1,
      counted_at close c (end + 1) rest p.2,
    )

pub instructions_are_counted : InstructionsAreCounted
instructions_are_counted e p = counted_at End refl 0 e p
