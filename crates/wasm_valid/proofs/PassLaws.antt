-- The pass over the flattening of a list computes the abstract stack of the list.
use Rattle.std.proofs.Common.{◌≡◌, ℕ, ◌+◌, Bool, true, false, ◌&&◌, cond, List, [], ◌∷◌, ◌++◌, Option, Some}
use Rattle.std.proofs.Common.{None, option_map, option_and_then, refl, sym, ap, ◌∙◌}
use Rattle.std.proofs.lemmas.List.{append_assoc, append-nil}
use Rattle.w4_defs.specs.declared.value.ValType.{ValType}
use Rattle.w4_defs.specs.declared.value.ValType.TheVariants.{I32}
use Rattle.w4_defs.specs.declared.operation.Op.{Op}
use Rattle.w4_defs.specs.declared.operation.Op.TheVariants as op
use Rattle.w4_defs.specs.Tree.{Mark, mark, Expr, done, plain, block, loop, if_then, if_else, span, flat_at}
use Rattle.w4_defs.specs.Flattening.{IsLeaf, IsProper}
use Rattle.w4_defs.specs.Typing.{Context, body_context}
use Rattle.w4_defs.specs.ValueTypes.{result_types}
use Rattle.w4_defs.specs.AbstractStack.{AbstractStack, empty, stands, stands_in, taken, given, step}
use Rattle.w4_defs.specs.AbstractStack.{stack_after}
use Rattle.wasm_valid.specs.Pass.{OpenBlock, opened, with_stack, context, blocks_after_mark, blocks_after}
use Rattle.wasm_valid.specs.Pass.{PassDecidesBodies}

-- the pass goes on where the innermost list has this abstract stack
abbrev pub resumed : Context → OpenBlock → List OpenBlock → List Mark → Option AbstractStack
    → Option (List OpenBlock)
resumed c o os ms None = None
resumed c o os ms (Some s) = blocks_after c ms (with_stack o s ∷ os)

resumed_if : (c : Context) (o : OpenBlock) (os : List OpenBlock) (ms : List Mark) (b : Bool)
    (x : Option AbstractStack)
    → cond b (resumed c o os ms x) None ≡ resumed c o os ms (cond b x None)
resumed_if c o os ms true x = refl
resumed_if c o os ms false x = refl

closed_if : (c : Context) (p : OpenBlock) (os : List OpenBlock) (ms : List Mark) (b : Bool)
    → option_and_then (blocks_after c ms) (cond b (Some (p ∷ os)) None) ≡ cond b (blocks_after c ms (p ∷ os))
    None
closed_if c p os ms true = refl
closed_if c p os ms false = refl

-- an `end` asks whether the abstract stack stands
resumed_at_end : (c : Context) (n o : OpenBlock) (os : List OpenBlock) (ms : List Mark)
    (x : Option AbstractStack)
    → resumed c n (o ∷ os) (mark op.End ∷ ms) x
    ≡ cond (stands_in x n.result) (blocks_after c ms (with_stack o (given n.result o.stack) ∷ os)) None
resumed_at_end c n o os ms None = refl
resumed_at_end c n o os ms (Some s) =
    closed_if c (with_stack o (given n.result o.stack)) os ms (stands s n.result)

-- an `else` too, and begins anew
parted : (c : Context) (n : OpenBlock) (os : List OpenBlock) (ms : List Mark) (x : Option AbstractStack)
    → resumed c n os (mark op.Else ∷ ms) x
    ≡ cond (stands_in x n.result) (blocks_after c ms (opened n.label n.result ∷ os)) None
parted c n os ms None = refl
parted c n os ms (Some s) = closed_if c (opened n.label n.result) os ms (stands s n.result)

leaf_step : (c : Context) (o : Op) (labels : List ℕ) (p : OpenBlock) (os : List OpenBlock) → IsLeaf o
    → blocks_after_mark c o labels p os ≡ option_map (λ s. with_stack p s ∷ os)
    (step (context c (p ∷ os)) o labels p.stack)
leaf_step c (op.Block r m) labels p os h = absurd h
leaf_step c (op.Loop r m) labels p os h = absurd h
leaf_step c (op.If r other m) labels p os h = absurd h
leaf_step c op.Else labels p os h = absurd h
leaf_step c op.End labels p os h = absurd h
leaf_step c _ labels p os h = refl

-- a list goes on from the abstract stack of the marks before
went_on : (c : Context) (o : OpenBlock) (os : List OpenBlock) (ms rest : List Mark) (x : Option AbstractStack)
    (f : AbstractStack → Option AbstractStack)
    → ((s : AbstractStack) → blocks_after c rest (with_stack o s ∷ os) ≡ resumed c o os ms (f s))
    → option_and_then (blocks_after c rest) (option_map (λ s. with_stack o s ∷ os) x)
    ≡ resumed c o os ms (option_and_then f x)
went_on c o os ms rest None f h = refl
went_on c o os ms rest (Some s) f h = h s

both_if : {A : Type 0} (a b : Bool) (x : Option A) → cond a (cond b x None) None ≡ cond (a && b) x None
both_if true b x = refl
both_if false b x = refl

nothing_if : (c : Context) (o : OpenBlock) (os : List OpenBlock) (ms : List Mark) (b : Bool)
    → None ≡ resumed c o os ms (cond b None None)
nothing_if c o os ms true = refl
nothing_if c o os ms false = refl

-- a condition is taken, and what stands inside is as it is for each abstract stack below
resumed_if_chosen : (c : Context) (o : OpenBlock) (os : List OpenBlock) (result : List ValType)
    (body ms : List Mark)
    (b : Bool)
    (f : AbstractStack → Option AbstractStack) (x : Option AbstractStack)
    → ((s : AbstractStack) → blocks_after c body (opened result result ∷ with_stack o s ∷ os)
    ≡ cond b (resumed c o os ms (f s)) None)
    → option_and_then (blocks_after c body) (option_map (λ s. opened result result ∷ with_stack o s ∷ os) x)
    ≡ resumed c o os ms (cond b (option_and_then f x) None)
resumed_if_chosen c o os result body ms b f None h = nothing_if c o os ms b
resumed_if_chosen c o os result body ms b f (Some s) h = h s ∙ resumed_if c o os ms b (f s)

pub run_list : (c : Context) (close : Op) (at : ℕ) (e : Expr) (ms : List Mark) (o : OpenBlock)
    (os : List OpenBlock)
    → IsProper e
    → blocks_after c (flat_at close at e ++ ms) (o ∷ os)
    ≡ resumed c o os (mark close ∷ ms) (stack_after (context c (o ∷ os)) e o.stack)
run_list c close at done ms o os h = refl
run_list c close at (plain m rest) ms o os h =
    ap (option_and_then (blocks_after c (flat_at close (at + 1) rest ++ ms))) (leaf_step c m.0 m.1 o os h.0)
    ∙ went_on c o os (mark close ∷ ms) (flat_at close (at + 1) rest ++ ms)
    (step (context c (o ∷ os)) m.0 m.1 o.stack) (stack_after (context c (o ∷ os)) rest)
    (λ s. run_list c close (at + 1) rest ms (with_stack o s) os h.1)
run_list c close at (block r inner rest) ms o os h =
    let end = at + 1 + span inner in
    let n = opened (result_types r) (result_types r) in
    let tail = flat_at close (end + 1) rest in
    let x = stack_after (context c (n ∷ o ∷ os)) inner empty in
    let next = with_stack o (given (result_types r) o.stack) in
    ap (λ l. blocks_after c l (o ∷ os))
    (append_assoc (mark (op.Block r end) ∷ flat_at op.End (at + 1) inner) tail ms)
    ∙ run_list c op.End (at + 1) inner (tail ++ ms) n (o ∷ os) h.0
    ∙ resumed_at_end c n o os (tail ++ ms) x
    ∙ ap (λ y. cond (stands_in x (result_types r)) y None) (run_list c close (end + 1) rest ms next os h.1)
    ∙ resumed_if c o os (mark close ∷ ms) (stands_in x (result_types r))
    (stack_after (context c (o ∷ os)) rest next.stack)
run_list c close at (loop r inner rest) ms o os h =
    let end = at + 1 + span inner in
    let n = opened [] (result_types r) in
    let tail = flat_at close (end + 1) rest in
    let x = stack_after (context c (n ∷ o ∷ os)) inner empty in
    let next = with_stack o (given (result_types r) o.stack) in
    ap (λ l. blocks_after c l (o ∷ os))
    (append_assoc (mark (op.Loop r end) ∷ flat_at op.End (at + 1) inner) tail ms)
    ∙ run_list c op.End (at + 1) inner (tail ++ ms) n (o ∷ os) h.0
    ∙ resumed_at_end c n o os (tail ++ ms) x
    ∙ ap (λ y. cond (stands_in x (result_types r)) y None) (run_list c close (end + 1) rest ms next os h.1)
    ∙ resumed_if c o os (mark close ∷ ms) (stands_in x (result_types r))
    (stack_after (context c (o ∷ os)) rest next.stack)
run_list c close at (if_then None inner rest) ms o os h =
    let end = at + 1 + span inner in
    let n = opened [] [] in
    let tail = flat_at close (end + 1) rest in
    let x = stack_after (context c (n ∷ o ∷ os)) inner empty in
    ap (λ l. blocks_after c l (o ∷ os))
    (append_assoc (mark (op.If None None end) ∷ flat_at op.End (at + 1) inner) tail ms)
    ∙ resumed_if_chosen c o os [] (flat_at op.End (at + 1) inner ++ (tail ++ ms)) (mark close ∷ ms)
    (stands_in x [])
    (stack_after (context c (o ∷ os)) rest) (taken (I32 ∷ []) o.stack)
    (λ s. run_list c op.End (at + 1) inner (tail ++ ms) n (with_stack o s ∷ os) h.0
    ∙ resumed_at_end c n (with_stack o s) os (tail ++ ms) x
    ∙ ap (λ y. cond (stands_in x []) y None) (run_list c close (end + 1) rest ms (with_stack o s) os h.1))
run_list c close at (if_then (Some t) inner rest) ms o os h = refl
run_list c close at (if_else r inner other rest) ms o os h =
    let result = result_types r in
    let middle = at + 1 + span inner in
    let end = middle + 1 + span other in
    let n = opened result result in
    let first = mark (op.If r (Some middle) end) ∷ flat_at op.Else (at + 1) inner in
    let second = flat_at op.End (middle + 1) other in
    let tail = flat_at close (end + 1) rest in
    let x = stack_after (context c (n ∷ o ∷ os)) inner empty in
    let y = stack_after (context c (n ∷ o ∷ os)) other empty in
    ap (λ l. blocks_after c l (o ∷ os))
    (append_assoc (first ++ second) tail ms ∙ append_assoc first second (tail ++ ms))
    ∙ resumed_if_chosen c o os result (flat_at op.Else (at + 1) inner ++ (second ++ (tail ++ ms)))
    (mark close ∷ ms)
    (stands_in x result && stands_in y result) (λ s. stack_after (context c (o ∷ os)) rest (given result s))
    (taken (I32 ∷ []) o.stack)
    (λ s. run_list c op.Else (at + 1) inner (second ++ (tail ++ ms)) n (with_stack o s ∷ os) h.0
    ∙ parted c n (with_stack o s ∷ os) (second ++ (tail ++ ms)) x
    ∙ ap (λ z. cond (stands_in x result) z None)
    (run_list c op.End (middle + 1) other (tail ++ ms) n (with_stack o s ∷ os) h.1
    ∙ resumed_at_end c n (with_stack o s) os (tail ++ ms) y
    ∙ ap (λ z. cond (stands_in y result) z None)
    (run_list c close (end + 1) rest ms (with_stack o (given result s)) os h.2))
    ∙ both_if (stands_in x result) (stands_in y result)
    (resumed c o os (mark close ∷ ms) (stack_after (context c (o ∷ os)) rest (given result s))))

all_closed : (c : Context) (b : Bool)
    → option_and_then (blocks_after c []) (cond b (Some []) None) ≡ cond b (Some []) None
all_closed c true = refl
all_closed c false = refl

last_ended : (c : Context) (o : OpenBlock) (x : Option AbstractStack)
    → resumed c o [] (mark op.End ∷ []) x ≡ cond (stands_in x o.result) (Some []) None
last_ended c o None = refl
last_ended c o (Some s) = all_closed c (stands s o.result)

pub pass_decides_bodies : PassDecidesBodies
pass_decides_bodies m s f h =
    let c = body_context m s f in
    let o = opened s.results s.results in
    ap (λ l. blocks_after c l (o ∷ [])) (sym (append-nil (flat_at op.End 0 f.list)))
    ∙ run_list c op.End 0 f.list [] o [] h ∙ last_ended c o (stack_after c f.list empty)
