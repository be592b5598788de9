-- What is read from a flattening is its tree.
use Rattle.std.proofs.Common.{◌≡◌, ℕ, ◌+◌, List, [], ◌∷◌, ◌++◌, Some, None, refl, ap, sym, ◌∙◌, append_assoc, append-nil}
use Rattle.w4_defs.specs.declared.operation.Op.{Op}
use Rattle.w4_defs.specs.declared.operation.Op.TheVariants.{Block, Loop, If, Else, End}
use Rattle.w4_defs.specs.Tree.{Mark, Expr, done, plain, block, loop, if_then, if_else, span, flat_at, flat}
use Rattle.w4_defs.specs.Flattening.{IsLeaf, IsProper, read_entry, read_trees, read_flat, first_tree, FlatteningIsReadBack, FlatteningDetermines}

leaf_read : (op : Op) (labels : List ℕ) (rest : Expr) (outer : List Expr) → IsLeaf op
    → read_entry op labels (rest ∷ outer) ≡ plain (op, labels) rest ∷ outer
leaf_read (Block r m) labels rest outer h = absurd h
leaf_read (Loop r m) labels rest outer h = absurd h
leaf_read (If r other m) labels rest outer h = absurd h
leaf_read Else labels rest outer h = absurd h
leaf_read End labels rest outer h = absurd h
leaf_read op labels rest outer h = refl

-- a mark that closes a list
abbrev Closes : Op → Type 0
Closes close = (trees : List Expr) → read_entry close [] trees ≡ done ∷ trees

-- the marks of a tree are read as the tree, before what follows them
flat_read : (close : Op) → Closes close → (at : ℕ) (e : Expr) → IsProper e → (after : List Mark)
    → read_trees (flat_at close at e ++ after) ≡ e ∷ read_trees after
flat_read close c at done h after = c (read_trees after)
flat_read close c at (plain m rest) h after =
    ap (read_entry m.0 m.1) (flat_read close c (at + 1) rest h.1 after)
    ∙ leaf_read m.0 m.1 rest (read_trees after) h.0
flat_read close c at (block r inner rest) h after =
    let end : ℕ = at + 1 + span inner in
    let front : List Mark = flat_at End (at + 1) inner in
    let back : List Mark = flat_at close (end + 1) rest in
    ap (λ xs. read_entry (Block r end) [] (read_trees xs)) (append_assoc front back after)
    ∙ ap (read_entry (Block r end) []) (flat_read End (λ trees. refl) (at + 1) inner h.0 (back ++ after)
    ∙ ap (λ xs. inner ∷ xs) (flat_read close c (end + 1) rest h.1 after))
flat_read close c at (loop r inner rest) h after =
    let end : ℕ = at + 1 + span inner in
    let front : List Mark = flat_at End (at + 1) inner in
    let back : List Mark = flat_at close (end + 1) rest in
    ap (λ xs. read_entry (Loop r end) [] (read_trees xs)) (append_assoc front back after)
    ∙ ap (read_entry (Loop r end) []) (flat_read End (λ trees. refl) (at + 1) inner h.0 (back ++ after)
    ∙ ap (λ xs. inner ∷ xs) (flat_read close c (end + 1) rest h.1 after))
flat_read close c at (if_then r taken rest) h after =
    let end : ℕ = at + 1 + span taken in
    let front : List Mark = flat_at End (at + 1) taken in
    let back : List Mark = flat_at close (end + 1) rest in
    ap (λ xs. read_entry (If r None end) [] (read_trees xs)) (append_assoc front back after)
    ∙ ap (read_entry (If r None end) []) (flat_read End (λ trees. refl) (at + 1) taken h.0 (back ++ after)
    ∙ ap (λ xs. taken ∷ xs) (flat_read close c (end + 1) rest h.1 after))
flat_read close c at (if_else r taken other rest) h after =
    let middle : ℕ = at + 1 + span taken in
    let end : ℕ = middle + 1 + span other in
    let first : List Mark = flat_at Else (at + 1) taken in
    let second : List Mark = flat_at End (middle + 1) other in
    let back : List Mark = flat_at close (end + 1) rest in
    ap (λ xs. read_entry (If r (Some middle) end) [] (read_trees xs))
    (append_assoc (first ++ second) back after ∙ append_assoc first second (back ++ after))
    ∙ ap (read_entry (If r (Some middle) end) [])
    (flat_read Else (λ trees. refl) (at + 1) taken h.0 (second ++ (back ++ after))
    ∙ ap (λ xs. taken ∷ xs)
    (flat_read End (λ trees. refl) (middle + 1) other h.1 (back ++ after)
    ∙ ap (λ xs. other ∷ xs) (flat_read close c (end + 1) rest h.2 after)))

pub flattening_read_back : FlatteningIsReadBack
flattening_read_back e h = ap (λ xs. read_flat xs) (sym (append-nil (flat e)))
    ∙ ap first_tree (flat_read End (λ trees. refl) 0 e h [])

pub flattening_determines : FlatteningDetermines
flattening_determines e e' h h' same = sym (flattening_read_back e h) ∙ ap read_flat same
    ∙ flattening_read_back e' h'
