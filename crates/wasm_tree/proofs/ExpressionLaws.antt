-- Marks that are a flattening, by the tree that they show.
use Rattle.std.proofs.Common.{◌≡◌, List, sym, subst, ◌∙◌, ap}
use Rattle.w4_defs.specs.Tree.{Mark, Expr, flat}
use Rattle.w4_defs.specs.Flattening.{IsProper, read_flat}
use Rattle.w4_defs.proofs.ReadBack.{flattening_read_back}
use Rattle.wasm_tree.specs.Expressions.{IsFlat}

pub flat_shown : (ms : List Mark) (e : Expr) → IsFlat ms → read_flat ms ≡ e → IsProper e × (ms ≡ flat e)
flat_shown ms e h shows =
    let same : h.0 ≡ e = sym (flattening_read_back h.0 h.1) ∙ ap read_flat (sym h.2) ∙ shows in
    (subst IsProper same h.1, h.2 ∙ ap flat same)
