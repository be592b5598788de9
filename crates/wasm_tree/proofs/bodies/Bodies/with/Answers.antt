use Rattle.std.proofs.Common.{◌++◌, ◌∷◌, [], ◌∙◌, ap, length, map, subst}
use Rattle.w4_defs.specs.Tree.{flat}
use Rattle.w4_defs.specs.Flattening.{IsProper}
use Rattle.wasm_tree.specs.Shifting.{shifted_mark}
use Rattle.wasm_tree.proofs.LayoutLaws.{layout_shown, lays, one_more_laid}
use Rattle.wasm_tree.proofs.bodies.Bodies.with.Goals as goal

pub invariant_of-result : goal.invariant_of-result
invariant_of-result c =
    let ms = c.self.inside.marks in
    let flat_marks = c.marks-flat_marks.ensures.flat_marks ∙ ap (λ f. flat f.list) c.body.view_is in
    let h =
    one_more_laid ms c.in_ok-marks.marks _ c.push.new.self.items c.args.self c.args.body c.len-start.result
    c.len-count.result (layout_shown _ _ c.args.self c.self.invariant c.self.view_is)
    (subst IsProper (ap (λ f. f.list) c.body.view_is) c.marks-flat_marks.ensures.proper)
    c.len-start.ensures (c.len-count.ensures ∙ ap length flat_marks)
    (c.in_ok-marks.ensures ∙ ap (λ xs. ms ++ map (shifted_mark (length ms)) xs) flat_marks)
    (c.in_ok-push.ensures.items
    ∙ ap (λ f. c.self.inside.positions.items
    ++ record { start = c.len-start.result; count = c.len-count.result; runs = f.runs } ∷ [])
    c.body.view_is) in
    (c.args.self ++ c.args.body ∷ [], h.0, h.1, h.2)

pub returns : goal.returns
returns c =
    let ms = c.self.inside.marks in
    let flat_marks = c.marks-flat_marks.ensures.flat_marks ∙ ap (λ f. flat f.list) c.body.view_is in
    let h =
    one_more_laid ms c.in_ok-marks.marks _ c.push.new.self.items c.args.self c.args.body c.len-start.result
    c.len-count.result (layout_shown _ _ c.args.self c.self.invariant c.self.view_is)
    (subst IsProper (ap (λ f. f.list) c.body.view_is) c.marks-flat_marks.ensures.proper)
    c.len-start.ensures (c.len-count.ensures ∙ ap length flat_marks)
    (c.in_ok-marks.ensures ∙ ap (λ xs. ms ++ map (shifted_mark (length ms)) xs) flat_marks)
    (c.in_ok-push.ensures.items
    ∙ ap (λ f. c.self.inside.positions.items
    ++ record { start = c.len-start.result; count = c.len-count.result; runs = f.runs } ∷ [])
    c.body.view_is) in
    lays _ _ (c.args.self ++ c.args.body ∷ []) h.0 h.1 h.2
