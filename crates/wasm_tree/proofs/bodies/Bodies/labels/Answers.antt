use Rattle.std.proofs.Common.{arith, ap, sym, length, ◌∙◌, ◌+◌}
use Rattle.std.specs.Prelude.{slice_get, option_map}
use Rattle.wasm_tree.proofs.PoolLaws.{length_shown}
use Rattle.wasm_tree.proofs.MarkLaws.{stands_in_function, labels_found, index_small}
use Rattle.wasm_tree.proofs.bodies.Bodies.labels.Goals as goal

pub body_start-start-requires : goal.body_start-start-requires
body_start-start-requires c = index_small c.args.self.now c.args.func c.args.position c.requires

pub position_among-at-requires : goal.position_among-at-requires
position_among-at-requires c =
    let ms = c.marks-marks.result.now in
    let s = stands_in_function _ c.args.self.now c.args.func c.body_start-start.result c.args.position
    c.body_start-start.ensures.stands c.marks-marks.ensures.proper c.requires in
    omega (arith, s.within, length_shown _ ms c.ops.ensures, ap length c.marks-marks.ensures.flat_marks)

pub labels-requires : goal.labels-requires
labels-requires c =
    let ms = c.marks-marks.result.now in
    let s = stands_in_function _ c.args.self.now c.args.func c.body_start-start.result c.args.position
    c.body_start-start.ensures.stands c.marks-marks.ensures.proper c.requires in
    omega (arith, s.within, c.position_among-at.ensures, ap length c.marks-marks.ensures.flat_marks)

pub returns : goal.returns
returns c =
    let s = stands_in_function _ c.args.self.now c.args.func c.body_start-start.result c.args.position
    c.body_start-start.ensures.stands c.marks-marks.ensures.proper c.requires in
    labels_found _ c.body_start-start.result c.args.position _ s c.labels.result.now
    (ap (λ ms. option_map (λ m. m.1) (slice_get ms (c.body_start-start.result + c.args.position)))
    (sym c.marks-marks.ensures.flat_marks)
    ∙ ap (λ at. option_map (λ m. m.1) (slice_get c.marks-marks.result.now at))
    (sym c.position_among-at.ensures) ∙ c.labels.ensures)
