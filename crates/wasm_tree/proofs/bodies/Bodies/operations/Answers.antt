use Rattle.std.proofs.Common.{◌∙◌, ap}
use Rattle.w4_defs.specs.Flattening.{IsProper}
use Rattle.wasm_tree.specs.Pool.{operations_of}
use Rattle.wasm_tree.proofs.MarkLaws.{body_part, got_all}
use Rattle.wasm_tree.proofs.bodies.Bodies.operations.Goals as goal

pub part-requires : goal.part-requires
part-requires c =
    (body_part _ c.ops.result.now c.ops.result.now c.body_start.result c.body_size.result _
    (c.ops.ensures ∙ ap operations_of c.marks.ensures.flat_marks) c.body_start.ensures.stands
    c.body_size.ensures).0

pub returns-clause-value : goal.returns-clause-value
returns-clause-value c =
    (body_part _ c.ops.result.now c.part.result.now c.body_start.result c.body_size.result _
    (c.ops.ensures ∙ ap operations_of c.marks.ensures.flat_marks) c.body_start.ensures.stands
    c.body_size.ensures).1 c.part.ensures

pub returns-clause-proper : goal.returns-clause-proper
returns-clause-proper c = got_all (λ f. IsProper f.list) c.args.self.now c.args.func c.marks.ensures.proper
