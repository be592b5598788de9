use Rattle.std.proofs.Common.{◌+◌, ◌∙◌, ap, arith, sym, reverse}
use Rattle.std.specs.Prelude.{slice_get}
use Rattle.wasm_valid.specs.Pass.{label_types}
use Rattle.wasm_valid.specs.ControlStack.{all_frames, blocks_of_frames}
use Rattle.wasm_valid.proofs.ControlStackLaws.{no_label, some_label}
use Rattle.wasm_valid.proofs.control_stack.ControlStack.outer_label.Goals as goal

pub returns-then-depth-len : goal.returns-then-depth-len
returns-then-depth-len c =
    let s = c.self.inside in
    some_label c.in-Some.field-0 c.index.result.now s.outer.items (reverse s.operands.items) c.args.depth _
    (omega (arith, c.if-depth-len.true, c.len.ensures, s.outer.ok))
    (omega (arith, c.len-then-depth-len.ensures, s.outer.ok)) c.index.ensures
    ∙ ap (λ os. slice_get (label_types os) (c.args.depth + 1))
    (ap (λ i. blocks_of_frames (all_frames i s.outer.items) (reverse s.operands.items)) (sym c.in-Some.is)
    ∙ c.self.view_is)

pub returns-else-depth-len : goal.returns-else-depth-len
returns-else-depth-len c =
    let s = c.self.inside in
    no_label c.in-Some.field-0 s.outer.items (reverse s.operands.items) c.args.depth
    (omega (arith, c.if-depth-len.false, c.len.ensures, s.outer.ok))
    ∙ ap (λ os. slice_get (label_types os) (c.args.depth + 1))
    (ap (λ i. blocks_of_frames (all_frames i s.outer.items) (reverse s.operands.items)) (sym c.in-Some.is)
    ∙ c.self.view_is)
