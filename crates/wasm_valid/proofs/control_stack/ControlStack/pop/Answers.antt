use Rattle.std.proofs.Common.{◌∙◌, ap, arith, sym, reverse}
use Rattle.std.specs.Prelude.{option_map}
use Rattle.wasm_valid.specs.ControlStack.{all_frames, blocks_of_frames, popped}
use Rattle.wasm_valid.proofs.ControlStackLaws.{popped_some}
use Rattle.wasm_valid.proofs.control_stack.ControlStack.pop.Goals as goal

pub returns-then-frame-len : goal.returns-then-frame-len
returns-then-frame-len c =
    let s = c.self.inside in
    sym (ap popped (ap (λ i. blocks_of_frames (all_frames i s.outer.items) (reverse s.operands.items))
    (sym c.in-Some.is)
    ∙ c.self.view_is))
    ∙ popped_some c.in-Some.frame (reverse s.outer.items) s.operands.items c.pop.new.self.items c.pop.result
    (omega (arith, c.if-frame-len.true, c.len.ensures, s.operands.ok)) c.pop.ensures.items
    (c.pop.ensures.variant.1 (omega (arith, c.if-frame-len.true, c.len.ensures)))
    ∙ ap (λ i. option_map
    (λ k. (k, blocks_of_frames (all_frames i s.outer.items) (reverse c.pop.new.self.items)))
    c.pop.result) (sym c.in-Some.is)
