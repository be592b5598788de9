use Rattle.std.proofs.Common.{◌∙◌, ap, arith, sym, reverse, length, drop}
use Rattle.wasm_valid.specs.ControlStack.{all_frames, blocks_of_frames}
use Rattle.wasm_valid.proofs.ControlStackLaws.{left, nested_base}
use Rattle.wasm_valid.proofs.control_stack.ControlStack.leave.Goals as goal

pub returns-in-Some : goal.returns-in-Some
returns-in-Some c =
    let s = c.self.inside in
    left c.in-Some.frame s.outer.items _ _ s.operands.items _ c.truncate.ensures.items
    (nested_base s.inner c.in-Some.frame s.outer.items (length s.operands.items) c.self.invariant
    c.in-Some.is)
    c.pop-self-inside.ensures.items (λ h. c.pop-self-inside.ensures.variant.1 (omega (arith, h, s.outer.ok)))
    ∙ ap (drop 1) (ap (λ i. blocks_of_frames (all_frames i s.outer.items) (reverse s.operands.items))
    (sym c.in-Some.is)
    ∙ c.self.view_is)
