use Rattle.std.proofs.Common.{◌∙◌, ap, sym, reverse, length}
use Rattle.wasm_valid.specs.ControlStack.{on_top, without_operands, all_frames, blocks_of_frames}
use Rattle.wasm_valid.proofs.ControlStackLaws.{restarted, nested_base}
use Rattle.wasm_valid.proofs.control_stack.ControlStack.clear_operands.Goals as goal

pub returns-in-Some : goal.returns-in-Some
returns-in-Some c =
    let s = c.self.inside in
    restarted c.in-Some.frame (reverse s.outer.items) s.operands.items _ c.args.unreachable
    c.truncate.ensures.items
    (nested_base s.inner c.in-Some.frame s.outer.items (length s.operands.items) c.self.invariant
    c.in-Some.is)
    ∙ ap (on_top (without_operands c.args.unreachable))
    (ap (λ i. blocks_of_frames (all_frames i s.outer.items) (reverse s.operands.items)) (sym c.in-Some.is)
    ∙ c.self.view_is)
