use Rattle.std.proofs.Common.{◌∙◌, ap, reverse, length}
use Rattle.wasm_valid.specs.ControlStack.{on_top, with_operand, all_frames, blocks_of_frames}
use Rattle.wasm_valid.proofs.ControlStackLaws.{pushed_one, nested_base}
use Rattle.wasm_valid.proofs.control_stack.ControlStack.push.Goals as goal

pub returns : goal.returns
returns c =
    let s = c.self.inside in
    ap (λ ks. blocks_of_frames (all_frames s.inner s.outer.items) (reverse ks)) c.in_ok-push.ensures.items
    ∙ pushed_one s.inner s.outer.items s.operands.items c.args.operand
    (λ f e. nested_base s.inner f s.outer.items (length s.operands.items) c.self.invariant e)
    ∙ ap (on_top (with_operand c.args.operand)) c.self.view_is
