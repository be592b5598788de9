use Rattle.std.proofs.Common.{◌∙◌, ap, sym, cond, Some, None, option_map}
use Rattle.wasm_valid.proofs.BlockLaws.{bare_left, finished}
use Rattle.wasm_valid.proofs.control_stack.ControlStack.finish.Goals as goal

pub returns-then-take_all-clause-value : goal.returns-then-take_all-clause-value
returns-then-take_all-clause-value c =
    c.has_no_operands.ensures
    ∙ sym (finished c.args.self.now c.in-Some.results.now
    (sym (ap (option_map (λ ts. ts.now)) c.in-Some.is) ∙ c.results.ensures)
    ∙ ap bare_left c.take_all.ensures
    ∙ ap (λ b. bare_left (cond b (Some c.take_all.new.self) None)) c.if-take_all.true)

pub returns-else-take_all-clause-value : goal.returns-else-take_all-clause-value
returns-else-take_all-clause-value c =
    c.if-take_all.false
    ∙ sym (finished c.args.self.now c.in-Some.results.now
    (sym (ap (option_map (λ ts. ts.now)) c.in-Some.is) ∙ c.results.ensures)
    ∙ ap bare_left c.take_all.ensures
    ∙ ap (λ b. bare_left (cond b (Some c.take_all.new.self) None)) c.if-take_all.false)
