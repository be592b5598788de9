use borrow.Author.Count.{below_more}
use Rattle.w4_defs.specs.Validity.{IsTypedAt}
use Rattle.wasm_valid.proofs.validation.first_untyped.Goals as goal

pub loop-func-preserved : goal.loop-func-preserved
loop-func-preserved c =
    below_more (IsTypedAt c.args.code.now) c.loop-func.func c.loop-func.invariant
    (c.in_ok-body_has_type.ensures.0 c.if-not-branch.false)
