use Rattle.std.proofs.Common.{◌∙◌, ap, sym, length}
use Rattle.std.specs.Prelude.{nat_lt}
use Rattle.w4_defs.specs.Lookup.{memories_of}
use Rattle.w4_defs.specs.OperandTypes.{basic_type}
use Rattle.wasm_valid.proofs.ProfileLaws.{has_memory}
use Rattle.wasm_valid.proofs.scope.Scope.table_stack_type.Goals as goal

pub returns : goal.returns
returns c =
    c.table_stack_type.ensures ∙ ap (λ b. basic_type b c.args.basic)
    (sym (has_memory c.self.inside.code.now c.self.invariant.0))
    ∙ ap (λ x. basic_type (nat_lt 0 (length (memories_of x.within))) c.args.basic) c.self.view_is
