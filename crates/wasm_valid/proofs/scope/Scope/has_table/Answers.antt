use Rattle.std.proofs.Common.{◌∙◌, ap, sym, length}
use Rattle.std.specs.Prelude.{nat_lt}
use Rattle.w4_defs.specs.Lookup.{tables_of}
use Rattle.wasm_valid.proofs.ProfileLaws.{own_tables}
use Rattle.wasm_valid.proofs.scope.Scope.has_table.Goals as goal

pub returns : goal.returns
returns c =
    ap (λ ts. nat_lt c.args.table (length ts))
    (c.tables.ensures ∙ sym (own_tables c.self.inside.code.now c.self.invariant.0))
    ∙ ap (λ x. nat_lt c.args.table (length (tables_of x.within))) c.self.view_is
