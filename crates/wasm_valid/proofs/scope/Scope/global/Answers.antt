use Rattle.std.proofs.Common.{◌∙◌, ap, sym, map, arith}
use Rattle.std.specs.Prelude.{slice_get}
use Rattle.std.proofs.lemmas.List.{length-map}
use Rattle.std.proofs.lemmas.Option.{slice_get-map, slice_get_past}
use Rattle.w4_defs.specs.Module.{Global}
use Rattle.w4_defs.specs.Lookup.{global_types}
use Rattle.wasm_valid.proofs.ProfileLaws.{own_globals}
use Rattle.wasm_valid.proofs.scope.Scope.global.Goals as goal

pub returns-then-index-global_count : goal.returns-then-index-global_count
returns-then-index-global_count c =
    let m = c.self.inside.code.now in
    sym (c.global_type.ensures) ∙ sym (slice_get-map (λ (g : Global). g.global) m.globals c.args.index)
    ∙ ap (λ gs. slice_get gs c.args.index) (sym (own_globals m c.self.invariant.0))
    ∙ ap (λ x. slice_get (global_types x.within) c.args.index) c.self.view_is

pub returns-else-index-global_count : goal.returns-else-index-global_count
returns-else-index-global_count c =
    let m = c.self.inside.code.now in
    sym (slice_get_past (map (λ (g : Global). g.global) m.globals) c.args.index
    (omega (
      arith,
      c.if-index-global_count.false,
      c.global_count.ensures,
      length-map m.globals (λ (g : Global). g.global),
    )))
    ∙ ap (λ gs. slice_get gs c.args.index) (sym (own_globals m c.self.invariant.0))
    ∙ ap (λ x. slice_get (global_types x.within) c.args.index) c.self.view_is
