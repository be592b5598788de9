use Rattle.std.proofs.Common.{◌≡◌, drop}
use Rattle.std.specs.Prelude.{zip}
use Rattle.std.specs.List.{list_any}
use Rattle.w4_defs.specs.Profile.{has_many_locals}
use Rattle.wasm_link.proofs.locals.has_many_locals.Given as goal

abbrev pub invariant-loop-func : goal.invariant-loop-func
invariant-loop-func l =
    list_any (has_many_locals l.code) (drop l.func (zip l.code.functions l.code.bodies))
    ≡ list_any (has_many_locals l.code) (zip l.code.functions l.code.bodies)
