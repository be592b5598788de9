use Rattle.std.proofs.Common.{◌≡◌, Some}
use Rattle.std.proofs.lemmas.Result.{err_from_is_err_and}
use Rattle.w4_defs.specs.RecordingOutputs.{compare_output}
use Rattle.w4_commands.specs.Load.{cart_view}
use Rattle.w4_commands.specs.Forms.{compare_view}
use Rattle.w4_commands.proofs.CommandLaws.{ends_judged, ends_unjudged}
use Rattle.w4_commands.proofs.compare.compare_first.Goals as goal

pub returns-clause-ends : goal.returns-clause-ends
returns-clause-ends g c =
    ends_judged (g.H.House.world c.args.house.now) (g.H.House.world c.load_cart.new.house)
    (g.H.House.world c.compare_carts-end.new.house) c.compare_carts-end.result c.args.names.other_cart.now
    (cart_view c.in_ok-other.other)
    (λ other files output.
    compare_output (compare_view c.args.names) (cart_view c.args.file.now) other files ≡ Some output)
    c.in_ok-other.ensures.rest c.in_ok-other.ensures.gives c.compare_carts-end.ensures.ends

pub returns-in_err-other-clause-ends : goal.returns-in_err-other-clause-ends
returns-in_err-other-clause-ends g c =
    let p = err_from_is_err_and c.from_residual.result c.from_residual.ensures.1 in
    rw (p.1, p.2)
    (ends_unjudged (g.H.House.world c.args.house.now) (g.H.House.world c.load_cart.new.house)
    c.in_err-other.field-0.0 c.args.names.other_cart.now
    (λ other files output.
    compare_output (compare_view c.args.names) (cart_view c.args.file.now) other files ≡ Some output)
    c.in_err-other.ensures.rest c.in_err-other.ensures.gives)
