use Rattle.std.proofs.Common.{◌≡◌, Some, refl}
use Rattle.std.proofs.lemmas.Result.{err_from_is_err_and}
use Rattle.w4_defs.specs.Commands.{Compare}
use Rattle.w4_defs.specs.Outputs.{OverCart}
use Rattle.w4_defs.specs.RecordingOutputs.{compare_output}
use Rattle.w4_commands.specs.Load.{cart_view}
use Rattle.w4_commands.specs.Forms.{compare_view}
use Rattle.w4_commands.proofs.CommandLaws.{any_talk, judged_form, unjudged_form}
use Rattle.w4_commands.proofs.compare.run_compare.Goals as goal

pub returns-clause-ends : goal.returns-clause-ends
returns-clause-ends g c =
    let old = g.H.House.world c.load_cart.new.house in
    let new = g.H.House.world c.compare_first-end.new.house in
    let words = compare_view c.args.names in
    let cart = cart_view c.in_ok-file.file in
    judged_form (g.H.House.world c.args.house.now) old new c.compare_first-end.result (Compare words)
    words.cart
    cart
    refl c.in_ok-file.ensures.rest c.in_ok-file.ensures.gives
    (any_talk old new c.compare_first-end.result
    (OverCart words.other_cart (λ other files output. compare_output words cart other files ≡ Some output))
    c.compare_first-end.ensures.ends)

pub returns-in_err-file-clause-ends : goal.returns-in_err-file-clause-ends
returns-in_err-file-clause-ends g c =
    let p = err_from_is_err_and c.from_residual.result c.from_residual.ensures.1 in
    let words = compare_view c.args.names in
    rw (p.1, p.2)
    (unjudged_form (g.H.House.world c.args.house.now) (g.H.House.world c.load_cart.new.house)
    c.in_err-file.field-0.0 (Compare words) words.cart refl c.in_err-file.ensures.rest
    c.in_err-file.ensures.gives)
