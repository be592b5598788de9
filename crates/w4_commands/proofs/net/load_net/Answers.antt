-- Each exit: what stopped this step stops the whole, after the step that went before it.
use Rattle.std.proofs.Common.{Ok}
use Rattle.std.proofs.lemmas.Result.{err_from_is_err_and}
use Rattle.w4_defs.specs.Endings.{manner_of}
use Rattle.w4_defs.specs.Output.{◌>>=◌, font_in}
use Rattle.w4_defs.specs.ToolOutputs.{log_in, net_files}
use Rattle.w4_commands.proofs.LoadLaws.{stops_first, stops_later}
use Rattle.w4_commands.proofs.net.load_net.Goals as goal

pub returns-in_err-font-clause-gives : goal.returns-in_err-font-clause-gives
unfolding net_files
returns-in_err-font-clause-gives g c =
    let p = err_from_is_err_and c.from_residual.result c.from_residual.ensures.1 in
    rw (p.1, p.2)
    (stops_first (g.H.House.world c.args.house.now) (g.H.House.world c.load_font.new.house)
    (manner_of c.in_err-font.field-0.0) (λ files. font_in files c.args.names.font.now)
    (λ files font. log_in files c.args.names.log.now >>= λ orders.
    Ok (record { font = font; orders = orders }))
    c.in_err-font.ensures.gives)

pub returns-in_err-orders-clause-gives : goal.returns-in_err-orders-clause-gives
unfolding net_files
returns-in_err-orders-clause-gives g c =
    let p =
    err_from_is_err_and c.from_residual-in_err-orders.result c.from_residual-in_err-orders.ensures.1 in
    let font = c.in_ok-font.font in
    rw (p.1, p.2)
    (stops_later (g.H.House.world c.args.house.now) (g.H.House.world c.load_font.new.house)
    (g.H.House.world c.load_log.new.house) (manner_of c.in_err-orders.field-0.0)
    (λ files. font_in files c.args.names.font.now) font
    (λ files font. log_in files c.args.names.log.now >>= λ orders.
    Ok (record { font = font; orders = orders }))
    c.in_ok-font.ensures.rest c.in_ok-font.ensures.gives
    (stops_first (g.H.House.world c.load_font.new.house) (g.H.House.world c.load_log.new.house)
    (manner_of c.in_err-orders.field-0.0) (λ files. log_in files c.args.names.log.now)
    (λ files orders. Ok (record { font = font; orders = orders })) c.in_err-orders.ensures.gives))
