-- Each exit: what stopped this step stops the whole, after the steps that went before it.
use Rattle.std.proofs.Common.{Ok, map, string_bytes}
use Rattle.std.proofs.lemmas.Result.{err_from_is_err_and}
use Rattle.w4_defs.specs.Endings.{manner_of}
use Rattle.w4_defs.specs.Output.{◌>>=◌, font_in}
use Rattle.w4_defs.specs.ToolOutputs.{batch_files, listed_files, names_in}
use Rattle.w4_commands.proofs.LoadLaws.{stops_first, stops_later}
use Rattle.w4_commands.proofs.batch.load_batch.Goals as goal

pub returns-in_err-font-clause-gives : goal.returns-in_err-font-clause-gives
unfolding batch_files
returns-in_err-font-clause-gives g c =
    let p = err_from_is_err_and c.from_residual.result c.from_residual.ensures.1 in
    rw (p.1, p.2)
    (stops_first (g.H.House.world c.args.house.now) (g.H.House.world c.load_font.new.house)
    (manner_of c.in_err-font.field-0.0) (λ files. font_in files c.args.names.font.now)
    (λ files font. names_in files c.args.names.list.now >>= λ names.
    listed_files names files >>= λ recordings.
    Ok (record { font = font; names = names; recordings = recordings }))
    c.in_err-font.ensures.gives)

pub returns-in_err-listed-clause-gives : goal.returns-in_err-listed-clause-gives
unfolding batch_files
returns-in_err-listed-clause-gives g c =
    let p =
    err_from_is_err_and c.from_residual-in_err-listed.result c.from_residual-in_err-listed.ensures.1 in
    let font = c.in_ok-font.font in
    rw (p.1, p.2)
    (stops_later (g.H.House.world c.args.house.now) (g.H.House.world c.load_font.new.house)
    (g.H.House.world c.load_names.new.house) (manner_of c.in_err-listed.field-0.0)
    (λ files. font_in files c.args.names.font.now) font
    (λ files font. names_in files c.args.names.list.now >>= λ names.
    listed_files names files >>= λ recordings.
    Ok (record { font = font; names = names; recordings = recordings }))
    c.in_ok-font.ensures.rest c.in_ok-font.ensures.gives
    (stops_first (g.H.House.world c.load_font.new.house) (g.H.House.world c.load_names.new.house)
    (manner_of c.in_err-listed.field-0.0) (λ files. names_in files c.args.names.list.now)
    (λ files names. listed_files names files >>= λ recordings.
    Ok (record { font = font; names = names; recordings = recordings })) c.in_err-listed.ensures.gives))

pub returns-in_err-recordings-clause-gives : goal.returns-in_err-recordings-clause-gives
unfolding batch_files
returns-in_err-recordings-clause-gives g c =
    let p =
    err_from_is_err_and c.from_residual-in_err-recordings.result
    c.from_residual-in_err-recordings.ensures.1 in
    let font = c.in_ok-font.font in
    let names = map string_bytes c.in_ok-listed.listed.items in
    let first = g.H.House.world c.args.house.now in
    let second = g.H.House.world c.load_font.new.house in
    let third = g.H.House.world c.load_names.new.house in
    let fourth = g.H.House.world c.load_listed.new.house in
    rw (p.1, p.2)
    (stops_later first second fourth (manner_of c.in_err-recordings.field-0.0)
    (λ files. font_in files c.args.names.font.now) font
    (λ files font. names_in files c.args.names.list.now >>= λ names.
    listed_files names files >>= λ recordings.
    Ok (record { font = font; names = names; recordings = recordings }))
    c.in_ok-font.ensures.rest c.in_ok-font.ensures.gives
    (stops_later second third fourth (manner_of c.in_err-recordings.field-0.0)
    (λ files. names_in files c.args.names.list.now) names
    (λ files names. listed_files names files >>= λ recordings.
    Ok (record { font = font; names = names; recordings = recordings }))
    c.in_ok-listed.ensures.rest c.in_ok-listed.ensures.gives
    (stops_first third fourth (manner_of c.in_err-recordings.field-0.0) (λ files. listed_files names files)
    (λ files recordings. Ok (record { font = font; names = names; recordings = recordings }))
    (rw (← c.as_slice.ensures.value) c.in_err-recordings.ensures.gives))))
