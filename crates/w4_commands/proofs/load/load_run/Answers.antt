-- Each exit: what stopped this step stops the whole, after the step that went before it.
use Rattle.std.proofs.Common.{Ok}
use Rattle.std.proofs.lemmas.Result.{err_from_is_err_and}
use Rattle.w4_defs.specs.Endings.{manner_of}
use Rattle.w4_defs.specs.Output.{◌>>=◌, recording_in, font_in, run_files}
use Rattle.w4_commands.proofs.LoadLaws.{stops_first, stops_later}
use Rattle.w4_commands.proofs.load.load_run.Goals as goal

pub returns-in_err-recording-clause-gives : goal.returns-in_err-recording-clause-gives
unfolding run_files
returns-in_err-recording-clause-gives g c =
    let p = err_from_is_err_and c.from_residual.result c.from_residual.ensures.1 in
    rw (p.1, p.2)
    (stops_first (g.H.House.world c.args.house.now) (g.H.House.world c.load_recording.new.house)
    (manner_of c.in_err-recording.field-0.0)
    (λ files. recording_in c.args.digest.now files c.args.names.recording.now)
    (λ files recording. font_in files c.args.names.font.now >>= λ font.
    Ok (record { recording = recording; font = font }))
    c.in_err-recording.ensures.gives)

pub returns-in_err-font-clause-gives : goal.returns-in_err-font-clause-gives
unfolding run_files
returns-in_err-font-clause-gives g c =
    let p = err_from_is_err_and c.from_residual-in_err-font.result c.from_residual-in_err-font.ensures.1 in
    let recording = c.in_ok-recording.recording in
    rw (p.1, p.2)
    (stops_later (g.H.House.world c.args.house.now) (g.H.House.world c.load_recording.new.house)
    (g.H.House.world c.load_font.new.house) (manner_of c.in_err-font.field-0.0)
    (λ files. recording_in c.args.digest.now files c.args.names.recording.now) recording
    (λ files recording. font_in files c.args.names.font.now >>= λ font.
    Ok (record { recording = recording; font = font }))
    c.in_ok-recording.ensures.rest c.in_ok-recording.ensures.gives
    (stops_first (g.H.House.world c.load_recording.new.house) (g.H.House.world c.load_font.new.house)
    (manner_of c.in_err-font.field-0.0) (λ files. font_in files c.args.names.font.now)
    (λ files font. Ok (record { recording = recording; font = font }))
    c.in_err-font.ensures.gives))
