-- Each exit: what stopped this step stops the whole, after the steps that went before it.
use Rattle.std.proofs.Common.{Ok}
use Rattle.std.proofs.lemmas.Result.{err_from_is_err_and}
use Rattle.w4_defs.specs.Endings.{manner_of}
use Rattle.w4_defs.specs.Output.{◌>>=◌, recording_in, font_in}
use Rattle.w4_defs.specs.RecordingOutputs.{compare_files}
use Rattle.w4_commands.proofs.LoadLaws.{stops_first, stops_later}
use Rattle.w4_commands.proofs.compare.load_compare.Goals as goal

pub returns-in_err-first-clause-gives : goal.returns-in_err-first-clause-gives
unfolding compare_files
returns-in_err-first-clause-gives g c = λ code other_code.
    let p = err_from_is_err_and c.from_residual.result c.from_residual.ensures.1 in
    rw (p.1, p.2)
    (stops_first (g.H.House.world c.args.house.now) (g.H.House.world c.load_recording.new.house)
    (manner_of c.in_err-first.field-0.0)
    (λ files. recording_in c.args.digest.now files c.args.names.recording.now)
    (λ files first. recording_in c.args.other_digest.now files c.args.names.other_recording.now >>= λ second.
    font_in files c.args.names.font.now >>= λ font.
    Ok (record {
      first = record { recording = first; font = font };
      second = record { recording = second; font = font };
    }))
    c.in_err-first.ensures.gives)

pub returns-in_err-second-clause-gives : goal.returns-in_err-second-clause-gives
unfolding compare_files
returns-in_err-second-clause-gives g c = λ code other_code.
    let p = err_from_is_err_and c.from_residual-in_err-second.result c.from_residual-in_err-second.ensures.1
    in
    let first = c.in_ok-first.first in
    let old = g.H.House.world c.args.house.now in
    let now = g.H.House.world c.load_recording.new.house in
    let new = g.H.House.world c.load_recording-2.new.house in
    let why = manner_of c.in_err-second.field-0.0 in
    rw (p.1, p.2)
    (stops_later old now new why (λ files. recording_in c.args.digest.now files c.args.names.recording.now)
    first
    (λ files first. recording_in c.args.other_digest.now files c.args.names.other_recording.now >>= λ second.
    font_in files c.args.names.font.now >>= λ font.
    Ok (record {
      first = record { recording = first; font = font };
      second = record { recording = second; font = font };
    }))
    c.in_ok-first.ensures.rest c.in_ok-first.ensures.gives
    (stops_first now new why
    (λ files. recording_in c.args.other_digest.now files c.args.names.other_recording.now)
    (λ files second. font_in files c.args.names.font.now >>= λ font.
    Ok (record {
      first = record { recording = first; font = font };
      second = record { recording = second; font = font };
    }))
    c.in_err-second.ensures.gives))

pub returns-in_err-font-clause-gives : goal.returns-in_err-font-clause-gives
unfolding compare_files
returns-in_err-font-clause-gives g c = λ code other_code.
    let p = err_from_is_err_and c.from_residual-in_err-font.result c.from_residual-in_err-font.ensures.1 in
    let first = c.in_ok-first.first in
    let second = c.in_ok-second.second in
    let old = g.H.House.world c.args.house.now in
    let now = g.H.House.world c.load_recording.new.house in
    let next = g.H.House.world c.load_recording-2.new.house in
    let new = g.H.House.world c.load_font.new.house in
    let why = manner_of c.in_err-font.field-0.0 in
    rw (p.1, p.2)
    (stops_later old now new why (λ files. recording_in c.args.digest.now files c.args.names.recording.now)
    first
    (λ files first. recording_in c.args.other_digest.now files c.args.names.other_recording.now >>= λ second.
    font_in files c.args.names.font.now >>= λ font.
    Ok (record {
      first = record { recording = first; font = font };
      second = record { recording = second; font = font };
    }))
    c.in_ok-first.ensures.rest c.in_ok-first.ensures.gives
    (stops_later now next new why
    (λ files. recording_in c.args.other_digest.now files c.args.names.other_recording.now) second
    (λ files second. font_in files c.args.names.font.now >>= λ font.
    Ok (record {
      first = record { recording = first; font = font };
      second = record { recording = second; font = font };
    }))
    c.in_ok-second.ensures.rest c.in_ok-second.ensures.gives
    (stops_first next new why (λ files. font_in files c.args.names.font.now)
    (λ files font.
    Ok (record {
      first = record { recording = first; font = font };
      second = record { recording = second; font = font };
    }))
    c.in_err-font.ensures.gives)))
