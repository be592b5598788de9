use Rattle.std.proofs.lemmas.Result.{err_from_is_err_and}
use Rattle.w4_defs.specs.Endings.{manner_of}
use Rattle.w4_defs.specs.Sound.{samples}
use Rattle.w4_answers.specs.Writing.{Written, StopsWriting}
use Rattle.w4_answers.proofs.WritingLaws.{stops_more}
use Rattle.w4_commands.proofs.WaveLaws.{header_and_more, of_records}
use Rattle.w4_commands.proofs.wave.write_sound.Goals as goal

pub returns-clause-out : goal.returns-clause-out
returns-clause-out g c =
    let old = g.H.House.world c.args.house.now in
    let now = g.H.House.world c.write_header.new.house in
    let new = g.H.House.world c.write_samples.new.house in
    of_records (λ text. Written old new c.write_samples.result text) _ _
    (λ all is. header_and_more c.write_samples.result old now new _ (samples all)
    c.in_ok-write_header.ensures.rest.later c.in_ok-write_header.ensures.out
    (c.write_samples.ensures.out all is))

pub returns-in_err-write_header-clause-out : goal.returns-in_err-write_header-clause-out
returns-in_err-write_header-clause-out g c =
    let p = err_from_is_err_and c.from_residual.result c.from_residual.ensures.1 in
    let old = g.H.House.world c.args.house.now in
    let new = g.H.House.world c.write_header.new.house in
    let why = manner_of c.in_err-write_header.field-0.0 in
    rw (p.1, p.2)
    (of_records (λ text. StopsWriting old new why text) _ _
    (λ all is. stops_more old new why _ (samples all) c.in_err-write_header.ensures.out))
