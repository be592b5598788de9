use Rattle.std.proofs.Common.{List, ap, ◌∙◌, refl}
use Rattle.std.proofs.lemmas.Result.{err_from_is_err_and}
use Rattle.std.specs.Prelude.{codes}
use Rattle.w4_defs.specs.Endings.{manner_of}
use Rattle.w4_defs.specs.Recording.{Recording}
use Rattle.w4_defs.specs.InputsText.{input_lines}
use Rattle.w4_defs.specs.declared.console.Input.{Input}
use Rattle.w4_answers.specs.Writing.{StopsWriting, Written}
use Rattle.w4_answers.proofs.WritingLaws.{stops_more}
use Rattle.w4_commands.proofs.WaveLaws.{header_and_more}
use Rattle.w4_commands.proofs.RecordingLaws.{text_of_parts}
use Rattle.w4_commands.proofs.recordings.write_text.Goals as goal

pub returns-clause-out : goal.returns-clause-out
returns-clause-out g c =
    let old = g.H.House.world c.args.house.now in
    let now = g.H.House.world c.write_bytes.new.house in
    let new = g.H.House.world c.write_lines.new.house in
    let remarks = c.as_slice.result.now in
    let lines = input_lines (codes "insert") 0 c.as_slice-2.result.now in
    text_of_parts (λ text. Written old new c.write_lines.result text) c.args.recording.now remarks lines
    (c.as_slice.ensures.value ∙ c.in_ok-remarks.ensures)
    (ap (λ (inputs : List Input). input_lines (codes "insert") 0 inputs)
    (c.as_slice-2.ensures.value ∙ ap (λ (r : Recording). r.frames) c.recording.view_is))
    (header_and_more c.write_lines.result old now new remarks lines
    c.in_ok-write_bytes.ensures.rest.later c.in_ok-write_bytes.ensures.out c.write_lines.ensures.out)

pub returns-in_err-write_bytes-clause-out : goal.returns-in_err-write_bytes-clause-out
returns-in_err-write_bytes-clause-out g c =
    let p =
    err_from_is_err_and c.from_residual-in_err-write_bytes.result
    c.from_residual-in_err-write_bytes.ensures.1 in
    let old = g.H.House.world c.args.house.now in
    let new = g.H.House.world c.write_bytes.new.house in
    let why = manner_of c.in_err-write_bytes.field-0.0 in
    let remarks = c.as_slice.result.now in
    let lines = input_lines (codes "insert") 0 c.args.recording.now.frames in
    rw (p.1, p.2)
    (text_of_parts (λ text. StopsWriting old new why text) c.args.recording.now remarks lines
    (c.as_slice.ensures.value ∙ c.in_ok-remarks.ensures) refl
    (stops_more old new why remarks lines c.in_err-write_bytes.ensures.out))
