use Rattle.std.proofs.Common.{map, string_bytes}
use Rattle.std.proofs.lemmas.Result.{err_from_is_err_and}
use Rattle.w4_defs.specs.Endings.{manner_of}
use Rattle.w4_defs.specs.Output.{reading}
use Rattle.w4_defs.specs.ToolOutputs.{listed_names, names_in}
use Rattle.w4_commands.proofs.LoadLaws.{stops_first, judged_by}
use Rattle.w4_commands.proofs.batch.load_names.Goals as goal

pub returns-in_err-bytes-clause-gives : goal.returns-in_err-bytes-clause-gives
unfolding names_in
returns-in_err-bytes-clause-gives g c =
    let p = err_from_is_err_and c.from_residual.result c.from_residual.ensures.1 in
    rw (p.1, p.2)
    (stops_first (g.H.House.world c.args.house.now) (g.H.House.world c.read_file.new.house)
    (manner_of c.in_err-bytes.field-0.0) (λ files. reading files c.args.name.now 65537)
    (λ files bytes. listed_names bytes) c.in_err-bytes.ensures.gives)

pub returns-clause-gives : goal.returns-clause-gives
unfolding names_in
returns-clause-gives g c =
    judged_by (g.H.House.world c.args.house.now) (g.H.House.world c.read_file.new.house)
    (λ names. map string_bytes names.items) c.judge_names.result listed_names 65536 c.args.name.now
    c.in_ok-bytes.bytes.items c.in_ok-bytes.ensures.gives
    (rw (← c.as_slice.ensures.value) c.judge_names.ensures)
