use Rattle.std.proofs.Common.{map, string_bytes, sym}
use Rattle.w4_commands.specs.Forms.{form_view}
use Rattle.w4_program.proofs.RunLaws.{form_obeyed}
use Rattle.w4_program.proofs.run.obey.Goals as goal

pub returns-in-Some-clause-obeyed : goal.returns-in-Some-clause-obeyed
returns-in-Some-clause-obeyed g c =
    form_obeyed (g.H.House.world c.args.house.now) (g.H.House.world c.run_form.new.house)
    (map string_bytes c.args.words.now) (form_view c.in-Some.form) c.run_form.result c.status_of.result
    (sym c.in-Some.ensures) c.status_of.ensures c.run_form.ensures.ends
