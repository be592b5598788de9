use Rattle.std.proofs.lemmas.Result.{err_from_is_err_and}
use Rattle.w4_defs.specs.RecordingOutputs.{compare_files, compare_output, compared_runs}
use Rattle.w4_commands.specs.Compare.{two_view}
use Rattle.w4_commands.specs.Load.{cart_view}
use Rattle.w4_commands.specs.Forms.{compare_view}
use Rattle.w4_commands.proofs.CommandLaws.{ends_unmade}
use Rattle.w4_commands.proofs.CompareLaws.{ends_sides}
use Rattle.w4_commands.proofs.compare.compare_carts.Goals as goal

pub returns-clause-ends : goal.returns-clause-ends
returns-clause-ends g c =
    let one = cart_view c.args.file.now in
    let other = cart_view c.args.other.now in
    ends_sides (g.H.House.world c.args.house.now) (g.H.House.world c.load_compare.new.house)
    (g.H.House.world c.write_comparison.new.house) c.in_ok-loaded.ensures.rest c.write_comparison.ensures.rest
    (compare_view c.args.names) one other (two_view c.in_ok-loaded.loaded)
    (c.in_ok-loaded.ensures.gives one.code other.code) c.args.file.now.meaning c.args.other.now.meaning
    c.write_comparison.result c.write_comparison.ensures.out

pub returns-in_err-loaded-clause-ends : goal.returns-in_err-loaded-clause-ends
unfolding compare_output
returns-in_err-loaded-clause-ends g c =
    let p = err_from_is_err_and c.from_residual.result c.from_residual.ensures.1 in
    let one = cart_view c.args.file.now in
    let other = cart_view c.args.other.now in
    rw (p.1, p.2)
    (ends_unmade (g.H.House.world c.args.house.now) (g.H.House.world c.load_compare.new.house)
    c.in_err-loaded.field-0.0 (λ files. compare_files (compare_view c.args.names) one other files)
    (compared_runs one.code other.code) c.in_err-loaded.ensures.rest
    (c.in_err-loaded.ensures.gives one.code other.code))
