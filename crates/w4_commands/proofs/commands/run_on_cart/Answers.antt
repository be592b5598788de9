use Rattle.std.proofs.Common.{◌≡◌, ◌+◌, ◌-◌, arith, subst}
use Rattle.w4_defs.specs.declared.place_text.PlaceText.TheVariants as wanted
use Rattle.w4_defs.specs.Output.{blank_output, checked, disk_output, images_output, place_texts_from}
use Rattle.w4_defs.specs.Output.{printing, run_files_to, written}
use Rattle.w4_defs.specs.RecordingOutputs.{blank_disk_output, rebind_output}
use Rattle.w4_defs.specs.ToolOutputs.{batch_output}
use Rattle.w4_commands.specs.Commands.{EndsDone, MakesOf}
use Rattle.w4_commands.specs.Load.{ResultsIn, cart_view}
use Rattle.w4_commands.specs.Forms.{batch_view, run_view}
use Rattle.w4_commands.proofs.CommandLaws.{by_any}
use Rattle.w4_commands.proofs.WholeTextLaws.{whole_ended}
use Rattle.w4_commands.proofs.commands.run_on_cart.Goals as goal

pub returns-in-Check-clause-ends : goal.returns-in-Check-clause-ends
returns-in-Check-clause-ends g c = rw c.in-Check.is
    (by_any (g.H.House.world c.args.house.now) (g.H.House.world c.run_check.new.house) c.run_check.result
    (MakesOf (λ files. written checked)) c.run_check.ensures.ends)

pub returns-in-Blank-clause-ends : goal.returns-in-Blank-clause-ends
returns-in-Blank-clause-ends g c = rw c.in-Blank.is
    (by_any (g.H.House.world c.args.house.now) (g.H.House.world c.run_blank.new.house) c.run_blank.result
    (MakesOf (λ files. blank_output c.in-Blank.budget.units (cart_view c.args.file.now)))
    c.run_blank.ensures.ends)

pub returns-in-BlankDisk-clause-ends : goal.returns-in-BlankDisk-clause-ends
returns-in-BlankDisk-clause-ends g c = rw c.in-BlankDisk.is
    (by_any (g.H.House.world c.args.house.now) (g.H.House.world c.run_blank_disk.new.house)
    c.run_blank_disk.result
    (ResultsIn (λ files. blank_disk_output c.in-BlankDisk.budget.units c.in-BlankDisk.disk.now
    (cart_view c.args.file.now) files)) c.run_blank_disk.ensures.ends)

pub returns-in-Rebind-clause-ends : goal.returns-in-Rebind-clause-ends
returns-in-Rebind-clause-ends g c = rw c.in-Rebind.is
    (by_any (g.H.House.world c.args.house.now) (g.H.House.world c.run_rebind.new.house) c.run_rebind.result
    (ResultsIn (λ files. rebind_output c.in-Rebind.recording.now (cart_view c.args.file.now) files))
    c.run_rebind.ensures.ends)

pub returns-in-Frames-clause-ends : goal.returns-in-Frames-clause-ends
unfolding images_output
returns-in-Frames-clause-ends g c = rw c.in-Frames.is
    (by_any (g.H.House.world c.args.house.now) (g.H.House.world c.run_places.new.house) c.run_places.result
    (MakesOf (λ files. images_output (run_view c.in-Frames.names) c.in-Frames.places.from
    c.in-Frames.places.to (cart_view c.args.file.now) files)) c.run_places.ensures.ends)

pub returns-in-Disk-clause-ends : goal.returns-in-Disk-clause-ends
unfolding disk_output
returns-in-Disk-clause-ends g c =
    let old = g.H.House.world c.args.house.now in
    let new = g.H.House.world c.run_places-in-Disk.new.house in
    let words = run_view c.in-Disk.names in
    let cart = cart_view c.args.file.now in
    let place = c.in-Disk.place in
    let one : place + 1 - place ≡ 1 = omega arith in
    rw c.in-Disk.is
    (by_any old new c.run_places-in-Disk.result (MakesOf (λ files. disk_output words place cart files))
    (subst (λ count. EndsDone old new c.run_places-in-Disk.result (MakesOf (λ files.
    printing (run_files_to cart.digest words place files)
    (λ p. place_texts_from wanted.DiskBytes cart.code p place count)))) one
    c.run_places-in-Disk.ensures.ends))

pub returns-in-Whole-clause-ends : goal.returns-in-Whole-clause-ends
returns-in-Whole-clause-ends g c =
    let old = g.H.House.world c.args.house.now in
    let new = g.H.House.world c.run_whole.new.house in
    rw c.in-Whole.is
    (whole_ended old new c.run_whole.result c.in-Whole.text (run_view c.in-Whole.names)
    (cart_view c.args.file.now)
    c.run_whole.ensures.ends)

pub returns-in-Batch-clause-ends : goal.returns-in-Batch-clause-ends
returns-in-Batch-clause-ends g c = rw c.in-Batch.is
    (by_any (g.H.House.world c.args.house.now) (g.H.House.world c.run_batch.new.house) c.run_batch.result
    (MakesOf (λ files. batch_output (batch_view c.in-Batch.names) (cart_view c.args.file.now) files))
    c.run_batch.ensures.ends)
