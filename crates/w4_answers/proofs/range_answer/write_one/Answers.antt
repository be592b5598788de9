use Rattle.w4_answers.specs.Writing.{Written}
use Rattle.w4_answers.specs.Desk.{text_by}
use Rattle.w4_defs.specs.declared.place_text.PlaceText.TheVariants.{Image}
use Rattle.w4_answers.proofs.WritingLaws.{there_is}
use Rattle.w4_answers.proofs.RangeAnswerLaws.{run_at, text_formed}
use Rattle.w4_answers.proofs.ScriptAnswerLaws.{on_ok}
use Rattle.w4_answers.proofs.range_answer.write_one.Goals as goal

pub returns-in_ok-make_image-in-Image-clause-out : goal.returns-in_ok-make_image-in-Image-clause-out
returns-in_ok-make_image-in-Image-clause-out g c =
    rw c.in-Image.is
    (there_is
    (λ text.
    Written (g.H.House.world c.args.house.now) (g.H.House.world c.write.new.house) c.write.result
    text)
    (text_by g.S.Shape.form c.args.desk.now.counted.editor Image c.args.place)
    (g.S.Shape.form c.make_image.new.self.image.value)
    (text_formed g.S.Shape.form Image c.args.place (run_at c.args.desk.now.counted.editor c.args.place)
    c.make_image.new.self.image.value c.in_ok-make_image-in-Image.ensures.image)
    (rw (← c.made_image.ensures) c.write.ensures.out))

pub returns-in-Schedule-clause-out : goal.returns-in-Schedule-clause-out
returns-in-Schedule-clause-out g c = rw c.in-Schedule.is c.write_record.ensures.out

pub returns-in-Traces-clause-out : goal.returns-in-Traces-clause-out
returns-in-Traces-clause-out g c = rw c.in-Traces.is c.write_record-in-Traces.ensures.out

pub returns-in-DiskBytes-clause-out : goal.returns-in-DiskBytes-clause-out
returns-in-DiskBytes-clause-out g c = rw c.in-DiskBytes.is c.write_disk.ensures.out

pub returns-in_ok-make_image-in-Image-clause-made : goal.returns-in_ok-make_image-in-Image-clause-made
returns-in_ok-make_image-in-Image-clause-made g c =
    rw c.in-Image.is (on_ok c.write.result c.in_ok-make_image-in-Image.ensures.made)

pub returns-in-Schedule-clause-made : goal.returns-in-Schedule-clause-made
returns-in-Schedule-clause-made g c = rw c.in-Schedule.is c.write_record.ensures.made

pub returns-in-Traces-clause-made : goal.returns-in-Traces-clause-made
returns-in-Traces-clause-made g c = rw c.in-Traces.is c.write_record-in-Traces.ensures.made

pub returns-in-DiskBytes-clause-made : goal.returns-in-DiskBytes-clause-made
returns-in-DiskBytes-clause-made g c = rw c.in-DiskBytes.is c.write_disk.ensures.made

pub returns-in_ok-make_image-in-Image-clause-steps : goal.returns-in_ok-make_image-in-Image-clause-steps
returns-in_ok-make_image-in-Image-clause-steps g c =
    on_ok c.write.result c.in_ok-make_image-in-Image.ensures.steps

pub returns-in-Schedule-clause-steps : goal.returns-in-Schedule-clause-steps
returns-in-Schedule-clause-steps g c = c.write_record.ensures.steps

pub returns-in-Traces-clause-steps : goal.returns-in-Traces-clause-steps
returns-in-Traces-clause-steps g c = c.write_record-in-Traces.ensures.steps

pub returns-in-DiskBytes-clause-steps : goal.returns-in-DiskBytes-clause-steps
returns-in-DiskBytes-clause-steps g c = c.write_disk.ensures.steps
