use Rattle.std.proofs.Common.{arith}
use Rattle.w4_console.specs.Calls.{moment, setup_of}
use Rattle.w4_console.proofs.PlayingLaws.{fold_more}
use Rattle.w4_console.proofs.console.Console.play_counted.Goals as goal

pub loop-input-preserved : goal.loop-input-preserved
loop-input-preserved g c =
    let ticks = c.frame.ensures.ticks in
    let so_far = c.loop-input.invariant.2 in (
      fold_more (setup_of c.args.setup.now) c.args.self.now c.loop-input.self
          (moment c.frame.new.self c.frame.new.frame_record) c.args.inputs.now c.loop-input.input-index _
          c.loop-input-test.true c.loop-input.invariant.0 c.frame.ensures.frame,
      c.frame.ensures.globals,
      omega (arith, ticks, so_far),
    )
