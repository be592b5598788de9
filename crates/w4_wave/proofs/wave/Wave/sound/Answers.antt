use Rattle.std.proofs.Common.{refl, ap, ◌∙◌, rules}
use Rattle.w4_defs.specs.Sound.{Wave, after_ticks, on_left, on_right}
use Rattle.w4_wave.proofs.FrameSteps.{samples_start, samples_more}
use Rattle.w4_wave.proofs.PartLaws.{after_parts}
use Rattle.w4_wave.proofs.MixLaws.{FourFit, mixed, bytes_are}
use Rattle.w4_wave.proofs.wave.Wave.sound.Goals as goal

pub loop-tick-init : goal.loop-tick-init
loop-tick-init c = record { whole = c.told-out; so_far = samples_start c.args.self.now c.args.out.now }

pub sample-requires-clause-left : goal.sample-requires-clause-left
sample-requires-clause-left c =
    let first = c.part-first in
    let second = c.part-second in
    let third = c.part-third in
    let fourth = c.part-fourth in
    let fits : FourFit c.loop-tick.tick first.result.left second.result.left third.result.left
    fourth.result.left = search rules in
    (mixed on_left c.args.self.now c.loop-tick.tick first.result.left second.result.left third.result.left
    fourth.result.left c.sum-left.result first.ensures.ranges c.loop-tick-test.true first.ensures.part.left
    second.ensures.part.left third.ensures.part.left fourth.ensures.part.left fits c.sum-left.ensures).0

pub sample-requires-clause-right : goal.sample-requires-clause-right
sample-requires-clause-right c =
    let first = c.part-first in
    let second = c.part-second in
    let third = c.part-third in
    let fourth = c.part-fourth in
    let fits : FourFit c.loop-tick.tick first.result.right second.result.right third.result.right
    fourth.result.right = search rules in
    (mixed on_right c.args.self.now c.loop-tick.tick first.result.right second.result.right third.result.right
    fourth.result.right c.sum-right.result first.ensures.ranges c.loop-tick-test.true first.ensures.part.right
    second.ensures.part.right third.ensures.part.right fourth.ensures.part.right fits c.sum-right.ensures).0

pub loop-tick-preserved : goal.loop-tick-preserved
loop-tick-preserved c =
    let wave = c.args.self.now in
    let tick = c.loop-tick.tick in
    let first = c.part-first in
    let second = c.part-second in
    let third = c.part-third in
    let fourth = c.part-fourth in
    let left : FourFit tick first.result.left second.result.left third.result.left fourth.result.left =
    search rules in
    let right : FourFit tick first.result.right second.result.right third.result.right fourth.result.right =
    search rules in
    let bytes = bytes_are tick (after_ticks wave tick) _ _
    (mixed on_left wave tick first.result.left second.result.left third.result.left fourth.result.left
    c.sum-left.result first.ensures.ranges c.loop-tick-test.true first.ensures.part.left
    second.ensures.part.left third.ensures.part.left fourth.ensures.part.left left c.sum-left.ensures).1
    (mixed on_right wave tick first.result.right second.result.right third.result.right fourth.result.right
    c.sum-right.result first.ensures.ranges c.loop-tick-test.true first.ensures.part.right
    second.ensures.part.right third.ensures.part.right fourth.ensures.part.right right
    c.sum-right.ensures).1 in
    record {
      whole = c.put_sample.array_long;
      so_far = samples_more wave (after_ticks wave tick) c.loop-tick.out c.put_sample.new.out c.sample.result
          tick
          c.loop-tick-test.true c.loop-tick.invariant.whole refl (c.sample.ensures ∙ bytes)
          c.put_sample.ensures
          c.loop-tick.invariant.so_far;
    }

pub returns-clause-wave : goal.returns-clause-wave
returns-clause-wave c = after_parts c.args.self.now _ c.part-first.result c.part-second.result
    c.part-third.result c.part-fourth.result c.part-first.ensures.ranges
    (ap (λ (w : Wave). w.channels) c.self.view_is) refl refl
    c.part-first.ensures.part c.part-second.ensures.part c.part-third.ensures.part c.part-fourth.ensures.part
