use Rattle.std.proofs.Common.{refl, ap, ◌∙◌, length, w16, rules, FitsSigned}
use Rattle.std.proofs.lemmas.List.{length-set}
use Rattle.std.proofs.lemmas.Int.{to_z-of_z}
use Rattle.w4_wave.proofs.PartLaws.{part_begins, part_goes_on}
use Rattle.w4_wave.proofs.wave.Wave.heard_part.Goals as goal

pub loop-tick-init : goal.loop-tick-init
loop-tick-init c =
    let part = c.mute_part-part.ensures in
    record {
      left_long = ap length part.left ∙ refl;
      right_long = ap length part.right ∙ refl;
      part = part_begins c.args.self.now c.args.channel c.mute_part-part.result c.requires part.ranges
          part.phase
          part.register part.register_bound;
    }

pub loop-tick-preserved : goal.loop-tick-preserved
loop-tick-preserved c =
    let is = c.loop-tick.invariant in
    let out = c.output-output.result in
    let left : FitsSigned w16 out.left = search rules in
    let right : FitsSigned w16 out.right = search rules in
    record {
      left_long = length-set _ _ _ ∙ is.left_long;
      right_long = length-set _ _ _ ∙ is.right_long;
      part = part_goes_on c.args.self.now c.args.channel c.loop-tick.tick c.loop-tick.part out _ _
          c.next_phase.result c.next_register.result c.requires c.loop-tick-test.true is.left_long
          is.right_long
          is.part c.output-output.ensures (to_z-of_z w16 out.left left) (to_z-of_z w16 out.right right)
          c.next_phase.ensures.phase c.next_register.ensures.register c.next_register.ensures.bound;
    }
