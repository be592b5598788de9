use Rattle.std.proofs.Common.{cond, pos, w16, ap, ◌∙◌, FitsSigned}
use Rattle.std.proofs.lemmas.Int.{to_z-of_z}
use Rattle.w4_defs.specs.Sound.{heard_voice, on_left, on_right}
use Rattle.w4_wave.proofs.PartLaws.{output_is}
use Rattle.w4_wave.proofs.wave.Wave.output.Goals as goal

pub returns-in-Some : goal.returns-in-Some
returns-in-Some c =
    let value = c.value-value.result in
    let pan = c.in-Some.tone.pan in
    let fits : FitsSigned w16 value = record { sfits = c.value-value.type_inv } in
    let same = to_z-of_z w16 value fits in
    output_is c.on_sides.result c.args.channel c.args.tick c.args.phase c.args.register
    (heard_voice c.args.self.now c.args.channel) c.in-Some.tone c.in-Some.sound value
    c.in-Some.ensures.sound c.value-value.ensures
    (c.on_sides.ensures.left ∙ ap (λ v. cond (on_left pan) v (pos 0)) same)
    (c.on_sides.ensures.right ∙ ap (λ v. cond (on_right pan) v (pos 0)) same)
    c.on_sides.ensures.step
