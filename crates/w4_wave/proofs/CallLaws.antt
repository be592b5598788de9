-- Calls on one wave give the samples of their records.
use Rattle.std.proofs.Common.{◌≡◌, List, [], ◌∷◌, ◌++◌, refl, ap, ◌∙◌}
use Rattle.std.specs.Prelude.{map, flat_map}
use Rattle.w4_defs.specs.Sound.{Wave, first_wave, rendered, after_frame, samples_from, samples}
use Rattle.w4_wave.specs.Calls.{Call, OneAfterAnother, CallsGiveSamples}

from : (wave : Wave) (calls : List Call) → OneAfterAnother wave calls →
    flat_map (λ call. call.bytes) calls ≡ samples_from wave (map (λ call. call.frame_record) calls)
from wave [] turns = refl
from wave (call ∷ calls) turns =
    let frame_record = map (λ (each : Call). each.frame_record) calls in
    let bytes = flat_map (λ (each : Call). each.bytes) calls in
    ap (λ b. b ++ bytes) (turns.1.samples ∙ ap (rendered call.frame_record) turns.0)
    ∙ ap (λ rest. rendered call.frame_record wave ++ rest)
    (from call.after calls turns.2
    ∙ ap (λ w. samples_from w frame_record) (turns.1.wave ∙ ap (after_frame call.frame_record) turns.0))

pub calls_give_samples : CallsGiveSamples
unfolding samples
calls_give_samples calls turns = from first_wave calls turns
