-- Calls of `render` on one wave, one after another.
use Rattle.std.specs.Prelude.{◌≡◌, ℕ, List, [], ◌∷◌, map, flat_map}
use Rattle.w4_defs.specs.State.{FrameRecord}
use Rattle.w4_defs.specs.Sound.{Wave, first_wave, rendered, after_frame, samples}

-- a call: the wave before and after it, the record that it was given and the bytes that it wrote
pub record Call : Type 0 where
  pub before : Wave
  pub frame_record : FrameRecord
  pub bytes : List ℕ
  pub after : Wave

-- what the contract of `render` says of a call
pub record Renders (call : Call) : Type 0 where
  pub samples : call.bytes ≡ rendered call.frame_record call.before
  pub wave : call.after ≡ after_frame call.frame_record call.before

-- each call has the wave that the one before it left
abbrev pub OneAfterAnother : Wave → List Call → Type 0
OneAfterAnother wave [] = Unit {0}
OneAfterAnother wave (call ∷ calls) =
    (call.before ≡ wave) × Renders call × OneAfterAnother call.after calls

-- so the bytes of all calls on a new wave are the samples of their records
abbrev pub CallsGiveSamples : Type 0
CallsGiveSamples = (calls : List Call) → OneAfterAnother first_wave calls →
    flat_map (λ call. call.bytes) calls ≡ samples (map (λ call. call.frame_record) calls)
