-- The steps of a frame: what is written so far and the samples of the ticks that are left are the frame's.
use Rattle.std.proofs.Common.{◌≡◌, ℕ, suc, ◌+◌, ◌-◌, ◌*◌, ◌<◌, ◌≤◌, List, ◌++◌, length, take, refl, sym, ◌∙◌}
use Rattle.std.proofs.Common.{ap, append_assoc, arith}
use Rattle.std.proofs.lemmas.Grind.{common_steps}
use Rattle.std.specs.Prelude.{flat_map}
use Rattle.std.specs.List.{range_with_len}
use Rattle.w4_defs.specs.Bytes.{replaced}
use Rattle.w4_defs.specs.Sound.{Wave, after_ticks, sample_bytes, frame_samples}

-- the samples of so many ticks from one on
abbrev pub samples_left : Wave → ℕ → ℕ → List ℕ
samples_left wave tick count =
    flat_map (λ t. sample_bytes t (after_ticks wave t)) (range_with_len tick count)

pub samples_start : (wave : Wave) (out : List ℕ) → take 0 out ++ samples_left wave 0 735 ≡ frame_samples wave
unfolding frame_samples
samples_start wave out = refl

left_next : (wave : Wave) (tick count rest : ℕ) → count ≡ suc rest
    → samples_left wave tick count
    ≡ sample_bytes tick (after_ticks wave tick) ++ samples_left wave (tick + 1) rest
left_next wave tick count rest e = ap (samples_left wave tick) e

front : (out sample : List ℕ) (at next : ℕ) → length sample ≡ 4 → next ≡ at + 4 → next ≤ length out
    → take next (replaced out at 4 sample) ≡ take at out ++ sample
front out sample at next four e h = grind (arith, common_steps)

-- one more sample
pub samples_more : (wave now : Wave) (out next sample : List ℕ) (tick : ℕ) → tick < 735 → length out ≡ 2940
    → now ≡ after_ticks wave tick
    → sample ≡ sample_bytes tick now
    → next ≡ replaced out (4 * tick) 4 sample
    → take (4 * tick) out ++ samples_left wave tick (735 - tick) ≡ frame_samples wave
    → take (4 * (tick + 1)) next ++ samples_left wave (tick + 1) (735 - (tick + 1)) ≡ frame_samples wave
samples_more wave now out next sample tick h len en es eo so_far =
    let at = 4 * tick in
    let rest = samples_left wave (tick + 1) (735 - (tick + 1)) in
    let e = es ∙ ap (sample_bytes tick) en in
    ap (λ o. take (4 * (tick + 1)) o ++ rest) eo
    ∙ ap (λ f. f ++ rest) (front out sample at (4 * (tick + 1)) (ap length es) (omega arith) (omega arith))
    ∙ append_assoc (take at out) sample rest
    ∙ ap (λ s. take at out ++ (s ++ rest)) e
    ∙ ap (λ t. take at out ++ t) (sym (left_next wave tick (735 - tick) (735 - (tick + 1)) (omega arith)))
    ∙ so_far
