-- Data segments, put_bytes one after another.
use Rattle.std.proofs.Common.{◌≡◌, ℕ, zero, suc, ◌+◌, ◌≤◌, List, [], ◌∷◌, drop, length, Some, refl, arith}
use Rattle.std.proofs.Common.{add-one}
use Rattle.std.specs.Prelude.{option_map, slice_get}
use Rattle.std.proofs.lemmas.Option.{same_Some}
use Rattle.w4_defs.specs.Module.{DataSegment}
use Rattle.w4_defs.specs.Program.{constant_of}
use Rattle.w4_defs.specs.Reset.{with_segments}
use Rattle.w4_defs.specs.Bytes.{put_bytes}

-- the segment of this number is the next to be put_bytes
more : (page : List ℕ) (segments : List DataSegment) (i at : ℕ) (bytes : List ℕ)
    → option_map (λ s. constant_of s.offset) (slice_get segments i) ≡ Some at
    → option_map (λ s. s.bytes) (slice_get segments i) ≡ Some bytes
    → with_segments page (drop i segments) ≡ with_segments (put_bytes page at bytes) (drop (suc i) segments)
more page [] i at bytes a b = absurd cc
more page (s ∷ segments) zero at bytes a b = rw (← same_Some _ _ a, ← same_Some _ _ b) refl
more page (s ∷ segments) (suc i) at bytes a b = more page segments i at bytes a b

pub one_more_segment : (page : List ℕ) (segments : List DataSegment) (i at : ℕ) (bytes : List ℕ)
    → option_map (λ s. constant_of s.offset) (slice_get segments i) ≡ Some at
    → option_map (λ s. s.bytes) (slice_get segments i) ≡ Some bytes
    → with_segments page (drop i segments) ≡ with_segments (put_bytes page at bytes) (drop (i + 1) segments)
one_more_segment page segments i at bytes a b = rw add-one (more page segments i at bytes a b)

pub none_left : (page : List ℕ) (segments : List DataSegment) (i : ℕ) → length segments ≤ i
    → with_segments page (drop i segments) ≡ page
none_left page [] zero h = refl
none_left page [] (suc i) h = refl
none_left page (s ∷ segments) zero h = absurd (omega arith)
none_left page (s ∷ segments) (suc i) h = none_left page segments i (omega arith)
