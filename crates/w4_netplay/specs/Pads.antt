-- What is known, as it is held: for each frame the four pads, each of which has a byte or none.
use Rattle.std.specs.Prelude.{ℕ, zero, suc, List, [], ◌∷◌, Option, option_and_then}
use Rattle.std.specs.List.{slice_get}
use Rattle.w4_defs.specs.Rollback.{Known, net_input}

abbrev pub known_in : List (List (Option ℕ)) → Known
known_in frames player frame =
    option_and_then (λ pads. option_and_then (λ pad. pad) (slice_get pads player)) (slice_get frames frame)

-- the four pads that are predicted for the frame before this one; none is pressed before the first
abbrev pub pads_before : Known → ℕ → List ℕ
pads_before known zero = 0 ∷ 0 ∷ 0 ∷ 0 ∷ []
pads_before known (suc frame) = (net_input known frame).pads
