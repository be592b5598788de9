use Rattle.std.proofs.Common.{◌≡◌, ℕ, ◌+◌, ◌-◌, [], ◌∷◌, get_or, refl, ◌∙◌, ap, arith}
use Rattle.w4_defs.proofs.PaintLaws.{below_four}
use Rattle.w4_blit.proofs.ByteLaws.{eight_numbers}
use Rattle.w4_blit.proofs.source.eight_there.Goals as goal

pub returns : goal.returns
returns c = λ i hi.
    let bytes = c.args.bytes.now in
    let at = c.args.at in
    let start : at ≡ at + 0 = omega arith in
    let get : ℕ → ℕ = λ j. get_or bytes (at + j) 0 in
    let P : ℕ → Type 0 = λ j. get_or (get_or bytes (at + 3) 0 ∷ get_or bytes (at + 2) 0 ∷ get_or bytes (at
    + 1) 0
    ∷ get_or bytes at 0 ∷ []) j 0 ≡ get (3 - j) in
    let Q : ℕ → Type 0 = λ j. get_or (get_or bytes (at + 7) 0 ∷ get_or bytes (at + 6) 0 ∷ get_or bytes (at
    + 5) 0
    ∷ get_or bytes (at + 4) 0 ∷ []) j 0 ≡ get (7 - j) in
    eight_numbers get c.four_of-first.result c.four_of-second.result i c.four_of-second.ensures.bound hi
    (λ j hj. c.four_of-first.ensures.bytes j hj
    ∙ below_four P refl refl refl (ap (λ (m : ℕ). get_or bytes m 0) start) j hj)
    (λ j hj. c.four_of-second.ensures.bytes j hj ∙ below_four Q refl refl refl refl j hj)
