-- Laws of 16-bit units: one unit from the front of some bytes, and the end.
use Rattle.std.proofs.Common.{◌≡◌, ℕ, ◌+◌, ◌*◌, ◌<◌, ◌≤◌, List, [], ◌∷◌, ◌++◌, length, get_or, drop, map}
use Rattle.std.proofs.Common.{refl, ap, ◌∙◌, sym, arith, length-drop}
use Rattle.std.proofs.lemmas.List.{drop_more}
use Rattle.w4_defs.specs.Text.{units}
use Rattle.w4_defs.specs.Traces.{line_of, traced_unit}
use Rattle.w4_devices.proofs.LineLaws.{cut_more}

units-next : (bytes : List ℕ) (i : ℕ) → i + 1 < length bytes →
    units (drop i bytes) ≡ (get_or bytes i 0 + 256 * get_or bytes (i + 1) 0) ∷ units (drop (i + 2) bytes)
units-next bytes i h =
    let past : i + 1 + 1 ≡ i + 2 = omega arith in
    ap units (drop_more bytes i 0 (omega arith)
    ∙ ap (λ rest. get_or bytes i 0 ∷ rest) (drop_more bytes (i + 1) 0 h))
    ∙ ap (λ k. (get_or bytes i 0 + 256 * get_or bytes (i + 1) 0) ∷ units (drop k bytes)) past

short : (bytes : List ℕ) → length bytes ≤ 1 → units bytes ≡ []
short [] h = refl
short (low ∷ []) h = refl
short (low ∷ high ∷ rest) h = absurd (omega arith)

pub units_end : (bytes : List ℕ) (i : ℕ) → length bytes ≤ i + 1 → units (drop i bytes) ≡ []
units_end bytes i h = short (drop i bytes) (omega (arith, length-drop i bytes))

-- one unit more on the line, one unit less to come
pub step_unit : (bytes line new : List ℕ) (i byte : ℕ) → i + 1 < length bytes →
    byte ≡ traced_unit (get_or bytes i 0 + 256 * get_or bytes (i + 1) 0) → new ≡ line_of (line ++ byte ∷ []) →
    line_of (new ++ map traced_unit (units (drop (i + 2) bytes)))
    ≡ line_of (line ++ map traced_unit (units (drop i bytes)))
step_unit bytes line new i byte h is e =
    let later = map traced_unit (units (drop (i + 2) bytes)) in
    ap (λ xs. line_of (xs ++ later)) e
    ∙ (cut_more line (byte ∷ []) later
    ∙ (ap (λ b. line_of (line ++ (b ∷ later))) is
    ∙ ap (λ us. line_of (line ++ map traced_unit us)) (sym (units-next bytes i h))))
