-- Laws of tracef's format: one byte from its front, and one place.
use Rattle.std.proofs.Common.{◌≡◌, ◌≢◌, ℕ, ◌+◌, ◌<◌, cond, List, [], ◌∷◌, ◌++◌, length, get_or, drop, ap, ◌∙◌}
use Rattle.std.proofs.Common.{sym, arith}
use Rattle.std.proofs.lemmas.Bool.{ne_eqb}
use Rattle.std.proofs.lemmas.List.{drop_more}
use Rattle.w4_defs.specs.Traces.{argument_bytes, formatted, line_of, argument_text}
use Rattle.w4_devices.proofs.LineLaws.{cut_more}

formatted-byte : (page rest : List ℕ) (byte at : ℕ) → byte ≢ 37
    → formatted page (byte ∷ rest) at ≡ byte ∷ formatted page rest at
formatted-byte page [] byte at h = ap (λ sign. cond sign [] (byte ∷ [])) (ne_eqb byte 37 h)
formatted-byte page (letter ∷ rest) byte at h =
    ap (λ sign. cond sign (argument_text page letter at ++ formatted page rest (at + argument_bytes letter))
    (byte ∷ formatted page (letter ∷ rest) at)) (ne_eqb byte 37 h)

-- one byte more on the line, one byte less of the format
pub step_byte : (page format line new : List ℕ) (i at : ℕ) → i < length format → get_or format i 0 ≢ 37 →
    new ≡ line_of (line ++ get_or format i 0 ∷ []) →
    line_of (new ++ formatted page (drop (i + 1) format) at)
    ≡ line_of (line ++ formatted page (drop i format) at)
step_byte page format line new i at h plain e =
    let byte = get_or format i 0 in
    let later = formatted page (drop (i + 1) format) at in
    ap (λ xs. line_of (xs ++ later)) e
    ∙ (cut_more line (byte ∷ []) later
    ∙ ap (λ xs. line_of (line ++ xs))
    (sym (ap (λ xs. formatted page xs at) (drop_more format i 0 h)
    ∙ formatted-byte page (drop (i + 1) format) byte at plain)))

formatted-place : (page format : List ℕ) (i at : ℕ) → i + 1 < length format → get_or format i 0 ≡ 37 →
    let letter = get_or format (i + 1) 0 in
    formatted page (drop i format) at ≡ argument_text page letter at
    ++ formatted page (drop (i + 1 + 1) format) (at + argument_bytes letter)
formatted-place page format i at h sign =
    let rest = get_or format (i + 1) 0 ∷ drop (i + 1 + 1) format in
    ap (λ xs. formatted page xs at)
    (drop_more format i 0 (omega arith)
    ∙ ap (λ xs. get_or format i 0 ∷ xs) (drop_more format (i + 1) 0 h))
    ∙ ap (λ byte. formatted page (byte ∷ rest) at) sign

-- one place more on the line, two bytes less of the format, and its argument taken
pub step_place : (page format line new : List ℕ) (i at taken : ℕ) → i + 1 < length format
    → get_or format i 0 ≡ 37 →
    new ≡ line_of (line ++ argument_text page (get_or format (i + 1) 0) at)
    → taken ≡ argument_bytes (get_or format (i + 1) 0) →
    line_of (new ++ formatted page (drop (i + 1 + 1) format) (at + taken))
    ≡ line_of (line ++ formatted page (drop i format) at)
step_place page format line new i at taken h sign e is =
    let letter = get_or format (i + 1) 0 in
    let later : List ℕ = formatted page (drop (i + 1 + 1) format) (at + argument_bytes letter) in
    ap (λ n. line_of (new ++ formatted page (drop (i + 1 + 1) format) (at + n))) is
    ∙ (ap (λ xs. line_of (xs ++ later)) e
    ∙ (cut_more line (argument_text page letter at) later
    ∙ ap (λ xs. line_of (line ++ xs)) (sym (formatted-place page format i at h sign))))
