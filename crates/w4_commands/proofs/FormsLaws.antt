-- A command by its name: the first word is the name, and the others are its words.
use Rattle.std.proofs.Common.{◌≡◌, ◌-◌, ◌≤◌, ℕ, List, [], ◌∷◌, length, map, take, drop, get_or, ap, sym, ◌∙◌}
use Rattle.std.proofs.Common.{arith, Global, String, string_bytes}
use Rattle.w4_defs.specs.Commands.{form_of}
use Rattle.std.proofs.Math.Seq.{take-length}

all_but_first : {X : Type 0} (first : X) (rest : List X) → take (length (first ∷ rest) - 1) rest ≡ rest
all_but_first first rest =
    let count : length (first ∷ rest) - 1 ≡ length rest = omega (arith) in
    ap (λ (n : ℕ). take n rest) count ∙ take-length rest

pub name_and_rest : {X : Type 0} (bytes : X → List ℕ) (words : List X) (name : X) (word : List ℕ)
    → 1 ≤ length words → name ≡ get_or words 0 name → bytes name ≡ word
    → map bytes words ≡ word ∷ map bytes (take (length words - 1) (drop 1 words))
name_and_rest bytes [] name word some is named = absurd (omega (arith, some))
name_and_rest {X = X} bytes (first ∷ rest) name word some is named =
    ap (λ (front : List ℕ). front ∷ map bytes rest) (ap bytes (sym is) ∙ named)
    ∙ ap (λ (behind : List X). word ∷ map bytes behind) (sym (all_but_first first rest))

pub form_named : (words : List (String Global)) (name : String Global) (word : List ℕ) → 1 ≤ length words
    → name ≡ get_or words 0 name → string_bytes name ≡ word
    → form_of (map string_bytes words) ≡
    form_of (word ∷ map string_bytes (take (length words - 1) (drop 1 words)))
form_named words name word some is named =
    ap form_of (name_and_rest string_bytes words name word some is named)
