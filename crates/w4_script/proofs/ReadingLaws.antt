-- The first line of a text, which is skipped or not, and the lines after it.
use Rattle.std.proofs.Common.{◌≡◌, ℕ, ◌+◌, true, false, List, [], ◌∷◌, length, refl}
use Rattle.std.proofs.lemmas.List.{nil_from_length}
use Rattle.w4_defs.specs.Lines.{is_skipped, lines_from, pieces, words_of}

pub line_before : (number : ℕ) (bytes line rest : List ℕ) (words : List (List ℕ))
    → pieces 10 bytes ≡ line ∷ pieces 10 rest → words ≡ words_of line → is_skipped words ≡ false
    → lines_from number (pieces 10 bytes)
    ≡ record { number = number; words = words } ∷ lines_from (number + 1) (pieces 10 rest)
unfolding lines_from
line_before number bytes line rest words first same shown = let shows : is_skipped (words_of line) ≡ false =
    rw (← same) shown in rw (first, shows, same) refl

pub skipped_before : (number : ℕ) (bytes line rest : List ℕ) (words : List (List ℕ))
    → pieces 10 bytes ≡ line ∷ pieces 10 rest → words ≡ words_of line → is_skipped words ≡ true
    → lines_from number (pieces 10 bytes) ≡ lines_from (number + 1) (pieces 10 rest)
unfolding lines_from
skipped_before number bytes line rest words first same skipped =
    let skips : is_skipped (words_of line) ≡ true = rw (← same) skipped in rw (first, skips) refl

pub no_lines : (number : ℕ) (bytes : List ℕ) → length bytes ≡ 0 → lines_from number (pieces 10 bytes) ≡ []
unfolding lines_from
no_lines number bytes empty = rw (nil_from_length bytes empty) refl
