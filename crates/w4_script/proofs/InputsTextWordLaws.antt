-- Words and lines that are written are read again.
use Rattle.std.proofs.Common.{◌≡◌, ◌≢◌, ℕ, zero, suc, ◌-◌, ◌*◌, ◌<◌, ◌≤◌, Bool, true, false, cond, ◌&&◌}
use Rattle.std.proofs.Common.{nat_lt, List, [], ◌∷◌, ◌++◌, length, get_or, take, refl, ap, ◌∙◌, arith}
use Rattle.std.proofs.Common.{append-nil, length-append}
use Rattle.std.specs.List.{filter, AllByRecursion}
use Rattle.std.specs.Io.BufRead.{strip_last}
use Rattle.std.proofs.lemmas.Bool.{le-leb, ne_eqb}
use Rattle.w4_defs.specs.Lines.{is_skipped, onto_first, pieces, words_of}
use Rattle.w4_defs.proofs.LineLaws.{first_piece, last_piece}

-- ---- lists of bytes

pub all_with : {P Q : ℕ → Type 0} → ((b : ℕ) → P b → Q b) → (bytes : List ℕ) → AllByRecursion P bytes
    → AllByRecursion Q bytes
all_with change [] all = tt
all_with change (b ∷ bytes) all = (change b all.0, all_with change bytes all.1)

pub all_append : {A : Type 0} (P : A → Type 0) (front rest : List A) → AllByRecursion P front
    → AllByRecursion P rest → AllByRecursion P (front ++ rest)
all_append P [] rest front_all rest_all = rest_all
all_append P (b ∷ front) rest front_all rest_all = (front_all.0, all_append P front rest front_all.1 rest_all)

all_at : (P : ℕ → Type 0) (bytes : List ℕ) (i : ℕ) → AllByRecursion P bytes → i < length bytes
    → P (get_or bytes i 0)
all_at P [] i all within = absurd (omega (arith, within))
all_at P (b ∷ bytes) zero all within = all.0
all_at P (b ∷ bytes) (suc i) all within = all_at P bytes i all.1 (omega (arith, within))

-- bytes of which none ends a line, or is dropped at its end
abbrev pub IsVisible : List ℕ → Type 0
IsVisible bytes = AllByRecursion (λ b. 31 < b) bytes

-- a word of 1 to 11 bytes, none of them a space
pub record IsShortWord (word : List ℕ) : Type 0 where
  pub some : 0 < length word
  pub short : length word ≤ 11
  pub letters : AllByRecursion (λ b. 32 < b) word

-- each word after a space
abbrev pub spread : List (List ℕ) → List ℕ
spread [] = []
spread (word ∷ words) = 32 ∷ (word ++ spread words)

-- ---- a line's words

and_false : (test : Bool) → (test && false) ≡ false
and_false true = refl
and_false false = refl

kept_whole : (line : List ℕ) → IsVisible line → strip_last 13 line ≡ line
kept_whole [] visible = refl
kept_whole (b ∷ line) visible =
    let bytes = b ∷ line in
    let last : 31 < get_or bytes (length bytes - 1) 0 =
    all_at (λ b. 31 < b) bytes (length bytes - 1) visible (omega arith) in
    let other : get_or bytes (length bytes - 1) 0 ≢ 13 = λ same. omega (arith, last, same) in
    ap (λ ends. cond (nat_lt 0 (length bytes) && ends) (take (length bytes - 1) bytes) bytes)
    (ne_eqb (get_or bytes (length bytes - 1) 0) 13 other)
    ∙ ap (λ ends. cond ends (take (length bytes - 1) bytes) bytes) (and_false (nat_lt 0 (length bytes)))

no_space : (word : List ℕ) → AllByRecursion (λ b. 32 < b) word → AllByRecursion (λ b. b ≢ 32) word
no_space word all = all_with (λ b high same. omega (arith, high, same)) word all

pieces_of_words : (word : List ℕ) (words : List (List ℕ)) → IsShortWord word
    → AllByRecursion IsShortWord words → pieces 32 (word ++ spread words) ≡ word ∷ words
pieces_of_words [] words is all = absurd (omega (arith, is.some))
pieces_of_words (b ∷ piece) [] is all =
    ap (λ bytes. pieces 32 (b ∷ bytes)) (append-nil piece)
    ∙ last_piece 32 b piece (no_space (b ∷ piece) is.letters)
pieces_of_words (b ∷ piece) (next ∷ words) is all =
    first_piece 32 (b ∷ piece) (next ++ spread words) (no_space (b ∷ piece) is.letters)
    ∙ ap (λ rest. (b ∷ piece) ∷ rest) (pieces_of_words next words all.0 all.1)

none_dropped : (words : List (List ℕ)) → AllByRecursion IsShortWord words
    → filter (λ word. nat_lt 0 (length word)) words ≡ words
none_dropped [] all = refl
none_dropped (word ∷ words) all =
    let rest = filter (λ word. nat_lt 0 (length word)) words in
    ap (λ some. cond some (word ∷ rest) rest) (le-leb 1 (length word) all.0.some)
    ∙ ap (λ rest. word ∷ rest) (none_dropped words all.1)

letters_visible : (word : List ℕ) → AllByRecursion (λ b. 32 < b) word → IsVisible word
letters_visible word all = all_with (λ b high. omega (arith, high)) word all

spread_visible : (words : List (List ℕ)) → AllByRecursion IsShortWord words → IsVisible (spread words)
spread_visible [] all = tt
spread_visible (word ∷ words) all = (
  omega arith,
  all_append (λ b. 31 < b) word (spread words) (letters_visible word all.0.letters)
      (spread_visible words all.1),
)

module _ (word : List ℕ) (words : List (List ℕ)) (is : IsShortWord word)
    (all : AllByRecursion IsShortWord words) where
  pub line_visible : IsVisible (word ++ spread words)
  line_visible =
      all_append (λ b. 31 < b) word (spread words) (letters_visible word is.letters)
      (spread_visible words all)

  -- a first word and others, each after a space, are the words of their line
  pub words_again : words_of (word ++ spread words) ≡ word ∷ words
  words_again =
      let some : List ℕ → Bool = λ word. nat_lt 0 (length word) in
      ap (λ line. filter some (pieces 32 line)) (kept_whole (word ++ spread words) line_visible)
      ∙ ap (filter some) (pieces_of_words word words is all)
      ∙ none_dropped (word ∷ words) (is, all)

pub spread_short : (words : List (List ℕ)) → AllByRecursion IsShortWord words
    → length (spread words) ≤ 12 * length words
spread_short [] all = omega arith
spread_short (word ∷ words) all =
    omega (arith, all.0.short, spread_short words all.1, length-append word (spread words))

-- ---- lines

-- a line that begins with `#` is skipped
pub remark_is_skipped : (rest : List ℕ) → IsVisible rest → is_skipped (words_of (35 ∷ rest)) ≡ true
remark_is_skipped rest visible =
    let some : List ℕ → Bool = λ word. nat_lt 0 (length word) in
    ap (λ line. is_skipped (filter some (pieces 32 line))) (kept_whole (35 ∷ rest) (omega arith, visible))
    ∙ first_kept (pieces 32 rest)
  where
    first_kept : (words : List (List ℕ))
        → is_skipped (filter (λ word. nat_lt 0 (length word)) (onto_first 35 words)) ≡ true
    first_kept [] = refl
    first_kept (word ∷ words) =
        let rest = filter (λ word. nat_lt 0 (length word)) words in
        ap (λ some. is_skipped (cond some ((35 ∷ word) ∷ rest) rest))
        (le-leb 1 (length (35 ∷ word)) (omega arith))

-- a line before the others of a text
pub line_before : (line rest : List ℕ) → IsVisible line
    → pieces 10 (line ++ 10 ∷ rest) ≡ line ∷ pieces 10 rest
line_before line rest visible =
    first_piece 10 line rest (all_with (λ b high same. omega (arith, high, same)) line visible)
