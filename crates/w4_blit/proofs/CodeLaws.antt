-- How many codes a source has, and which; that they are the same from the bytes that are kept of it.
use Rattle.std.proofs.Common.{◌≡◌, ℕ, zero, suc, ◌+◌, ◌-◌, ◌*◌, ◌/◌, ◌<◌, ◌≤◌, min, Bool, true, false, cond}
use Rattle.std.proofs.Common.{List, [], ◌∷◌, length, take, drop, get_or, refl, sym, ◌∙◌, ap, inl, inr, arith}
use Rattle.std.specs.Prelude.{slice_range, not, ◌==◌}
use Rattle.std.specs.List.{prefix_len, take_while}
use Rattle.std.proofs.lemmas.Bool.{cases_lt}
use Rattle.std.proofs.lemmas.List.{ext_get_or, length-take, length-drop, get_or-take, get_or-drop, drop_all}
use Rattle.std.proofs.lemmas.List.Folds.{length-prefix_len}
use Rattle.std.proofs.lemmas.List.Sums.{take_while-cons}
use Rattle.w4_defs.specs.declared.console.TextSource.{TextSource}
use Rattle.w4_defs.specs.declared.console.TextSource.TheVariants.{Cstr, Utf8, Utf16}
use Rattle.w4_defs.specs.Text.{text_codes, units}
use Rattle.w4_blit.specs.FramebufferCopy.{IsAtHand, bytes_read, source_start, with_copied_bytes}
use Rattle.w4_blit.proofs.FramebufferCopyLaws.{from_the_first, kept_own, length-dropped}

-- the bytes of a text of `len` bytes that stand in the page
pub bytes_counted : (page : List ℕ) (ptr len n : ℕ) → length page ≡ 65536
    → n ≡ min len (65536 - ptr) → n ≡ length (take len (drop ptr page))
bytes_counted page ptr len n full e = simp (length-take, length-drop) (rw full e)

-- what passes from `ptr` on, where `first` is `ptr` or the page's end
pub passed_counted : (p : ℕ → Bool) (page : List ℕ) (ptr first n : ℕ) → length page ≡ 65536
    → first ≡ min ptr 65536
    → prefix_len p (drop first page) ≡ n → n ≡ length (take_while p (drop ptr page))
passed_counted p page ptr first n full e count =
    let here : drop first page ≡ drop ptr page = elim (cases_lt ptr 65536) [
      | inl below ↦ ap (λ i. drop i page) (omega arith)
      | inr past ↦ drop_all first page (omega arith) ∙ sym (drop_all ptr page (omega arith))
    ] in
    sym count ∙ ap (prefix_len p) here ∙ sym (length-prefix_len p (drop ptr page))

pub length-units : (bytes : List ℕ) → length (units bytes) ≡ length bytes / 2
length-units [] = refl
length-units (low ∷ []) = refl
length-units (low ∷ high ∷ rest) = omega (arith, length-units rest)

get_or-units : (bytes : List ℕ) (k : ℕ) → k < length (units bytes)
    → get_or (units bytes) k 0 ≡ get_or bytes (2 * k) 0 + 256 * get_or bytes (2 * k + 1) 0
get_or-units [] k h = absurd (omega arith)
get_or-units (low ∷ []) k h = absurd (omega arith)
get_or-units (low ∷ high ∷ rest) zero h = refl
get_or-units (low ∷ high ∷ rest) (suc k) h =
    let even : 2 * suc k ≡ suc (suc (2 * k)) = omega arith in
    let odd : 2 * suc k + 1 ≡ suc (suc (2 * k + 1)) = omega arith in
    get_or-units rest k (omega arith)
    ∙ ap (λ (i : ℕ). get_or (low ∷ high ∷ rest) i 0 + 256 * get_or rest (2 * k + 1) 0) (sym even)
    ∙ ap (λ (i : ℕ). get_or (low ∷ high ∷ rest) (2 * suc k) 0 + 256 * get_or (low ∷ high ∷ rest) i 0)
    (sym odd)

-- a unit is made of two bytes of the page
pub unit_at : (page : List ℕ) (ptr len k low high : ℕ) → k < length (units (take len (drop ptr page)))
    → low ≡ get_or page (ptr + 2 * k) 0 → high ≡ get_or page ((ptr + 2 * k) + 1) 0
    → low + 256 * high ≡ get_or (units (take len (drop ptr page))) k 0
unit_at page ptr len k low high h el eh =
    let bytes = take len (drop ptr page) in
    let halves = length-units bytes in
    let size : length bytes ≤ len = omega (arith, length-take len (drop ptr page)) in
    let first : get_or bytes (2 * k) 0 ≡ low =
    get_or-take len (drop ptr page) (2 * k) 0 (omega arith) ∙ get_or-drop ptr page (2 * k) 0 ∙ sym el in
    let second : get_or bytes (2 * k + 1) 0 ≡ high =
    get_or-take len (drop ptr page) (2 * k + 1) 0 (omega arith) ∙ get_or-drop ptr page (2 * k + 1) 0
    ∙ ap (λ i. get_or page i 0) (omega arith) ∙ sym eh in
    sym (get_or-units bytes k h ∙ ap (λ b. b + 256 * get_or bytes (2 * k + 1) 0) first
    ∙ ap (λ b. low + 256 * b) second)

-- ---- a text of which each byte that is read is at hand

-- elements that pass, up to the first that doesn't
front_with : (b : Bool) (x : ℕ) (xs ys : List ℕ) → (b ≡ true → ys ≡ xs)
    → cond b (x ∷ ys) [] ≡ cond b (x ∷ xs) []
front_with true x xs ys e = ap (λ zs. x ∷ zs) (e refl)
front_with false x xs ys e = refl

same_front : (p : ℕ → Bool) (xs ys : List ℕ) → length ys ≡ length xs
    → ((i : ℕ) → i < length (take_while p xs) + 1 → get_or ys i 0 ≡ get_or xs i 0)
    → take_while p ys ≡ take_while p xs
same_front p [] [] size same = refl
same_front p [] (y ∷ ys) size same = absurd (omega (arith, size))
same_front p (x ∷ xs) [] size same = absurd (omega (arith, size))
same_front p (x ∷ xs) (y ∷ ys) size same =
    let first : y ≡ x = same 0 (omega arith) in
    let front = take_while-cons p x xs in
    take_while-cons p y ys
    ∙ ap (λ (z : ℕ). cond (p z) (z ∷ take_while p ys) []) first
    ∙ front_with (p x) x (take_while p xs) (take_while p ys) (λ passes.
    let longer : length (take_while p (x ∷ xs)) ≡ length (take_while p xs) + 1 =
    ap length front ∙ ap (λ (b : Bool). length (cond b (x ∷ take_while p xs) [])) passes
    ∙ omega arith in
    same_front p xs ys (omega (arith, size)) (λ i hi. same (suc i) (omega (arith, hi, longer))))
    ∙ sym front

same_bytes : (size : ℕ) (xs ys : List ℕ) → length ys ≡ length xs
    → ((i : ℕ) → i < length (take size xs) → get_or ys i 0 ≡ get_or xs i 0) → take size ys ≡ take size xs
same_bytes size xs ys len same =
    let sizes : length (take size ys) ≡ length (take size xs) =
    length-take size ys ∙ ap (min size) len ∙ sym (length-take size xs) in
    ext_get_or 0 (take size ys) (take size xs) sizes (λ i hi.
    let few = length-take size ys in
    get_or-take size ys i 0 (omega arith) ∙ same i (omega arith)
    ∙ sym (get_or-take size xs i 0 (omega arith)))

-- from a byte of the string's on
kept_from : (page : List ℕ) (first len ptr i : ℕ) → length page ≡ 65536 → IsAtHand first len (ptr + i)
    → get_or (drop ptr (with_copied_bytes page first (slice_range page first (first + len)))) i 0
    ≡ get_or (drop ptr page) i 0
kept_from page first len ptr i size there =
    get_or-drop ptr (with_copied_bytes page first (slice_range page first (first + len))) i 0
    ∙ kept_own page first len (ptr + i) size there ∙ sym (get_or-drop ptr page i 0)

kept_bytes : (page : List ℕ) (first len ptr size : ℕ) → length page ≡ 65536
    → ((i : ℕ) → i < min size (65536 - ptr) → IsAtHand first len (ptr + i))
    → take size (drop ptr (with_copied_bytes page first (slice_range page first (first + len))))
    ≡ take size (drop ptr page)
kept_bytes page first len ptr size full there =
    same_bytes size (drop ptr page)
    (drop ptr (with_copied_bytes page first (slice_range page first (first + len))))
    (length-dropped page first (slice_range page first (first + len)) ptr) (λ i hi.
    let there_are = length-take size (drop ptr page) in
    let left = length-drop ptr page in
    kept_from page first len ptr i full (there i (omega arith)))

kept_codes : (page : List ℕ) (first len count : ℕ) (source : TextSource) → length page ≡ 65536
    → count ≡ length (text_codes page source)
    → ((i : ℕ) → i < bytes_read source count → IsAtHand first len (source_start source + i))
    → text_codes (with_copied_bytes page first (slice_range page first (first + len))) source
    ≡ text_codes page source
kept_codes page first len count (Cstr ptr) full codes there =
    same_front (λ b. not (b == 0)) (drop ptr page)
    (drop ptr (with_copied_bytes page first (slice_range page first (first + len))))
    (length-dropped page first (slice_range page first (first + len)) ptr)
    (λ i hi. kept_from page first len ptr i full (there i (omega (arith, hi, codes))))
kept_codes page first len count (Utf8 ptr size) full codes there =
    kept_bytes page first len ptr size full there
kept_codes page first len count (Utf16 ptr size) full codes there =
    ap units (kept_bytes page first len ptr size full there)

-- kept in the front of an array
pub kept_text : (page bytes : List ℕ) (first len count : ℕ) (source : TextSource) → length page ≡ 65536
    → slice_range bytes 0 len ≡ slice_range page first (first + len)
    → count ≡ length (text_codes page source)
    → ((i : ℕ) → i < bytes_read source count → IsAtHand first len (source_start source + i))
    → text_codes (with_copied_bytes page first (take len bytes)) source ≡ text_codes page source
kept_text page bytes first len count source full front codes there =
    ap (λ (copy_bytes : List ℕ). text_codes (with_copied_bytes page first copy_bytes) source)
    (sym (from_the_first bytes len) ∙ front)
    ∙ kept_codes page first len count source full codes there
