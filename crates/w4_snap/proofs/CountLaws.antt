-- Laws of how many chunks are copied: none at first, and one more where the next chunk is copied.
use Rattle.std.proofs.Common.{◌≡◌, ℕ, ◌+◌, ◌≤◌, Bool, true, false, List, [], ◌∷◌, ◌++◌, length, refl, sym}
use Rattle.std.proofs.Common.{◌∙◌, ap, arith, if◌then◌else◌, length-append, Option, Some, None}
use Rattle.std.specs.List.{filter, range_with_len}
use Rattle.std.proofs.lemmas.List.{map-id}
use Rattle.std.proofs.lemmas.List.Elements.{filter-append}
use Rattle.std.proofs.lemmas.List.FromFn.{map-range_with_len_more}
use mir.Val.{bool_byte}
use Rattle.w4_snap.specs.Chunks.{chunk_of, copied_among, differing, differs, is_copied}

-- `u32::from` of a Bool
pub bool_byte_is : (b : Bool) → bool_byte b ≡ (if b then 1 else 0)
bool_byte_is true = refl
bool_byte_is false = refl

at_most_one : (b : Bool) → (if b then 1 else 0) ≤ 1
at_most_one true = omega arith
at_most_one false = omega arith

-- one more chunk: the count stays within the chunks, and the steps go along with it
pub bound_more : (copied k one : ℕ) (b : Bool) → copied ≤ k → one ≡ (if b then 1 else 0)
    → copied + one ≤ k + 1
bound_more copied k one b within e = let h = at_most_one b in rw e (omega (arith, h))

pub ticks_more : (start ticks now copied one new : ℕ) → ticks ≡ start + copied → now ≡ ticks + new
    → one ≡ new → now ≡ start + (copied + one)
ticks_more start ticks now copied one new t n e = omega arith

range_more : (n : ℕ) → range_with_len 0 (n + 1) ≡ range_with_len 0 n ++ n ∷ []
range_more n = sym (map-id (range_with_len 0 (n + 1)))
    ∙ (map-range_with_len_more (λ i. i) 0 n n (omega arith)
    ∙ ap (λ ns. ns ++ n ∷ []) (map-id (range_with_len 0 n)))

kept_one : (p : ℕ → Bool) (n : ℕ) (b : Bool) → p n ≡ b → length (filter p (n ∷ [])) ≡ (if b then 1 else 0)
kept_one p n true e = rw e refl
kept_one p n false e = rw e refl

kept_more : (p : ℕ → Bool) (n : ℕ)
    → length (filter p (range_with_len 0 (n + 1))) ≡ length (filter p (range_with_len 0 n)) +
    (if p n then 1 else 0)
kept_more p n =
    ap (λ ns. length (filter p ns)) (range_more n)
    ∙ (ap length (filter-append p (range_with_len 0 n) (n ∷ []))
    ∙ (length-append (filter p (range_with_len 0 n)) (filter p (n ∷ []))
    ∙ ap (λ m. length (filter p (range_with_len 0 n)) + m) (kept_one p n (p n) refl)))

pub copied_none : (before : Option (List ℕ)) (page : List ℕ) → copied_among before page 0 ≡ 0
unfolding differing
copied_none None page = refl
copied_none (Some before) page = refl

pub copied_more : (before : Option (List ℕ)) (page : List ℕ) (k : ℕ)
    → copied_among before page (k + 1) ≡ copied_among before page k +
    (if is_copied before (chunk_of k page) k then 1 else 0)
unfolding differing
copied_more None page k = refl
copied_more (Some before) page k = kept_more (differs before page) k
