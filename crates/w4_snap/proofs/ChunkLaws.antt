-- Laws of the chunks: of a row of pieces, and of a page gone over chunk by chunk.
use Rattle.std.proofs.Common.{◌≡◌, ℕ, zero, suc, ◌+◌, ◌-◌, ◌*◌, ◌<◌, ◌≤◌, List, [], ◌∷◌, ◌++◌, length, get_or}
use Rattle.std.proofs.Common.{take, drop, Bool, false, refl, sym, ◌∙◌, ap, ap₂, arith, length-append}
use Rattle.std.proofs.Common.{length-take, length-drop}
use Rattle.std.specs.Prelude.{All, not}
use Rattle.std.specs.Str.{bytes_eq}
use Rattle.std.proofs.lemmas.Bool.{not-false}
use Rattle.std.proofs.lemmas.Slice.Eq.{bytes_eq-Decides}
use Rattle.std.specs.List.{flat_map}
use Rattle.std.proofs.Math.Seq.{take-add}
use Rattle.std.proofs.lemmas.List.{take_all, take_at, drop_at, drop-drop}
use Rattle.std.proofs.lemmas.List.Elements.{All-head, All-tail}
use Rattle.std.proofs.lemmas.Slice.{take-put_mid}
use borrow.Rule.Slice.PartMut.{put_mid}
use Rattle.w4_snap.specs.Chunks.{AreChunks, chunk_of}

pieces_long : {X : Type 0} (f : X → List ℕ) (xs : List X) → All (λ x. length (f x) ≡ 1024) xs
    → length (flat_map f xs) ≡ 1024 * length xs
pieces_long f [] long = refl
pieces_long f (x ∷ xs) long =
    let first : length (f x) ≡ 1024 = All-head (λ x. length (f x) ≡ 1024) x xs long in
    let rest : length (flat_map f xs) ≡ 1024 * length xs =
    pieces_long f xs (All-tail (λ x. length (f x) ≡ 1024) x xs long) in
    length-append (f x) (flat_map f xs) ∙ omega arith

piece_at : {X : Type 0} (f : X → List ℕ) (xs : List X) (k : ℕ) (d : X) → All (λ x. length (f x) ≡ 1024) xs
    → k < length xs
    → take 1024 (drop (1024 * k) (flat_map f xs)) ≡ f (get_or xs k d)
piece_at f [] k d long h = absurd (omega arith)
piece_at f (x ∷ xs) zero d long h =
    take_at (f x) (flat_map f xs) 1024 (All-head (λ x. length (f x) ≡ 1024) x xs long)
piece_at f (x ∷ xs) (suc k) d long h =
    let first : length (f x) ≡ 1024 = All-head (λ x. length (f x) ≡ 1024) x xs long in
    let at : 1024 * suc k ≡ 1024 + 1024 * k = omega arith in
    let on : k < length xs = omega arith in
    ap (λ n. take 1024 (drop n (f x ++ flat_map f xs))) at
    ∙ (ap (take 1024) (sym (drop-drop (1024 * k) 1024 (f x ++ flat_map f xs))
    ∙ ap (drop (1024 * k)) (drop_at (f x) (flat_map f xs) 1024 first))
    ∙ piece_at f xs k d (All-tail (λ x. length (f x) ≡ 1024) x xs long) on)

-- 64 pieces of 1,024 bytes are a page, whose chunks are the pieces
pub pieces_are_page : {X : Type 0} (f : X → List ℕ) (xs : List X) → AreChunks f xs
    → length (flat_map f xs) ≡ 65536
pieces_are_page f xs h = let e = pieces_long f xs h.long in omega (arith, e, h.many)

pub chunk_of_pieces : {X : Type 0} (f : X → List ℕ) (xs : List X) (k : ℕ) (d : X) → AreChunks f xs → k < 64
    → chunk_of k (flat_map f xs) ≡ f (get_or xs k d)
chunk_of_pieces f xs k d h low =
    let wide : 1024 * k + 1024 - 1024 * k ≡ 1024 = omega arith in
    let on : k < length xs = omega (arith, h.many) in
    ap (λ n. take n (drop (1024 * k) (flat_map f xs))) wide ∙ piece_at f xs k d h.long on

-- the first chunks of a page, one more of them, and all
pub first_more : (page : List ℕ) (k : ℕ) → take (1024 * (k + 1)) page ≡ take (1024 * k) page
    ++ chunk_of k page
first_more page k =
    let at : 1024 * (k + 1) ≡ 1024 * k + 1024 = omega arith in
    let wide : 1024 ≡ 1024 * k + 1024 - 1024 * k = omega arith in
    ap (λ n. take n page) at
    ∙ (take-add (1024 * k) 1024 page
    ∙ ap (λ n. take (1024 * k) page ++ take n (drop (1024 * k) page)) wide)

pub first_all : (before after : List ℕ) (k : ℕ) → length before ≡ 65536 → length after ≡ 65536 → 64 ≤ k
    → take (1024 * k) before ≡ take (1024 * k) after → before ≡ after
first_all before after k b a h e =
    sym (take_all (1024 * k) before (omega arith)) ∙ (e ∙ take_all (1024 * k) after (omega arith))

-- one more chunk is written, and one more chunk is compared
pub put_more : (page from bytes : List ℕ) (k n : ℕ) → 1024 * k ≤ length page → length bytes ≡ 1024
    → bytes ≡ chunk_of k from
    → take (1024 * k) page ≡ take (1024 * k) from
    → take (1024 * (k + 1)) (put_mid (1024 * k) n page bytes) ≡ take (1024 * (k + 1)) from
put_more page from bytes k n within long put done =
    take-put_mid (1024 * k) n page bytes (1024 * (k + 1)) (omega arith) within
    ∙ (ap₂ ◌++◌ done put ∙ sym (first_more from k))

pub put_long : (page bytes : List ℕ) (k n : ℕ) → n ≡ 1024 → 1024 * k + 1024 ≤ length page
    → length bytes ≡ 1024
    → length (put_mid (1024 * k) n page bytes) ≡ length page
put_long page bytes k n wide within long = grind (arith, length-append, length-take, length-drop)

pub equal_more : (before after : List ℕ) (k : ℕ) → chunk_of k before ≡ chunk_of k after
    → take (1024 * k) before ≡ take (1024 * k) after
    → take (1024 * (k + 1)) before ≡ take (1024 * (k + 1)) after
equal_more before after k same done = first_more before k ∙ (ap₂ ◌++◌ done same ∙ sym (first_more after k))

-- bytes that aren't unequal are equal
pub same_bytes : (xs ys : List ℕ) (unequal : Bool) → unequal ≡ not (bytes_eq xs ys) → unequal ≡ false
    → xs ≡ ys
same_bytes xs ys unequal e f = (bytes_eq-Decides xs ys).0 (not-false _ (sym e ∙ f))
