-- Texts of sequences, vectors and sized values.
use Rattle.std.proofs.Common.{ℕ, ◌^◌, ◌<◌, List, [], ◌∷◌, ◌++◌, length, refl, append_assoc}
use Rattle.std.specs.Prelude.{flat_map, All}
use Rattle.std.specs.List.{AllByRecursion}
use Rattle.std.proofs.lemmas.List.Elements.{recursion_from_All}
use Rattle.w4_defs.specs.BinaryText.{Texts, ◌then◌, byte, items}
use Rattle.w4_defs.specs.BinaryNumber.{unsigned}
use Rattle.w4_defs.specs.BinaryType.{vector, sized}
use Rattle.w4_defs.specs.EncodeType.{vector_bytes, sized_bytes}
use Rattle.wasm_write.specs.Fits.{VectorFits}
use Rattle.wasm_write.proofs.NumberLaws.{unsigned_encodes}

pub two_in_turn : (P Q : Texts) (a b : List ℕ) → P a → Q b → (P then Q) (a ++ b)
two_in_turn P Q a b p q = (a, b, refl, p, q)

pub after_byte : (code : ℕ) (P : Texts) (text : List ℕ) → P text → (byte code then P) (code ∷ text)
after_byte code P text p = (code ∷ [], text, refl, refl, p)

pub three_in_turn : (P Q R : Texts) (a b c : List ℕ) → P a → Q b → R c → (P then Q then R) (a ++ b ++ c)
three_in_turn P Q R a b c p q r = (a, b ++ c, append_assoc a b c, p, two_in_turn Q R b c q r)

all_encode : {A : Type 0} (spelled : A → Texts) (encode : A → List ℕ) (Fits : A → Type 0)
    → ((x : A) → Fits x → spelled x (encode x))
    → (xs : List A) → AllByRecursion Fits xs → items spelled xs (flat_map encode xs)
all_encode spelled encode Fits one [] all = refl
all_encode spelled encode Fits one (x ∷ xs) all =
    two_in_turn (spelled x) (items spelled xs) (encode x) (flat_map encode xs) (one x all.0)
    (all_encode spelled encode Fits one xs all.1)

pub items_encode : {A : Type 0} (spelled : A → Texts) (encode : A → List ℕ) (Fits : A → Type 0)
    → ((x : A) → Fits x → spelled x (encode x))
    → (xs : List A) → All Fits xs → items spelled xs (flat_map encode xs)
items_encode spelled encode Fits one xs all =
    all_encode spelled encode Fits one xs (recursion_from_All Fits xs all)

pub vector_encodes : {A : Type 0} (spelled : A → Texts) (encode : A → List ℕ) (Fits : A → Type 0)
    → ((x : A) → Fits x → spelled x (encode x))
    → (xs : List A) → VectorFits Fits xs → vector spelled xs (vector_bytes encode xs)
vector_encodes spelled encode Fits one xs h =
    two_in_turn
    (unsigned 32 (length xs))
    (items spelled xs)
    _
    (flat_map encode xs)
    (unsigned_encodes 32 (length xs) h.0)
    (items_encode spelled encode Fits one xs h.1)

pub sized_encodes : {A : Type 0} (spelled : A → Texts) (x : A) (body : List ℕ) → length body < 2 ^ 32
    → spelled x body → sized spelled x (sized_bytes body)
sized_encodes spelled x body h p = (_, body, refl, unsigned_encodes 32 (length body) h, p)
