-- Laws of hexadecimal digits: those of a number are those of its sixteenth and then the last one.
use Rattle.std.proofs.Common.{◌≡◌, ℕ, zero, suc, ◌/◌, ◌%◌, ◌^◌, ◌<◌, ◌≤◌, Bool, true, false, cond, eqb, List}
use Rattle.std.proofs.Common.{[], ◌∷◌, ◌++◌, refl, ap, ◌∙◌, sym, arith, append_assoc}
use Rattle.std.proofs.Math.Nat.{pow-suc}
use Rattle.std.proofs.lemmas.Bool.{eqb-false, ne_eqb}
use Rattle.std.proofs.lemmas.Fmt.{hex_one_digit}
use Rattle.std.specs.Fmt.{digits, digit_glyph, digits_onto}
use Rattle.w4_defs.specs.FrameTexts.{hex_digit}
use Rattle.w4_defs.specs.Traces.{line_of}
use Rattle.w4_devices.proofs.LineLaws.{cut_more}

-- what a choice puts before a list, and what it leaves the same
before_list : (last : Bool) (digit : ℕ) (more xs ys : List ℕ) → xs ≡ ys ++ more
    → cond last (digit ∷ more) xs ≡ cond last (digit ∷ []) ys ++ more
before_list true digit more xs ys e = refl
before_list false digit more xs ys e = e

same_choice : (last : Bool) (end xs ys : List ℕ) → (last ≡ false → xs ≡ ys)
    → cond last end xs ≡ cond last end ys
same_choice true end xs ys f = refl
same_choice false end xs ys f = f refl

-- what stands after the digits stays there
onto-acc : (k n : ℕ) (more : List ℕ) → digits_onto k 16 false n more ≡ digits_onto k 16 false n [] ++ more
onto-acc zero n more = refl
onto-acc (suc k) n more =
    let digit = digit_glyph false (n % 16) in
    before_list (eqb (n / 16) 0) digit more _ _
    (onto-acc k (n / 16) (digit ∷ more)
    ∙ (sym (append_assoc (digits_onto k 16 false (n / 16) []) (digit ∷ []) more)
    ∙ ap (λ ds. ds ++ more) (sym (onto-acc k (n / 16) (digit ∷ [])))))

-- room for one digit more changes nothing
onto-more : (k n : ℕ) (more : List ℕ) → n < 16 ^ k → 0 < k
    → digits_onto k 16 false n more ≡ digits_onto (suc k) 16 false n more
onto-more zero n more small some = absurd (omega arith)
onto-more (suc zero) n more small some =
    same_choice (eqb (n / 16) 0) _ _ _ (λ e. absurd (omega (arith, eqb-false (n / 16) 0 e)))
onto-more (suc (suc k)) n more small some =
    same_choice (eqb (n / 16) 0) _ _ _
    (λ e. onto-more (suc k) (n / 16) (digit_glyph false (n % 16) ∷ more) (omega (arith, pow-suc 16 (suc k)))
    (omega arith))

onto-last : (k n : ℕ) → 16 ≤ n → n / 16 < 16 ^ k → 0 < k →
    digits_onto (suc k) 16 false n [] ≡ digits_onto (suc k) 16 false (n / 16) []
    ++ (digit_glyph false (n % 16) ∷ [])
onto-last k n large small some =
    let digit = digit_glyph false (n % 16) in
    ap (λ last. cond last (digit ∷ []) (digits_onto k 16 false (n / 16) (digit ∷ [])))
    (ne_eqb (n / 16) 0 (λ e. omega arith))
    ∙ (onto-acc k (n / 16) (digit ∷ [])
    ∙ ap (λ ds. ds ++ (digit ∷ [])) (onto-more k (n / 16) [] small some))

digits-onto : (k n : ℕ) → k ≡ 64 → digits 16 false n ≡ digits_onto k 16 false n []
unfolding digits
digits-onto k n e = ap (λ j. digits_onto j 16 false n []) (sym e)

digits-last : (k n : ℕ) → suc k ≡ 64 → 16 ≤ n → n / 16 < 16 ^ k → 0 < k →
    digits 16 false n ≡ digits 16 false (n / 16) ++ (digit_glyph false (n % 16) ∷ [])
digits-last k n e large small some =
    digits-onto (suc k) n e
    ∙ (onto-last k n large small some
    ∙ ap (λ ds. ds ++ (digit_glyph false (n % 16) ∷ [])) (sym (digits-onto (suc k) (n / 16) e)))

-- the line after a number of one digit
pub line_one : (line new : List ℕ) (n digit : ℕ) → n < 16 → digit ≡ hex_digit n
    → new ≡ line_of (line ++ digit ∷ []) →
    new ≡ line_of (line ++ digits 16 false n)
line_one line new n digit small is e =
    e ∙ ap (λ ds. line_of (line ++ ds)) (ap (λ d. d ∷ []) is ∙ sym (hex_one_digit false n small))

-- the line after the digits of a number's sixteenth, and after its last digit
pub line_last : (line front new : List ℕ) (n digit : ℕ) → 16 ≤ n → n < 2 ^ 32 → digit ≡ hex_digit (n % 16) →
    front ≡ line_of (line ++ digits 16 false (n / 16)) → new ≡ line_of (front ++ digit ∷ []) →
    new ≡ line_of (line ++ digits 16 false n)
line_last line front new n digit large small is f e =
    e
    ∙ (ap (λ d. line_of (front ++ (d ∷ []))) is
    ∙ (ap (λ xs. line_of (xs ++ (hex_digit (n % 16) ∷ []))) f
    ∙ (cut_more line (digits 16 false (n / 16)) (hex_digit (n % 16) ∷ [])
    ∙ ap (λ ds. line_of (line ++ ds)) (sym (digits-last 63 n refl large (omega arith) (omega arith))))))
