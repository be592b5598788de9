-- The text of a recording's inputs is read as the orders that insert them.
use Rattle.std.proofs.Common.{◌≡◌, ℕ, ◌+◌, ◌*◌, ◌/◌, ◌%◌, ◌<◌, ◌≤◌, Bool, true, false, cond, nat_lt, List, []}
use Rattle.std.proofs.Common.{◌∷◌, ◌++◌, length, Ok, codes, refl, ap, ◌∙◌, arith, append_assoc, length-append}
use Rattle.std.specs.Fmt.{decimal}
use Rattle.std.specs.List.{flat_map, AllByRecursion}
use Rattle.w4_defs.specs.declared.console.Input.{Input}
use Rattle.w4_defs.specs.declared.order.Order.{Order}
use Rattle.w4_defs.specs.declared.order.Order.TheVariants.{Insert}
use Rattle.w4_defs.specs.FrameTexts.{spaced, line_end, numbered}
use Rattle.w4_defs.specs.InputsText.{disk_remark, input_lines, inputs_text}
use Rattle.w4_defs.specs.Limits.{script_limit}
use Rattle.w4_defs.specs.Lines.{Line, is_skipped, lines_from, pieces, words_of}
use Rattle.w4_defs.specs.MadeSummary.{hexadecimal}
use Rattle.w4_defs.specs.OrderFile.{orders_in, with_order}
use Rattle.w4_defs.specs.Recording.{IsInput, IsRecording, Recording}
use Rattle.w4_defs.specs.Script.{order_of, script_of}
use Rattle.w4_script.proofs.InputsTextLaws.{decimal_word, insert_is_not_skipped, insert_is_read}
use Rattle.w4_script.proofs.InputsTextLaws.{insert_is_visible, insert_line}
use Rattle.w4_defs.proofs.ScriptLaws.{file_limit}
use Rattle.w4_script.proofs.InputsTextWordLaws.{IsVisible, all_append, all_with, line_before}
use Rattle.w4_script.proofs.InputsTextWordLaws.{remark_is_skipped}

-- ---- remarks

hex_is_visible : (test : Bool) (n : ℕ) → 31 < cond test (48 + n) (87 + n)
hex_is_visible true n = omega arith
hex_is_visible false n = omega arith

hexadecimal_is_visible : (bytes : List ℕ) → IsVisible (hexadecimal bytes)
hexadecimal_is_visible [] = tt
hexadecimal_is_visible (byte ∷ bytes) = (
  hex_is_visible (nat_lt (byte / 16) 10) (byte / 16),
  (
    hex_is_visible (nat_lt (byte % 16) 10) (byte % 16),
    hexadecimal_is_visible bytes,
  ),
)

hexadecimal_length : (bytes : List ℕ) → length (hexadecimal bytes) ≡ 2 * length bytes
hexadecimal_length [] = refl
hexadecimal_length (byte ∷ bytes) = omega (arith, hexadecimal_length bytes)

-- the remarks of a text, behind their `#`
pub budget_remark : ℕ → List ℕ
budget_remark budget = codes " budget" ++ flat_map spaced (budget ∷ [])

pub disk_words : List ℕ → List ℕ
disk_words [] = codes " disk"
disk_words (byte ∷ disk) = codes " disk " ++ hexadecimal (byte ∷ disk)

disk_is_remark : (disk : List ℕ) → disk_remark disk ≡ (35 ∷ disk_words disk) ++ line_end
unfolding disk_words
disk_is_remark [] = refl
disk_is_remark (byte ∷ disk) = refl

pub budget_is_visible : (budget : ℕ) → budget ≤ 4294967295 → IsVisible (budget_remark budget)
unfolding budget_remark
budget_is_visible budget small =
    let digits : IsVisible (decimal budget) =
    all_with (λ b high. omega (arith, high)) (decimal budget) (decimal_word budget small).letters in (
      omega arith,
      (
        omega arith,
        (
          omega arith,
          (
            omega arith,
            (
              omega arith,
              (
                omega arith,
                (
                  omega arith,
                  (omega arith, all_append (λ b. 31 < b) (decimal budget) [] digits tt),
                ),
              ),
            ),
          ),
        ),
      ),
    )

pub disk_is_visible : (disk : List ℕ) → IsVisible (disk_words disk)
unfolding disk_words
disk_is_visible [] = (omega arith, (omega arith, (omega arith, (omega arith, (omega arith, tt)))))
disk_is_visible (byte ∷ disk) = (
  omega arith,
  (
    omega arith,
    (
      omega arith,
      (
        omega arith,
        (
          omega arith,
          (
            omega arith,
            hexadecimal_is_visible (byte ∷ disk),
          ),
        ),
      ),
    ),
  ),
)

pub budget_is_short : (budget : ℕ) → budget ≤ 4294967295 → length (budget_remark budget) ≤ 1023
unfolding budget_remark
budget_is_short budget small =
    omega (arith, length-append (decimal budget) [], (decimal_word budget small).short)

pub disk_is_short : (disk : List ℕ) → length disk ≤ 508 → length (disk_words disk) ≤ 1023
unfolding disk_words
disk_is_short [] few = omega arith
disk_is_short (byte ∷ disk) few = omega (arith, few, hexadecimal_length (byte ∷ disk))

-- ---- the lines of a text

unfoldable pub insert_lines : ℕ → List Input → List (List ℕ)
insert_lines k [] = []
insert_lines k (input ∷ inputs) = insert_line k input ∷ insert_lines (k + 1) inputs

unfoldable pub insertions : ℕ → List Input → List Order
insertions k [] = []
insertions k (input ∷ inputs) = Insert k input ∷ insertions (k + 1) inputs

inserts_in_lines : (k : ℕ) (inputs : List Input) → k + length inputs ≤ 4294967295
    → AllByRecursion IsInput inputs
    → pieces 10 (input_lines (codes "insert") k inputs) ≡ insert_lines k inputs
unfolding insert_line insert_lines
inserts_in_lines k [] few all = refl
inserts_in_lines k (input ∷ inputs) few all =
    let more = input_lines (codes "insert") (k + 1) inputs in
    let line = insert_line k input in
    ap (pieces 10) (append_assoc line line_end more)
    ∙ line_before line more (insert_is_visible k input (omega (arith, few)) all.0)
    ∙ ap (λ lines. line ∷ lines) (inserts_in_lines (k + 1) inputs (omega (arith, few)) all.1)

lines_regrouped : (a b c end : List ℕ) → (a ++ end) ++ (b ++ end) ++ c ≡ a ++ (end ++ (b ++ (end ++ c)))
lines_regrouped a b c end = simp append_assoc refl

pub text_in_lines : (r : Recording) → IsRecording r → pieces 10 (inputs_text r)
    ≡ (35 ∷ budget_remark r.budget) ∷ (35 ∷ disk_words r.disk) ∷ insert_lines 0 r.frames
unfolding inputs_text budget_remark
text_in_lines r is =
    let budget = 35 ∷ budget_remark r.budget in
    let disk = 35 ∷ disk_words r.disk in
    let inserts = input_lines (codes "insert") 0 r.frames in
    let small : r.budget ≤ 4294967295 = omega (arith, is.budget) in
    ap (λ remark. pieces 10 (numbered (codes "# budget") (r.budget ∷ []) ++ remark ++ inserts))
    (disk_is_remark r.disk)
    ∙ ap (pieces 10) (lines_regrouped budget disk inserts line_end)
    ∙ line_before budget (disk ++ 10 ∷ inserts) (omega arith, budget_is_visible r.budget small)
    ∙ ap (λ lines. budget ∷ lines) (line_before disk inserts (omega arith, disk_is_visible r.disk)
    ∙ ap (λ lines. disk ∷ lines)
    (inserts_in_lines 0 r.frames (omega (arith, is.few_frames)) is.frames))

-- ---- the text as a script

skipped_line : (number : ℕ) (line : List ℕ) (lines : List (List ℕ)) → is_skipped (words_of line) ≡ true
    → lines_from number (line ∷ lines) ≡ lines_from (number + 1) lines
unfolding lines_from
skipped_line number line lines skipped =
    let rest = lines_from (number + 1) lines in
    ap (λ skip. cond skip rest (record { number = number; words = words_of line } ∷ rest)) skipped

inserts_read : (number k : ℕ) (inputs : List Input) → k + length inputs ≤ 4294967295
    → AllByRecursion IsInput inputs
    → orders_in order_of (lines_from number (insert_lines k inputs)) ≡ Ok (insertions k inputs)
unfolding lines_from orders_in insert_lines insertions
inserts_read number k [] few all = refl
inserts_read number k (input ∷ inputs) few all =
    let line : Line = record { number = number; words = words_of (insert_line k input) } in
    let rest = lines_from (number + 1) (insert_lines (k + 1) inputs) in
    let small : k ≤ 4294967295 = omega (arith, few) in
    let read = insert_is_read k input small all.0 in
    let more = inserts_read (number + 1) (k + 1) inputs (omega (arith, few)) all.1 in
    ap (λ skip. orders_in order_of (cond skip rest (line ∷ rest))) (insert_is_not_skipped k input small all.0)
    ∙ (λ i. with_order number (read i) (more i))

pub text_is_read : (r : Recording) → IsRecording r → length (inputs_text r) ≤ script_limit
    → script_of (inputs_text r) ≡ Ok (insertions 0 r.frames)
unfolding script_of
text_is_read r is short =
    let budget = 35 ∷ budget_remark r.budget in
    let disk = 35 ∷ disk_words r.disk in
    let inserts = insert_lines 0 r.frames in
    (file_limit order_of (inputs_text r)).0 short
    ∙ ap (λ lines. orders_in order_of (lines_from 1 lines)) (text_in_lines r is)
    ∙ ap (orders_in order_of)
    (skipped_line 1 budget (disk ∷ inserts)
    (remark_is_skipped (budget_remark r.budget) (budget_is_visible r.budget (omega (arith, is.budget))))
    ∙ skipped_line 2 disk inserts (remark_is_skipped (disk_words r.disk) (disk_is_visible r.disk)))
    ∙ inserts_read 3 0 r.frames (omega (arith, is.few_frames)) is.frames
