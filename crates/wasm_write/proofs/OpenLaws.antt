-- What is still to be written of open lists.
use Rattle.std.proofs.Common.{◌≡◌, ℕ, ◌<◌, ◌≤◌, List, [], ◌∷◌, ◌++◌, length, get_or, take, drop, ◌-◌, ap, sym}
use Rattle.std.proofs.Common.{refl, ◌∙◌, append_assoc, append-nil, length-append, arith}
use Rattle.std.proofs.lemmas.List.{take_all}
use Rattle.w4_defs.specs.declared.instruction.Instr.{Instr}
use Rattle.w4_defs.specs.Tree.{Expr}
use Rattle.w4_defs.specs.View.{before, expression_of}
use Rattle.wasm_write.specs.declared.expression.OpenList.{OpenList}
use Rattle.wasm_write.specs.declared.instruction_table.Encoding.{Encoding}
use Rattle.wasm_write.specs.declared.instruction_table.Encoding.TheVariants.{Code, One, Two, Three, Signed32}
use Rattle.wasm_write.specs.declared.instruction_table.Encoding.TheVariants.{Signed64, Bits32, Bits64, Labels}
use Rattle.wasm_write.specs.declared.instruction_table.Encoding.TheVariants.{Choice}
use Rattle.wasm_write.specs.declared.instruction_table.Encoding.TheVariants as encoding
use Rattle.w4_defs.specs.EncodeInstruction.{list_bytes}
use Rattle.wasm_write.specs.EncodingForms.{head_bytes}
use Rattle.wasm_write.specs.OpenLists.{open_bytes}

abbrev pub open_list_bytes : OpenList → List ℕ
open_list_bytes o = list_bytes o.close (expression_of o.rest.now)

-- the last one is written first
pub open_bytes-last : (os : List OpenList) (o : OpenList)
    → open_bytes (os ++ o ∷ []) ≡ list_bytes o.close (expression_of o.rest.now) ++ open_bytes os
open_bytes-last [] o = sym (append-nil (open_list_bytes o))
open_bytes-last (p ∷ os) o =
    ap (λ bs. bs ++ open_list_bytes p) (open_bytes-last os o)
    ∙ append_assoc (open_list_bytes o) (open_bytes os) (open_list_bytes p)

pub one_opened : (os after : List OpenList) (o : OpenList) → after ≡ os ++ o ∷ []
    → open_bytes after ≡ open_list_bytes o ++ open_bytes os
one_opened os after o e = ap open_bytes e ∙ open_bytes-last os o

pub two_opened : (os between after : List OpenList) (first second : OpenList) → between ≡ os ++ second ∷ []
    → after ≡ between ++ first ∷ []
    → open_bytes after ≡ open_list_bytes first ++ open_list_bytes second ++ open_bytes os
two_opened os between after first second e f =
    one_opened between after first f
    ∙ ap (λ bs. open_list_bytes first ++ bs) (one_opened os between second e)
    ∙ sym (append_assoc (open_list_bytes first) (open_list_bytes second) (open_bytes os))

nil_by_length : {A : Type 0} (xs : List A) → length xs < 1 → xs ≡ []
nil_by_length [] h = refl
nil_by_length (x ∷ xs) h = absurd (omega arith)

-- a list with nothing left is closed
pub closing : (all others : List OpenList) (o : OpenList) → all ≡ others ++ o ∷ [] → length o.rest.now < 1
    → open_bytes all ≡ o.close ∷ [] ++ open_bytes others
unfolding list_bytes
closing all others o e short =
    ap open_bytes e ∙ open_bytes-last others o
    ∙ ap (λ xs. list_bytes o.close (expression_of xs) ++ open_bytes others) (nil_by_length o.rest.now short)

pub parted : (xs : List Instr) (x : Instr) → 1 ≤ length xs → x ≡ get_or xs 0 x
    → xs ≡ x ∷ take (length xs - 1) (drop 1 xs)
parted [] x some e = absurd (omega arith)
parted (y ∷ ys) x some e =
    ap (λ z. z ∷ ys) (sym e) ∙ ap (λ zs. x ∷ zs) (sym (take_all (length (y ∷ ys) - 1) ys (omega arith)))

-- the first instruction of the innermost list is written up to the lists inside it, and those are opened
pub opening : (all others pushed after : List OpenList) (o left : OpenList) (first : Instr)
    (head inner : List ℕ)
    → pushed ≡ others ++ left ∷ [] → all ≡ others ++ o ∷ [] → o.rest.now ≡ first ∷ left.rest.now
    → o.close ≡ left.close
    → ((close : ℕ) (rest : Expr) → list_bytes close (before first rest) ≡ head
    ++ (inner ++ list_bytes close rest))
    → open_bytes after ≡ inner ++ open_bytes pushed
    → open_bytes all ≡ head ++ open_bytes after
opening all others pushed after o left first head inner put e taken close encodes opened =
    ap open_bytes e
    ∙ open_bytes-last others o
    ∙ ap (λ xs. list_bytes o.close (expression_of xs) ++ open_bytes others) taken
    ∙ ap (λ k. list_bytes k (expression_of (first ∷ left.rest.now)) ++ open_bytes others) close
    ∙ ap (λ bs. bs ++ open_bytes others) (encodes left.close (expression_of left.rest.now))
    ∙ append_assoc head (inner ++ open_list_bytes left) (open_bytes others)
    ∙ ap (λ bs. head ++ bs) (append_assoc inner (open_list_bytes left) (open_bytes others))
    ∙ ap (λ bs. head ++ (inner ++ bs)) (sym (ap open_bytes put ∙ open_bytes-last others left))
    ∙ ap (λ bs. head ++ bs) (sym opened)

-- a first part of what was left is written
pub written_on : (out new_out written left less whole : List ℕ) → new_out ≡ out ++ written
    → left ≡ written ++ less → out ++ left ≡ whole → new_out ++ less ≡ whole
written_on out new_out written left less whole new parts old =
    ap (λ bs. bs ++ less) new ∙ append_assoc out written less ∙ ap (λ bs. out ++ bs) (sym parts) ∙ old

pub left_over : (written left less : List ℕ) → left ≡ written ++ less → 0 < length written
    → length less < length left
left_over written left less parts some = omega (arith, ap length parts, length-append written less)

-- no instruction is written as nothing
pub head_some : (e : Encoding) → 0 < length (head_bytes e)
head_some (Code code) = omega arith
head_some (One code first) = omega arith
head_some (Two code first second) = omega arith
head_some (Three code first second third) = omega arith
head_some (Signed32 code value) = omega arith
head_some (Signed64 code value) = omega arith
head_some (Bits32 code bits) = omega arith
head_some (Bits64 code bits) = omega arith
head_some (Labels labels last) = omega arith
head_some (encoding.List code result inner) = omega arith
head_some (Choice result first second) = omega arith
