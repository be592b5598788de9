-- Every row of the instruction table is encoded by its code and what stands after it.
use Rattle.std.proofs.Common.{◌≡◌, ℕ, zero, suc, Bool, true, false, ◌||◌, inl, inr, eqb, List, [], ◌∷◌, map}
use Rattle.std.proofs.Common.{Option, Some, None, refl, ap, sym, subst}
use Rattle.std.specs.Prelude.{replicate, option_map}
use Rattle.std.specs.List.{list_all}
use Rattle.std.proofs.lemmas.Bool.{eqb-true}
use Rattle.std.proofs.lemmas.Option.{same_Some}
use Rattle.w4_defs.specs.declared.operation.Op.{Op}
use Rattle.w4_defs.specs.declared.operation.Op.TheVariants as op
use Rattle.w4_defs.specs.declared.basic.Basic.{Basic}
use Rattle.w4_defs.specs.declared.basic.Basic.TheVariants.{F32Const, F64Const, FloatMemory, FloatPlain}
use Rattle.w4_defs.specs.declared.basic.Basic.TheVariants.{FloatCut}
use Rattle.w4_defs.specs.declared.instruction_table.Row.{Row}
use Rattle.w4_defs.specs.declared.instruction_table.Row.TheVariants.{Test, Compare, Unary, Binary}
use Rattle.w4_defs.specs.declared.instruction_table.Row.TheVariants.{Wrap, Extend, ExtendWithin, Load, Store}
use Rattle.w4_defs.specs.InstructionTable.{opcode, row}
use Rattle.w4_defs.specs.BinaryText.{Texts, ◌then◌, byte}
use Rattle.w4_defs.specs.BinaryNumber.{unsigned}
use Rattle.w4_defs.specs.BinaryBasic.{immediate, shaped, basic, IsFloatAccess}
use Rattle.w4_defs.specs.BinaryInstruction.{operation}
use Rattle.wasm_read.specs.Reader.{row_of}
use Rattle.wasm_read.specs.InstructionTable.{rows, control_rows, compare32, compare64, arith32, arith64}
use Rattle.wasm_read.specs.InstructionTable.{conversions, index_rows, loads, stores}
use Rattle.wasm_read.specs.ReadOperation.{first_some, numeric_of, plain_of, is_float_access, access_of}
use Rattle.wasm_read.proofs.Basics.{split_if, and_true, or_true}

-- what is encoded by a code and these texts
abbrev AllSpelled : {A : Type 0} → (A → Texts) → Texts → List (ℕ × A) → Type 0
AllSpelled Q P [] = Unit {0}
AllSpelled Q P (row ∷ rows) = ((text : List ℕ) → P text → Q row.1 (row.0 ∷ text)) × AllSpelled Q P rows

-- what an option gives is encoded by this code and such bytes
abbrev pub IsSpelled : {A : Type 0} → (A → Texts) → Texts → ℕ → Option A → Type 0
IsSpelled {A} Q P code o = (x : A) (text : List ℕ) → o ≡ Some x → P text → Q x (code ∷ text)

row_spelled : {A : Type 0} (Q : A → Texts) (P : Texts) (rows : List (ℕ × A)) → AllSpelled Q P rows
    → (code : ℕ) → IsSpelled Q P code (row_of rows code)
row_spelled Q P [] all code x text e p = absurd cc
row_spelled {A} Q P (row ∷ rows) all code x text e p =
    elim (split_if (eqb code row.0) (Some row.1) (row_of rows code) (Some x) e) [
      | inl h ↦
          let same : row.0 ≡ code = sym (eqb-true code row.0 h.0) in
          let value : row.1 ≡ x = cc in
          let At : ℕ → Type 0 = λ k. Q row.1 (k ∷ text) in
          let Of : A → Type 0 = λ o. Q o (code ∷ text) in
          subst Of value (subst At same (all.0 text p))
      | inr h ↦ row_spelled Q P rows all.1 code x text h.1 p
    ]

first_spelled : {A : Type 0} (Q : A → Texts) (P : Texts) (code : ℕ) (o other : Option A)
    → IsSpelled Q P code o → IsSpelled Q P code other → IsSpelled Q P code (first_some o other)
first_spelled Q P code (Some x) other f g = f
first_spelled Q P code None other f g = g

-- no bytes
abbrev pub no_bytes : Texts
no_bytes text = text ≡ []

alone : (code : ℕ) (text : List ℕ) → text ≡ [] → code ∷ text ≡ code ∷ []
alone code text h = ap (λ t. code ∷ t) h

pub headed : (P : Texts) (code : ℕ) (text : List ℕ) → P text → (byte code then P) (code ∷ text)
headed P code text p = (code ∷ [], text, refl, refl, p)

-- ---- basic instructions after whose code nothing stands

abbrev is_alone : Row → Bool
is_alone (Test t) = true
is_alone (Compare t o) = true
is_alone (Unary t o) = true
is_alone (Binary t o) = true
is_alone Wrap = true
is_alone (Extend sign) = true
is_alone (ExtendWithin t bits) = true
is_alone _ = false

shaped_alone : (code : ℕ) (r : Row) → is_alone r ≡ true → shaped code r (code ∷ [])
shaped_alone code (Test t) h = refl
shaped_alone code (Compare t o) h = refl
shaped_alone code (Unary t o) h = refl
shaped_alone code (Binary t o) h = refl
shaped_alone code Wrap h = refl
shaped_alone code (Extend sign) h = refl
shaped_alone code (ExtendWithin t bits) h = refl
shaped_alone code _ h = absurd (cc h)

basic_alone : (i : Basic) → is_alone (row i) ≡ true → basic i (opcode i ∷ [])
basic_alone (F32Const bits) h = absurd (cc h)
basic_alone (F64Const bits) h = absurd (cc h)
basic_alone (FloatMemory code align offset) h = absurd (cc h)
basic_alone (FloatPlain code) h = absurd (cc h)
basic_alone (FloatCut code) h = absurd (cc h)
basic_alone i h = shaped_alone (opcode i) (row i) h

all_alone : (is : List Basic) → list_all (λ i. is_alone (row i)) is ≡ true
    → AllSpelled basic no_bytes (rows is)
all_alone [] h = tt
all_alone (i ∷ is) h =
    let k = and_true (is_alone (row i)) (list_all (λ i. is_alone (row i)) is) h in (
      λ text p. subst (λ t. basic i (opcode i ∷ t)) (sym p) (basic_alone i k.0),
      all_alone is k.1,
    )

-- ---- basic instructions that access the memory

abbrev accessed : Row → Option (ℕ × ℕ)
accessed (Load t bytes sign align offset) = Some (align, offset)
accessed (Store t bytes align offset) = Some (align, offset)
accessed _ = None

shaped_access : (code a o : ℕ) (r : Row) → accessed r ≡ Some (a, o) → (text : List ℕ) → immediate a o text
    → shaped code r (code ∷ text)
shaped_access code a o (Load t bytes sign align offset) h text p =
    headed (immediate align offset) code text
    (subst (λ (n : ℕ × ℕ). immediate n.0 n.1 text) (sym (same_Some _ _ h)) p)
shaped_access code a o (Store t bytes align offset) h text p =
    headed (immediate align offset) code text
    (subst (λ (n : ℕ × ℕ). immediate n.0 n.1 text) (sym (same_Some _ _ h)) p)
shaped_access code a o _ h text p = absurd (cc h)

basic_access : (a o : ℕ) (i : Basic) → accessed (row i) ≡ Some (a, o) → (text : List ℕ) → immediate a o text
    → basic i (opcode i ∷ text)
basic_access a o (F32Const bits) h = absurd (cc h)
basic_access a o (F64Const bits) h = absurd (cc h)
basic_access a o (FloatMemory code align offset) h = absurd (cc h)
basic_access a o (FloatPlain code) h = absurd (cc h)
basic_access a o (FloatCut code) h = absurd (cc h)
basic_access a o i h = shaped_access (opcode i) a o (row i) h

all_access : (a o : ℕ) (is : List Basic) (n : ℕ)
    → map (λ i. accessed (row i)) is ≡ replicate n (Some (a, o)) → AllSpelled basic (immediate a o) (rows is)
all_access a o [] n h = tt
all_access a o (i ∷ is) zero h = absurd (cc h)
all_access a o (i ∷ is) (suc n) h = (basic_access a o i (cc h), all_access a o is n (cc h))

-- ---- by their codes

control_spelled : AllSpelled operation no_bytes control_rows
control_spelled = (alone 0x00, (alone 0x01, (alone 0x0f, (alone 0x1a, (alone 0x1b, tt)))))

index_spelled : (i : ℕ) → AllSpelled operation (unsigned 32 i) (index_rows i)
index_spelled i = (
  headed (unsigned 32 i) 0x0c,
  (
    headed (unsigned 32 i) 0x0d,
    (
      headed (unsigned 32 i) 0x10,
      (
        headed (unsigned 32 i) 0x20,
        (
          headed (unsigned 32 i) 0x21,
          (headed (unsigned 32 i) 0x22, (headed (unsigned 32 i) 0x23, (headed (unsigned 32 i) 0x24, tt))),
        ),
      ),
    ),
  ),
)

listed_spelled : (code : ℕ) (is : List Basic) → list_all (λ i. is_alone (row i)) is ≡ true
    → IsSpelled basic no_bytes code (row_of (rows is) code)
listed_spelled code is h = row_spelled basic no_bytes (rows is) (all_alone is h) code

numeric_spelled : (code : ℕ) → IsSpelled basic no_bytes code (numeric_of code)
numeric_spelled code =
    first_spelled basic no_bytes code _ _ (listed_spelled code compare32 refl)
    (first_spelled basic no_bytes code _ _ (listed_spelled code compare64 refl)
    (first_spelled basic no_bytes code _ _ (listed_spelled code arith32 refl)
    (first_spelled basic no_bytes code _ _ (listed_spelled code arith64 refl)
    (listed_spelled code conversions refl))))

-- as an operation
mapped_spelled : (P : Texts) (code : ℕ) (o : Option Basic) → IsSpelled basic P code o
    → IsSpelled operation P code (option_map op.Basic o)
mapped_spelled P code None f x text e p = absurd (cc e)
mapped_spelled P code (Some i) f x text e p =
    subst (λ (o : Op). operation o (code ∷ text)) (same_Some _ _ e) (f i text refl p)

pub plain_spelled : (code : ℕ) → IsSpelled operation no_bytes code (plain_of code)
plain_spelled code =
    first_spelled operation no_bytes code _ _
    (row_spelled operation no_bytes control_rows control_spelled code)
    (mapped_spelled no_bytes code (numeric_of code) (numeric_spelled code))

pub indexed_spelled : (i code : ℕ) → IsSpelled operation (unsigned 32 i) code (row_of (index_rows i) code)
indexed_spelled i code = row_spelled operation (unsigned 32 i) (index_rows i) (index_spelled i) code

is_float_access_sound : (code : ℕ) → is_float_access code ≡ true → IsFloatAccess code
is_float_access_sound code e =
    elim (or_true (eqb code 0x2a) (eqb code 0x2b || (eqb code 0x38 || eqb code 0x39)) e) [
      | inl h ↦ inl (eqb-true code 0x2a h)
      | inr h ↦ elim (or_true (eqb code 0x2b) (eqb code 0x38 || eqb code 0x39) h) [
        | inl k ↦ inr (inl (eqb-true code 0x2b k))
        | inr k ↦ elim (or_true (eqb code 0x38) (eqb code 0x39) k) [
          | inl m ↦ inr (inr (inl (eqb-true code 0x38 m)))
          | inr m ↦ inr (inr (inr (eqb-true code 0x39 m)))
        ]
      ]
    ]

pub access_spelled : (a o code : ℕ) → IsSpelled basic (immediate a o) code (access_of code a o)
access_spelled a o code i text e p =
    let listed : Option Basic =
    first_some (row_of (rows (loads a o)) code) (row_of (rows (stores a o)) code) in
    elim (split_if (is_float_access code) (Some (FloatMemory code a o)) listed (Some i) e) [
      | inl h ↦ subst (λ (x : Basic). basic x (code ∷ text)) (same_Some _ _ h.1)
          (is_float_access_sound code h.0, headed (immediate a o) code text p)
      | inr h ↦ first_spelled basic (immediate a o) code _ _
          (row_spelled basic (immediate a o) (rows (loads a o)) (all_access a o (loads a o) 12 refl) code)
          (row_spelled basic (immediate a o) (rows (stores a o)) (all_access a o (stores a o) 7 refl) code)
          i text h.1 p
    ]
