-- The sections of the smallest cart, and that its module collects what they hold.
use Rattle.std.specs.Prelude.{refl, ℕ, ◌^◌, ◌<◌, List, [], ◌∷◌, ◌++◌, length, codes}
use Rattle.std.proofs.Common.{inl, inr, arith, sym, append-nil}
use Rattle.w4_defs.specs.BinaryText.{items}
use Rattle.w4_defs.specs.BinaryNumber.{unsigned}
use Rattle.w4_defs.specs.BinaryType.{name}
use Rattle.w4_defs.specs.BinarySection.{Section, section}
use Rattle.w4_defs.specs.BinaryModule.{Collects}
use Rattle.w4_defs.specs.EmptyCart.{empty_module}

-- a number of one byte
pub small : (w n : ℕ) → n < 128 → n < 2 ^ w → unsigned w n (n ∷ [])
small w n low fits = inl (refl, (low, fits, refl))

-- one of 32 bits
pub short : (n : ℕ) → n < 128 → unsigned 32 n (n ∷ [])
short n low = small 32 n low (omega arith)

abbrev pub type_section : List ℕ
type_section = 0x01 ∷ 0x60 ∷ 0x00 ∷ 0x00 ∷ []

abbrev pub import_section : List ℕ
import_section =
    0x01 ∷ 0x03 ∷ 0x65 ∷ 0x6e ∷ 0x76 ∷ 0x06 ∷ 0x6d ∷ 0x65 ∷ 0x6d ∷ 0x6f ∷ 0x72 ∷ 0x79 ∷ 0x02 ∷ 0x00 ∷ 0x01
    ∷ []

abbrev pub function_section : List ℕ
function_section = 0x01 ∷ 0x00 ∷ []

abbrev pub export_section : List ℕ
export_section = 0x01 ∷ 0x06 ∷ 0x75 ∷ 0x70 ∷ 0x64 ∷ 0x61 ∷ 0x74 ∷ 0x65 ∷ 0x00 ∷ 0x00 ∷ []

abbrev pub code_section : List ℕ
code_section = 0x01 ∷ 0x02 ∷ 0x00 ∷ 0x0b ∷ []

abbrev pub sections : List Section
sections =
    (1, type_section) ∷ (2, import_section) ∷ (3, function_section) ∷ (7, export_section)
    ∷ (10, code_section) ∷ []

pub env_is_named : name (codes "env") (0x03 ∷ 0x65 ∷ 0x6e ∷ 0x76 ∷ [])
unfolding lib.Utf8.encode
env_is_named = (0x03 ∷ [], codes "env", refl, short 3 (omega arith), ((codes "env", (refl, refl)), refl))

pub memory_is_named : name (codes "memory") (0x06 ∷ 0x6d ∷ 0x65 ∷ 0x6d ∷ 0x6f ∷ 0x72 ∷ 0x79 ∷ [])
unfolding lib.Utf8.encode
memory_is_named = (
  0x06 ∷ [],
  codes "memory",
  refl,
  short 6 (omega arith),
  ((codes "memory", (refl, refl)), refl),
)

pub update_is_named : name (codes "update") (0x06 ∷ 0x75 ∷ 0x70 ∷ 0x64 ∷ 0x61 ∷ 0x74 ∷ 0x65 ∷ [])
unfolding lib.Utf8.encode
update_is_named = (
  0x06 ∷ [],
  codes "update",
  refl,
  short 6 (omega arith),
  ((codes "update", (refl, refl)), refl),
)

abbrev zero_is_short : unsigned 32 0 (0x00 ∷ [])
zero_is_short = short 0 (omega arith)

abbrev one_is_short : unsigned 32 1 (0x01 ∷ [])
one_is_short = short 1 (omega arith)

pub collected : Collects sections empty_module
collected =
    record {
      order =
          inr (
            omega arith,
            omega arith,
            omega arith,
            inr (
              omega arith,
              omega arith,
              omega arith,
              inr (
                omega arith,
                omega arith,
                omega arith,
                inr (
                  omega arith,
                  omega arith,
                  omega arith,
                  inr (omega arith, omega arith, omega arith, tt),
                ),
              ),
            ),
          );
      types = (
        0x01 ∷ [],
        0x60 ∷ 0x00 ∷ 0x00 ∷ [],
        refl,
        one_is_short,
        (
          0x60 ∷ 0x00 ∷ 0x00 ∷ [],
          [],
          refl,
          (
            omega arith,
            (
              0x60 ∷ [],
              0x00 ∷ 0x00 ∷ [],
              refl,
              refl,
              (
                0x00 ∷ [],
                0x00 ∷ [],
                refl,
                (0x00 ∷ [], [], refl, zero_is_short, refl),
                (0x00 ∷ [], [], refl, zero_is_short, refl),
              ),
            ),
          ),
          refl,
        ),
      );
      imports = (
        0x01 ∷ [],
        0x03 ∷ 0x65 ∷ 0x6e ∷ 0x76 ∷ 0x06 ∷ 0x6d ∷ 0x65 ∷ 0x6d ∷ 0x6f ∷ 0x72 ∷ 0x79 ∷ 0x02 ∷ 0x00 ∷ 0x01 ∷ [],
        refl,
        one_is_short,
        (
          0x03 ∷ 0x65 ∷ 0x6e ∷ 0x76 ∷ 0x06 ∷ 0x6d ∷ 0x65 ∷ 0x6d ∷ 0x6f ∷ 0x72 ∷ 0x79 ∷ 0x02 ∷ 0x00 ∷ 0x01
              ∷ [],
          [],
          refl,
          (
            0x03 ∷ 0x65 ∷ 0x6e ∷ 0x76 ∷ [],
            0x06 ∷ 0x6d ∷ 0x65 ∷ 0x6d ∷ 0x6f ∷ 0x72 ∷ 0x79 ∷ 0x02 ∷ 0x00 ∷ 0x01 ∷ [],
            refl,
            env_is_named,
            (
              0x06 ∷ 0x6d ∷ 0x65 ∷ 0x6d ∷ 0x6f ∷ 0x72 ∷ 0x79 ∷ [],
              0x02 ∷ 0x00 ∷ 0x01 ∷ [],
              refl,
              memory_is_named,
              (0x02 ∷ [], 0x00 ∷ 0x01 ∷ [], refl, refl, (0x00 ∷ [], 0x01 ∷ [], refl, refl, one_is_short)),
            ),
          ),
          refl,
        ),
      );
      functions = (0x01 ∷ [], 0x00 ∷ [], refl, one_is_short, (0x00 ∷ [], [], refl, zero_is_short, refl));
      tables = refl;
      memories = refl;
      globals = refl;
      exports = (
        0x01 ∷ [],
        0x06 ∷ 0x75 ∷ 0x70 ∷ 0x64 ∷ 0x61 ∷ 0x74 ∷ 0x65 ∷ 0x00 ∷ 0x00 ∷ [],
        refl,
        one_is_short,
        (
          0x06 ∷ 0x75 ∷ 0x70 ∷ 0x64 ∷ 0x61 ∷ 0x74 ∷ 0x65 ∷ 0x00 ∷ 0x00 ∷ [],
          [],
          refl,
          (
            0x06 ∷ 0x75 ∷ 0x70 ∷ 0x64 ∷ 0x61 ∷ 0x74 ∷ 0x65 ∷ [],
            0x00 ∷ 0x00 ∷ [],
            refl,
            update_is_named,
            (0x00 ∷ [], 0x00 ∷ [], refl, refl, zero_is_short),
          ),
          refl,
        ),
      );
      start = refl;
      elements = refl;
      data_count = tt;
      bodies = (
        0x01 ∷ [],
        0x02 ∷ 0x00 ∷ 0x0b ∷ [],
        refl,
        one_is_short,
        (
          0x02 ∷ 0x00 ∷ 0x0b ∷ [],
          [],
          refl,
          (
            0x02 ∷ [],
            0x00 ∷ 0x0b ∷ [],
            refl,
            short 2 (omega arith),
            (omega arith, (0x00 ∷ [], 0x0b ∷ [], refl, (0x00 ∷ [], [], refl, zero_is_short, refl), refl)),
          ),
          refl,
        ),
      );
      segments = refl;
      as_many = refl;
    }

-- a section encoded by its id, a text of its size, and its contents
pub whole : (id : ℕ) (size contents : List ℕ) → unsigned 32 (length contents) size
    → section (id, contents) (id ∷ size ++ contents)
whole id size contents counted =
    (id ∷ [], size ++ contents, refl, refl, (size, contents, refl, counted, refl))

-- the text from each section on, where the last has this text for its size
abbrev pub from_code : List ℕ → List ℕ
from_code size = 0x0a ∷ (size ++ code_section)

abbrev pub from_exports : List ℕ → List ℕ
from_exports size = 0x07 ∷ 0x0a ∷ (export_section ++ from_code size)

abbrev pub from_functions : List ℕ → List ℕ
from_functions size = 0x03 ∷ 0x02 ∷ (function_section ++ from_exports size)

abbrev pub from_imports : List ℕ → List ℕ
from_imports size = 0x02 ∷ 0x0f ∷ (import_section ++ from_functions size)

abbrev pub from_types : List ℕ → List ℕ
from_types size = 0x01 ∷ 0x04 ∷ (type_section ++ from_imports size)

pub spelled : (size : List ℕ) → unsigned 32 4 size → items section sections (from_types size)
spelled size counted = (
  0x01 ∷ 0x04 ∷ type_section,
  from_imports size,
  refl,
  whole 1 (0x04 ∷ []) type_section (short 4 (omega arith)),
  (
    0x02 ∷ 0x0f ∷ import_section,
    from_functions size,
    refl,
    whole 2 (0x0f ∷ []) import_section (short 15 (omega arith)),
    (
      0x03 ∷ 0x02 ∷ function_section,
      from_exports size,
      refl,
      whole 3 (0x02 ∷ []) function_section (short 2 (omega arith)),
      (
        0x07 ∷ 0x0a ∷ export_section,
        from_code size,
        refl,
        whole 7 (0x0a ∷ []) export_section (short 10 (omega arith)),
        (from_code size, [], sym (append-nil (from_code size)), whole 10 size code_section counted, refl),
      ),
    ),
  ),
)

-- four in one byte, and in five
pub short_size : unsigned 32 4 (0x04 ∷ [])
short_size = short 4 (omega arith)

pub long_size : unsigned 32 4 (0x84 ∷ 0x80 ∷ 0x80 ∷ 0x80 ∷ 0x00 ∷ [])
long_size =
    inr (
      omega arith,
      omega arith,
      0,
      refl,
      inr (
        omega arith,
        omega arith,
        0,
        refl,
        inr (
          omega arith,
          omega arith,
          0,
          refl,
          inr (omega arith, omega arith, 0, refl, small 4 0 (omega arith) (omega arith)),
        ),
      ),
    )
