-- The smallest cart is encoded and valid.
use Rattle.std.specs.Prelude.{refl, ℕ, zero, suc, ◌<◌, ◌≤◌, [], ◌∷◌, length, All}
use Rattle.std.proofs.Common.{arith}
use Rattle.w4_defs.specs.EmptyCart.{empty_module, EmptyCartIsSpelled}
use Rattle.w4_defs.specs.Tree.{done}
use Rattle.w4_defs.specs.Validity.{AreMemoryLimits, Exists, IsValid, IsTypedAt}
use Rattle.w4_defs.proofs.EmptyCartSections.{sections, from_types, spelled, collected, short_size}
use Rattle.w4_defs.specs.Module.{nothing_to_nothing}

pub empty_cart_spelled : EmptyCartIsSpelled
empty_cart_spelled = (sections, from_types (0x04 ∷ []), refl, spelled (0x04 ∷ []) short_size, collected)

pub all_none : {X : Type 0} (P : X → Type 0) → All P []
all_none P k d h = absurd (omega (arith, h))

pub all_one : {X : Type 0} (P : X → Type 0) (x : X) → P x → All P (x ∷ [])
all_one P x p zero d h = p
all_one P x p (suc k) d h = absurd (omega (arith, h))

first : 0 < 1
first = omega arith

one_page : 1 ≤ 65536
one_page = omega arith

pub typed : (k : ℕ) → k < length empty_module.bodies → IsTypedAt empty_module k
typed zero h = (0, record { runs = []; list = done }, refl, refl, (nothing_to_nothing, refl, refl))
typed (suc k) h = absurd (omega (arith, h))

pub empty_module_valid : IsValid empty_module
empty_module_valid = (
  record {
    functions = all_one (λ index. index < 1) 0 first;
    one_table = omega arith;
    one_memory = omega arith;
    table_limits = all_none _;
    memory_limits = all_one AreMemoryLimits _ (tt, one_page, tt);
    globals = all_none _;
    exports = all_one (λ e. Exists empty_module e.kind e.index) _ first;
    export_names = λ i j d below last. absurd (omega (arith, below, last));
    start = tt;
    elements = all_none _;
    segments = all_none _;
  },
  typed,
)
