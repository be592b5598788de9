-- An import of the console returns a number if and only if its type has a result: `diskr` and `diskw` alone
-- (WASM-4 reference).
use Rattle.std.specs.Prelude.{◌≡◌, ◌==◌, ◌↔◌, if◌then◌else◌, ℕ, Bool, true, false, List, IsSome, length, refl}
use Rattle.std.proofs.Common.{ap}
use Rattle.w4_defs.specs.declared.console.Import.{Import}
use Rattle.w4_defs.specs.declared.console.Import.TheVariants as import
use Rattle.w4_defs.specs.Imports.{import_type}
use Rattle.w4_defs.specs.State.{Board}
use Rattle.w4_defs.specs.Board.{import_effect}

none : (false ≡ true) ↔ (◌≡◌ {A = ℕ} 0 1)
none = (ap (λ (b : Bool). if b then 1 else 0), ap (λ (n : ℕ). n == 1))

pub answers_by_type : (board : Board) (name : Import) (args page : List ℕ) →
    IsSome (import_effect board name args page).answer ↔ (length (import_type name).results ≡ 1)
unfolding import_effect
answers_by_type board import.Blit args page = none
answers_by_type board import.BlitSub args page = none
answers_by_type board import.Line args page = none
answers_by_type board import.Hline args page = none
answers_by_type board import.Vline args page = none
answers_by_type board import.Oval args page = none
answers_by_type board import.Rect args page = none
answers_by_type board import.Text args page = none
answers_by_type board import.TextUtf8 args page = none
answers_by_type board import.TextUtf16 args page = none
answers_by_type board import.Tone args page = none
answers_by_type board import.Diskr args page = (λ some. refl, λ one. refl)
answers_by_type board import.Diskw args page = (λ some. refl, λ one. refl)
answers_by_type board import.Trace args page = none
answers_by_type board import.TraceUtf8 args page = none
answers_by_type board import.TraceUtf16 args page = none
answers_by_type board import.Tracef args page = none
