-- The bytes that a page lends out to be written: what they are at the end is the page.
use Rattle.std.specs.Prelude.{ℕ, List}
use Rattle.std.specs.Borrow.{Fml, MutBor, Lends, Array, u8}
use Rattle.wasm_page.specs.contracts.page.Page.{the_row}

abbrev pub LendsBytes : MutBor (List ℕ) → MutBor (List ℕ) → Fml
LendsBytes page bytes = Lends the_row (Array u8 0) page bytes (λ now. now)
