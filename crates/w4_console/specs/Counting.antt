-- Counters of frames and of rounds, `Steps<L>`. They exist for contracts alone, and can't be read or made
-- anew when the program runs: what one has counted is in a ledger L of std, which has a name of its own and
-- whose shares can't be copied. A type parameter stands for the ledger, so that clauses can cite it. So a
-- function that begins to count takes the blank from which the ledger is opened, and is called at the type
-- `Brand`, which stands for a new ledger at each call.
use Rattle.std.specs.Prelude.{◌≡◌, ◌<◌, ℕ}
use Rattle.std.specs.declared.sync.ledger.Blank.{Blank}

-- the blank is that of the ledger with this name, which is cut into so many parts, at least one
abbrev pub IsBlankOf : ℕ → ℕ → Blank → Type 0
IsBlankOf name parts blank = (blank.name ≡ name) × (blank.parts ≡ parts) × (0 < parts)
