use Rattle.std.proofs.Common.{◌≡◌, ◌≢◌, ◌≤◌, ℕ, List, length, take, All}
use Rattle.std.specs.Io.KnownBytes.{Consumes}
use Rattle.w4_house.proofs.line.next_line.Given as goal

-- so many bytes of the line were read, none of which ends it
abbrev pub invariant-loop : goal.invariant-loop
invariant-loop g l = (length l.front.items ≤ l.most)
    × ((read : List ℕ) × (l.front.items ≡ take l.most read) × All (λ byte. byte ≢ 10) read
    × Consumes (g.R.Read.remaining l.fn.reader) (g.R.Read.remaining l.reader) read)
