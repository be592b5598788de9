-- The lines of a query as they are read: widths are 1, 2 or 4, and the places of a watch don't fall.
use Rattle.std.specs.Prelude.{◌≡◌, ◌≤◌, ◌⊎◌, ℕ}
use Rattle.w4_defs.specs.declared.inspect.Ask.{Ask}
use Rattle.w4_defs.specs.declared.inspect.Ask.TheVariants as ask
use Rattle.w4_defs.specs.declared.inspect.QueryLine.{QueryLine}
use Rattle.w4_defs.specs.declared.inspect.QueryLine.TheVariants as line

-- a width that a line may say
abbrev pub IsWidth : ℕ → Type 0
IsWidth width = (width ≡ 1) ⊎ (width ≡ 2) ⊎ (width ≡ 4)

abbrev pub IsRequest : Ask → Type 0
IsRequest (ask.Watch address width a b) = IsWidth width × (a ≤ b)
IsRequest (ask.Start width p) = IsWidth width
IsRequest (ask.Narrow p test) = Unit {0}
IsRequest ask.List = Unit {0}

abbrev pub IsQueryLine : QueryLine → Type 0
IsQueryLine (line.Ask ask) = IsRequest ask
IsQueryLine (line.Keep p) = Unit {0}
IsQueryLine (line.KeepEvery every) = Unit {0}
