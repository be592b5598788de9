-- How many frames, or rounds of settling, have been run (project rule): each raises a counter by one.
use Rattle.std.specs.Prelude.{ℕ, ◌+◌, ◌≤◌}

-- the calls between two readings of the counter have run at most so many
abbrev pub RunsAtMost : (before after many : ℕ) → Type 0
RunsAtMost before after many = after ≤ before + many
