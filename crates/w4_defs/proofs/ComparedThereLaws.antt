-- What is told of two runs side by side is there, where the runs have a meaning.
use Rattle.std.proofs.Common.{ℕ, ◌+◌, min, length, Option, Some, None, option_map, option_and_then}
use Rattle.std.specs.Prelude.{IsSome}
use Rattle.std.specs.List.{range_with_len}
use Rattle.w4_defs.specs.Comparison.{Side, both_at, compared, compared_places}
use Rattle.w4_defs.specs.Meaning.{RunsHaveMeaning}
use Rattle.w4_defs.specs.Module.{WasmModule}
use Rattle.w4_defs.specs.RecordingOutputs.{TwoPlayed, compared_result, compared_runs, side_of}
use Rattle.w4_defs.specs.Run.{run}
use Rattle.w4_defs.proofs.ThereLaws.{RunsAreThere, mapped_there, values_there}

-- each run of a side is there
abbrev pub SideIsThere : Side → Type 0
SideIsThere side = RunsAreThere side.setup side.disk

pair_there : {A B C : Type 0} (make : A → B → C) (first : Option A) (second : Option B) → IsSome first
    → IsSome second → IsSome (option_and_then (λ a. option_map (make a) second) first)
pair_there make (Some a) second there_first there_second = mapped_there (make a) second there_second
pair_there make None second there_first there_second = there_first

module _ (one other : Side) (one_there : SideIsThere one) (other_there : SideIsThere other) where
  pub both_there : (p : ℕ) → IsSome (both_at one other p)
  both_there p = pair_there (λ first second. record { place = p; first = first; second = second })
      (run one.setup one.disk one.inputs p) (run other.setup other.disk other.inputs p)
      (one_there one.inputs p) (other_there other.inputs p)

  pub sides_compared_there : IsSome (compared one other)
  sides_compared_there =
      let n = length one.inputs in
      let m = length other.inputs in
      mapped_there (compared_places n m) _
      (values_there (both_at one other) both_there (range_with_len 0 (min n m + 1)))

-- what `compare` tells of two runs is there
pub compared_there : (one other : WasmModule) → RunsHaveMeaning one → RunsHaveMeaning other → (p : TwoPlayed)
    → IsSome (compared_runs one other p)
unfolding compared_runs
compared_there one other meant other_meant p =
    let first = side_of one p.first in
    let second = side_of other p.second in
    mapped_there compared_result (compared first second)
    (sides_compared_there first second
    (meant p.first.font p.first.recording.budget p.first.recording.disk)
    (other_meant p.second.font p.second.recording.budget p.second.recording.disk))
