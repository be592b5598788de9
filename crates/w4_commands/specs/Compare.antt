-- Two runs side by side, as far as they were compared.
use Rattle.std.specs.Prelude.{◌≡◌, ℕ, ◌+◌, List, length, map, Some, Result, Ok, Err}
use Rattle.std.specs.List.{range_with_len}
use Rattle.w4_defs.specs.declared.status.Finish.{Finish}
use Rattle.w4_defs.specs.declared.status.Refusal.{Refusal}
use Rattle.w4_defs.specs.AllThere.{all_some}
use Rattle.w4_defs.specs.Comparison.{Both, Side, both_at}
use Rattle.w4_defs.specs.Endings.{manner_of}
use Rattle.w4_defs.specs.RecordingOutputs.{TwoPlayed}
use Rattle.w4_defs.specs.World.{World}
use Rattle.w4_answers.specs.Writing.{AppendsOut, StopsWriting}
use Rattle.w4_commands.specs.declared.compare.Side.{Side as Named}
use Rattle.w4_commands.specs.declared.compare.TwoLoaded.{TwoLoaded}
use Rattle.w4_commands.specs.declared.differences.Differences.{Differences}
use Rattle.w4_commands.specs.Differences.{differences_of}
use Rattle.w4_commands.specs.Scene.{scene_side}

-- two runs were compared up to a place
abbrev pub ComparedTo : Side → Side → ℕ → Differences → Type 0
ComparedTo one other place d =
    (places : List Both) × (all_some (map (both_at one other) (range_with_len 0 (place + 1))) ≡ Some places)
    × (length places ≡ place + 1) × (d ≡ differences_of places)

-- one of two runs as the definitions see it
abbrev pub side_view : Named → Side
side_view s = scene_side s.scene s.inputs.now

-- what two runs are made of besides their carts
abbrev pub two_view : TwoLoaded → TwoPlayed
two_view l = record {
  first = record { recording = l.first; font = l.font };
  second = record { recording = l.second; font = l.font };
}

-- bytes were written, and this finish is told; or a first part of them where that stopped
abbrev pub WrittenTo : World → World → Result Finish Refusal → List ℕ → Finish → Type 0
WrittenTo old new (Ok told) bytes finish = AppendsOut old.events new.events bytes × (told ≡ finish)
WrittenTo old new (Err why) bytes finish = StopsWriting old new (manner_of why) bytes
