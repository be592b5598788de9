-- Where two runs differ first, as far as they were compared.
use Rattle.std.specs.Prelude.{ℕ, ◌∷◌, [], Bool, List, Option, Some, None, if◌then◌else◌}
use Rattle.w4_defs.specs.Comparison.{Both, first_difference, has_same_disk, has_same_image, has_same_state}
use Rattle.w4_defs.specs.Comparison.{has_same_tones, has_same_traces}
use Rattle.w4_commands.specs.Stage.{stage_moment}
use Rattle.w4_commands.specs.declared.differences.Differences.{Differences}
use Rattle.w4_commands.specs.declared.stage.Stage.{Stage}

-- where nothing has differed yet, this place, unless it is the same there
abbrev pub if_differs : Bool → ℕ → Option ℕ
if_differs same place = if same then None else Some place

-- the first difference, after one more place
abbrev pub after_place : Option ℕ → Bool → ℕ → Option ℕ
after_place None same place = if_differs same place
after_place (Some first) same place = Some first

-- all five, after one more place
abbrev pub noted : Both → Differences → Differences
noted both d = record {
  state = after_place d.state (has_same_state both) both.place;
  image = after_place d.image (has_same_image both) both.place;
  tones = after_place d.tones (has_same_tones both) both.place;
  traces = after_place d.traces (has_same_traces both) both.place;
  disk = after_place d.disk (has_same_disk both) both.place;
}

abbrev pub differences_of : List Both → Differences
differences_of places = record {
  state = first_difference has_same_state places;
  image = first_difference has_same_image places;
  tones = first_difference has_same_tones places;
  traces = first_difference has_same_traces places;
  disk = first_difference has_same_disk places;
}

-- in the order of the lines
abbrev pub listed : Differences → List (Option ℕ)
listed d = d.state ∷ d.image ∷ d.tones ∷ d.traces ∷ d.disk ∷ []

-- where two stages stand
abbrev pub both_stages : ℕ → Stage → Stage → Both
both_stages place one other =
    record { place = place; first = stage_moment one; second = stage_moment other }
