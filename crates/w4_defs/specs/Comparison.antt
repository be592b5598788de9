-- Two runs side by side (project rule): the first place at which they differ in state, image, tones, trace
-- lines and disk, each in a line, `same` where there is none; and how many inputs each has. The places are
-- those that both have.
use Rattle.std.specs.Prelude.{◌≡◌, ℕ, ◌+◌, ◌==◌, ◌&&◌, Bool, true, false, not, is_some, min, List, [], ◌∷◌, ◌++◌, flat_map, length, map, zip, codes, option_and_then, option_map, Option, Some, None, refl}
use Rattle.std.specs.Fmt.{digits}
use Rattle.std.specs.List.{list_any, position, range_with_len}
use Rattle.std.specs.Str.{bytes_eq}
use Rattle.w4_defs.specs.declared.console.Halt.TheVariants.{Running}
use Rattle.w4_defs.specs.declared.console.Input.{Input}
use Rattle.w4_defs.specs.AllThere.{all_some}
use Rattle.w4_defs.specs.FrameTexts.{line_end, numbered, schedule_text, trace_text}
use Rattle.w4_defs.specs.Image.{image}
use Rattle.w4_defs.specs.Reset.{Setup}
use Rattle.w4_defs.specs.Run.{run}
use Rattle.w4_defs.specs.SameState.{same_state}
use Rattle.w4_defs.specs.State.{Moment, empty_record}
use Rattle.w4_defs.specs.Tones.{silent}

-- what two runs come to at a place
pub record Both : Type 0 where
  pub place : ℕ
  pub first : Moment
  pub second : Moment

-- whether they are the same there, in one respect
abbrev pub Respect : Type 0
Respect = Both → Bool

abbrev pub has_same_state : Respect
has_same_state both = same_state both.first.state both.second.state

abbrev pub has_same_image : Respect
has_same_image both = bytes_eq (image both.first.state.page) (image both.second.state.page)

abbrev pub has_same_tones : Respect
has_same_tones both =
    bytes_eq (schedule_text both.place both.first.frame_record)
    (schedule_text both.place both.second.frame_record)

abbrev pub has_same_traces : Respect
has_same_traces both =
    bytes_eq (trace_text both.place both.first.frame_record) (trace_text both.place both.second.frame_record)

abbrev pub has_same_disk : Respect
has_same_disk both = bytes_eq both.first.state.disk both.second.state.disk

-- the first place, counted from 0, at which they aren't
abbrev pub first_difference : Respect → List Both → Option ℕ
first_difference same places = position (λ both. not (same both)) places

abbrev pub respect_line : List ℕ → Option ℕ → List ℕ
respect_line word None = word ++ codes " same" ++ line_end
respect_line word (Some place) = numbered word (place ∷ [])

-- the six lines, and whether all is the same
pub record Compared : Type 0 where
  pub text : List ℕ
  pub same : Bool

-- by the first differences in state, image, tones, trace lines and disk, of runs of so many inputs
abbrev pub compared_by : ℕ → ℕ → List (Option ℕ) → Compared
compared_by n m differences = record {
  text = flat_map (λ pair. respect_line pair.0 pair.1)
      (zip (codes "state" ∷ codes "image" ∷ codes "tones" ∷ codes "traces" ∷ codes "disk" ∷ []) differences)
      ++ numbered (codes "places") (n ∷ m ∷ []);
  same = not (list_any is_some differences) && n == m;
}

abbrev pub respects : List Respect
respects = has_same_state ∷ has_same_image ∷ has_same_tones ∷ has_same_traces ∷ has_same_disk ∷ []

abbrev pub compared_places : ℕ → ℕ → List Both → Compared
compared_places n m places = compared_by n m (map (λ same. first_difference same places) respects)

-- one of the two runs: what is common to it, its disk and its inputs
pub record Side : Type 0 where
  pub setup : Setup
  pub disk : List ℕ
  pub inputs : List Input

abbrev pub both_at : Side → Side → ℕ → Option Both
both_at one other p = option_and_then (λ first. option_map
    (λ second. record { place = p; first = first; second = second })
    (run other.setup other.disk other.inputs p)) (run one.setup one.disk one.inputs p)

-- two runs; None where one of them has no meaning
abbrev pub compared : Side → Side → Option Compared
compared one other =
    let n = length one.inputs in
    let m = length other.inputs in
    option_map (compared_places n m) (all_some (map (both_at one other) (range_with_len 0 (min n m + 1))))

-- Worked cases: runs that are the same, one of them with one input more, and differences; and places of
-- which the second differs in its disk.
abbrev worked_moment : List ℕ → Moment
worked_moment disk = record {
  state = record { page = []; globals = []; channels = silent; disk = disk; halt = Running };
  frame_record = empty_record;
}

abbrev worked_places : List Both
worked_places =
    record { place = 0; first = worked_moment []; second = worked_moment [] }
    ∷ record { place = 1; first = worked_moment []; second = worked_moment (7 ∷ []) }
    ∷ []

abbrev pub ComparisonCases : Type 0
ComparisonCases =
    (compared_by 1 1 (None ∷ None ∷ None ∷ None ∷ None ∷ [])
    ≡ record {
      text = codes "state same\nimage same\ntones same\ntraces same\ndisk same\nplaces 1 1\n";
      same = true;
    })
    × ((compared_by 1 2 (None ∷ None ∷ None ∷ None ∷ None ∷ [])).same ≡ false)
    × (compared_by 2 2 (Some 1 ∷ Some 1 ∷ None ∷ None ∷ None ∷ [])
    ≡ record {
      text = codes "state 1\nimage 1\ntones same\ntraces same\ndisk same\nplaces 2 2\n";
      same = false;
    })
    × (first_difference has_same_state worked_places ≡ Some 1)
    × (first_difference has_same_disk worked_places ≡ Some 1)
    × (first_difference has_same_tones worked_places ≡ None)
    × (first_difference has_same_traces worked_places ≡ None)

pub comparison-cases : ComparisonCases
unfolding same_state schedule_text trace_text digits
comparison-cases = (refl, refl, refl, refl, refl, refl, refl)
