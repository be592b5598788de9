-- How many frames a showing may run (project rule): as in the editor, where a segment counts as doubtful also
-- if it holds an input that isn't the predicted one. And what rolling back leaves of a kept list and of an
-- editor.
use Rattle.std.specs.Prelude.{◌≡◌, ℕ, ◌+◌, ◌<◌, ◌≤◌, true, List, [], ◌∷◌, ◌++◌, drop, None, Some, ◌==◌, ◌&&◌}
use Rattle.std.specs.Prelude.{Bool, false, map, pos, refl}
use Rattle.std.specs.List.{slice_get, slice_range}
use Rattle.w4_defs.specs.declared.console.Input.{Input}
use Rattle.w4_defs.specs.KeptList.{Entry, SamePlaces, place_at, state_at, linked_at, doubtful, show_frames}
use Rattle.w4_defs.specs.Rollback.{Known, net_input, net_inputs}
use Rattle.w4_editor.specs.Editor.{Editing, with_session}
use Rattle.w4_editor.specs.Draft.{overwrite_draft}
use lib.Pointwise.{pointwise}
use Rattle.std.specs.Bool.{beq}
use Rattle.std.specs.Ordering.{int_eq}
use Rattle.std.specs.Str.{bytes_eq}
use Rattle.w4_defs.specs.declared.console.Halt.TheVariants.{Running}
use Rattle.w4_defs.specs.SameState.{same_state}
use Rattle.w4_defs.specs.Tones.{silent}

-- places and states are the same, and a link is kept where all inputs since the entry before were right
pub record KeepsLinks (right : ℕ → Type 0) (old new : List Entry) : Type 0 where
  pub places : SamePlaces old new
  pub states : (i : ℕ) → state_at new i ≡ state_at old i
  pub links : (i : ℕ) → linked_at old (i + 1) ≡ true
      → ((k : ℕ) → place_at old i ≤ k → k < place_at old (i + 1) → right k)
      → linked_at new (i + 1) ≡ true

-- these are the inputs from K on, and the entries with one of them between lost their links; where there are
-- none, nothing has changed
abbrev pub IsWritten : ℕ → List Input → Editing → Editing → Type 0
IsWritten k [] old new = new ≡ old
IsWritten k (input ∷ written) old new =
    (new ≡ with_session old new.session None)
    × (new.session.current ≡ overwrite_draft k (input ∷ written) old.session.current)

-- input K is the predicted one, if it is one of the first so many
abbrev pub IsRight : Known → ℕ → List Input → ℕ → Type 0
IsRight known frames inputs k = k < frames → slice_get inputs k ≡ Some (net_input known k)

-- the first so many inputs are the predicted ones, and the others are as they were
pub record IsRolledTo (known : Known) (frames : ℕ) (old new : Editing) : Type 0 where
  pub rest : new ≡ with_session old new.session new.at
  pub inputs : new.session.current.inputs
      ≡ net_inputs known frames ++ drop frames old.session.current.inputs
  pub kept : KeepsLinks (IsRight known frames old.session.current.inputs)
      old.session.current.kept new.session.current.kept

-- so for some number of frames, at most this one
pub record IsPartlyRolled (known : Known) (frames : ℕ) (old new : Editing) : Type 0 where
  pub done : ℕ
  pub some_of : done ≤ frames
  pub rolled : IsRolledTo known done old new

abbrev pub same_input : Input → Input → Bool
same_input a b =
    bytes_eq a.pads b.pads && (int_eq a.mouse_x b.mouse_x && (int_eq a.mouse_y b.mouse_y
    && (a.buttons == b.buttons && beq a.reset b.reset)))

-- whether the inputs from one place to another are the same
abbrev pub same_between : List Input → List Input → ℕ → ℕ → Bool
same_between old new from to = pointwise same_input (slice_range old from to) (slice_range new from to)

-- the kept list in which an entry keeps its link if and only if the inputs since the entry before it are the
-- same
unfoldable pub rolled_from : List Input → List Input → ℕ → List Entry → List Entry
rolled_from old new from [] = []
rolled_from old new from (x ∷ kept) =
    record x { linked = x.linked && same_between old new from x.place }
    ∷ rolled_from old new x.place kept

abbrev pub rolled_back : List Input → List Input → List Entry → List Entry
rolled_back old new kept = rolled_from old new 0 kept

-- at most so many frames are run when place P is shown, of inputs and a kept list as they were, predicted
-- inputs, and the kept list that is left
abbrev pub rollback_frames : ℕ → List Input → List Input → List Entry → List Entry → ℕ
rollback_frames p inputs predicted old new = show_frames p (rolled_back inputs predicted old) new

-- ---- worked cases

-- an input with these bits of gamepad 1
abbrev pressed : ℕ → Input
pressed bits =
    record { pads = bits ∷ 0 ∷ 0 ∷ 0 ∷ []; mouse_x = pos 0; mouse_y = pos 0; buttons = 0; reset = false }

-- an entry; states are told apart by their disks
abbrev entry : ℕ → ℕ → Bool → Entry
entry place n linked = record {
  place = place;
  state = record { page = []; globals = []; channels = silent; disk = n ∷ []; halt = Running };
  linked = linked;
}

-- Five inputs and the kept places 0, 2 and 4, all linked. If nothing is predicted otherwise, place 5 is shown
-- by the one frame after place 4. If input 1 is, the two frames up to place 2 are run again; where the same
-- state is found there, the two up to place 4 aren't, and where another one is, they are. Input 3 is in the
-- second segment alone, input 4 in none. A place is shown by no frame where it is kept and all is as it was.
abbrev pub RollbackFrameCases : Type 0
RollbackFrameCases =
    let inputs = map pressed (1 ∷ 2 ∷ 3 ∷ 4 ∷ 5 ∷ []) in
    let kept = entry 0 0 true ∷ entry 2 1 true ∷ entry 4 2 true ∷ [] in
    let other = entry 0 0 true ∷ entry 2 5 true ∷ entry 4 6 true ∷ [] in
    (rollback_frames 5 inputs inputs kept kept ≡ 1)
    × (rollback_frames 4 inputs inputs kept kept ≡ 0)
    × (rollback_frames 5 inputs (map pressed (1 ∷ 9 ∷ 3 ∷ 4 ∷ 5 ∷ [])) kept kept ≡ 3)
    × (rollback_frames 5 inputs (map pressed (1 ∷ 9 ∷ 3 ∷ 4 ∷ 5 ∷ [])) kept other ≡ 5)
    × (rollback_frames 3 inputs (map pressed (1 ∷ 9 ∷ 3 ∷ 4 ∷ 5 ∷ [])) kept kept ≡ 3)
    × (rollback_frames 5 inputs (map pressed (1 ∷ 2 ∷ 3 ∷ 9 ∷ 5 ∷ [])) kept kept ≡ 3)
    × (rollback_frames 2 inputs (map pressed (1 ∷ 2 ∷ 3 ∷ 9 ∷ 5 ∷ [])) kept kept ≡ 0)
    × (rollback_frames 5 inputs (map pressed (1 ∷ 2 ∷ 3 ∷ 4 ∷ 9 ∷ [])) kept kept ≡ 1)
    -- an input more, and a segment that wasn't linked before
    × (rollback_frames 6 inputs (map pressed (1 ∷ 2 ∷ 3 ∷ 4 ∷ 5 ∷ 6 ∷ [])) kept kept ≡ 2)
    × (rollback_frames 5 inputs inputs (entry 0 0 true ∷ entry 2 1 false ∷ entry 4 2 true ∷ []) kept ≡ 3)

pub rollback-frame-cases : RollbackFrameCases
unfolding same_state doubtful rolled_from
rollback-frame-cases = (refl, refl, refl, refl, refl, refl, refl, refl, refl, refl)
