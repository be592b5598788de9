-- What a watch answers, and what it does to an editor.
use Rattle.std.specs.Prelude.{◌≡◌, ℕ, ◌+◌, ◌-◌, ◌≤◌, List, map, Option, Some, option_map}
use Rattle.std.specs.List.{range_with_len}
use Rattle.w4_defs.specs.AllThere.{all_some}
use Rattle.w4_defs.specs.Bytes.{number_at}
use Rattle.w4_defs.specs.KeptList.{IsSettled, last_up_to, show_frames}
use Rattle.w4_editor.specs.Editor.{Editing}
use Rattle.w4_editor.specs.Playing.{KeepsRecording}
use Rattle.w4_inspect.specs.PlacePages.{page_at}

-- the value at an address, at place P
abbrev pub value_at : Editing → ℕ → ℕ → ℕ → Option ℕ
value_at e address width p = option_map (λ page. number_at page address width) (page_at e p)

-- and at places A to B
abbrev pub watched : Editing → ℕ → ℕ → ℕ → ℕ → Option (List ℕ)
watched e address width a b = all_some (map (value_at e address width) (range_with_len a (b + 1 - a)))

-- place B is shown. The frames that were run are those that a show of place A may run, and those from A to B
pub record IsWatched (a b before after : ℕ) (old new : Editing) : Type 0 where
  pub recording : KeepsRecording old new
  pub at : new.at ≡ Some b
  pub settled : IsSettled
      (last_up_to a old.session.current.kept) old.session.current.kept new.session.current.kept
  pub frames : after ≤ before + show_frames a old.session.current.kept new.session.current.kept + (b - a)
