-- The pages of an editor's recording, run from reset, and those that are read once for many watches.
use Rattle.std.specs.Prelude.{ℕ, List, Option, ◌≡◌, ◌+◌, ◌-◌, ◌≤◌, length, map, nat_lt, Some, None}
use Rattle.std.specs.Prelude.{if◌then◌else◌}
use Rattle.w4_defs.specs.Run.{run_page}
use Rattle.w4_editor.specs.Editor.{Editing, editing_setup}
use Rattle.std.specs.List.{range_with_len}
use Rattle.w4_defs.specs.AllThere.{all_some}
use Rattle.w4_inspect.specs.declared.refusal.RamRefusal.{RamRefusal}
use Rattle.w4_inspect.specs.declared.refusal.RamRefusal.TheVariants.{Outside}

-- the page at place P; a run of an accepted cart always comes to one
abbrev pub page_at : Editing → ℕ → Option (List ℕ)
page_at e p = run_page (editing_setup e) e.disk e.session.current.inputs p

-- the pages at places A to B, one after another
pub record ReadPages : Type 0 where
  pub first : ℕ
  pub last : ℕ
  pub pages : List (List ℕ)

-- they are those of an editor's recording, which has these places
pub record AreOf (e : Editing) (read : ReadPages) : Type 0 where
  pub there : read.last ≤ length e.session.current.inputs
  pub are : all_some (map (page_at e) (range_with_len read.first (read.last + 1 - read.first)))
      ≡ Some read.pages

-- why bytes aren't read in pages that are there
abbrev pub outside_refusal : ℕ → ℕ → Option RamRefusal
outside_refusal address width = if nat_lt 65536 (address + width) then Some Outside else None
