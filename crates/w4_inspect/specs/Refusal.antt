-- Why a watch or a search is refused, the causes in the order in which they are looked at.
use Rattle.std.specs.Prelude.{◌≡◌, ℕ, ◌+◌, ◌⊎◌, length, nat_lt, Option, Some, None, if◌then◌else◌}
use Rattle.w4_editor.specs.Editor.{Editing}
use Rattle.w4_inspect.specs.declared.refusal.RamRefusal.{RamRefusal}
use Rattle.w4_inspect.specs.declared.refusal.RamRefusal.TheVariants.{NoFrame, Outside, OutOfMemory}

abbrev pub no_frame_refusal : Editing → ℕ → Option RamRefusal
no_frame_refusal e p = if nat_lt (length e.session.current.inputs) p then Some NoFrame else None

-- the last place, then the bytes that are watched
abbrev pub watch_refusal : Editing → ℕ → ℕ → ℕ → Option RamRefusal
watch_refusal e address width b =
    if nat_lt (length e.session.current.inputs) b then Some NoFrame else
    if nat_lt 65536 (address + width) then Some Outside else
    None

-- a refusal has its cause; where there is none it is memory's
abbrev pub IsRefusal : Option RamRefusal → RamRefusal → Type 0
IsRefusal wanted refusal = (wanted ≡ Some refusal) ⊎ ((refusal ≡ OutOfMemory) × (wanted ≡ None))
