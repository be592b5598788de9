-- The kept places after each multiple of a number is kept.
use Rattle.std.specs.Prelude.{ℕ, ◌%◌, ◌==◌, ◌&&◌, Bool, not, List, length, if◌then◌else◌}
use Rattle.w4_defs.specs.Session.{Session, places_alone, multiples, all_kept, is_kept, with_kept}

-- the kept places after each multiple of a number is kept
abbrev pub all_to_keep : ℕ → Session ℕ → List ℕ
all_to_keep every s = all_kept (multiples every (length s.current.inputs)) s.current.kept

-- a multiple that isn't kept yet, and the kept places once it is
abbrev pub is_fresh_multiple : ℕ → ℕ → List ℕ → Bool
is_fresh_multiple every p kept = p % every == 0 && not (is_kept places_alone p kept)

abbrev pub with_multiple : ℕ → ℕ → List ℕ → List ℕ
with_multiple every p kept = if is_fresh_multiple every p kept then with_kept places_alone p kept else kept
