-- Which entries lose their link where several inputs are written at once (project rule): they stand from
-- input K on, over those that are there and then behind the last.
use Rattle.std.specs.Prelude.{ℕ, Bool, List, [], ◌∷◌, min, max, nat_lt, if◌then◌else◌}
use Rattle.w4_defs.specs.KeptList.{Entry, kept_entries}

-- whether one of the inputs K to END - 1 leads from place P on, and not past place Q
abbrev pub is_between : ℕ → ℕ → ℕ → ℕ → Bool
is_between k end p q = nat_lt (max k p) (min end q)

-- an entry loses its link if and only if one of the inputs K to END - 1 stands between it and the entry
-- before
abbrev pub unlink_between : ℕ → ℕ → ℕ → List Entry → List Entry
unlink_between k end from [] = []
unlink_between k end from (x ∷ kept) =
    (if is_between k end from x.place then kept_entries.unlinked x else x)
    ∷ unlink_between k end x.place kept
