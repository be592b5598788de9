use Rattle.std.proofs.Common.{◌≡◌, ℕ, ◌+◌, ◌-◌, ◌*◌, ◌≤◌, List, length}
use Rattle.w4_defs.specs.Session.{all_kept, with_list}
use Rattle.w4_editor.specs.Editor.{KeepsRest, place_session}
use Rattle.w4_editor.specs.KeepEvery.{all_to_keep}
use Rattle.w4_editor.specs.Playing.{AreKeptInTurn}
use Rattle.w4_editor.proofs.KeepEveryLaws.{multiples_from}
use Rattle.w4_editor.proofs.keep_every.keep_all.Given as goal

-- the multiples that are left lead to the same kept places, and nothing else has changed
abbrev pub invariant-loop-place : goal.invariant-loop-place
invariant-loop-place g l =
    let first = place_session l.fn.editor in
    let now = place_session l.editor in
    (all_kept (multiples_from l.every l.place (length first.current.inputs + 1 - l.place)) now.current.kept
    ≡ all_to_keep l.every first)
    × (now ≡ with_list first now.current.kept)
    × KeepsRest l.fn.editor l.editor
    × ((places : List ℕ) × AreKeptInTurn places l.fn.steps l.steps l.copied l.fn.editor l.editor)
    × (l.copied ≤ 4294967295 * l.place)
