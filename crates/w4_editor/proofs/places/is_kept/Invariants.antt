use Rattle.std.proofs.Common.{◌≡◌, drop}
use Rattle.w4_defs.specs.Session.{is_kept, places_alone}
use Rattle.w4_editor.specs.Editor.{place_session}
use Rattle.w4_editor.proofs.places.is_kept.Given as goal

abbrev pub invariant-loop-i : goal.invariant-loop-i
invariant-loop-i l =
    let kept = (place_session l.editor).current.kept in
    is_kept places_alone l.place (drop l.i kept) ≡ is_kept places_alone l.place kept
