use Rattle.std.proofs.Common.{◌≡◌, ◌++◌, drop}
use Rattle.std.specs.Prelude.{flat_map}
use Rattle.w4_defs.specs.FrameTexts.{spaced}
use Rattle.w4_editor.specs.Editor.{place_session}
use Rattle.w4_answers.proofs.state_line.add_kept.Given as goal

abbrev pub invariant-loop-i : goal.invariant-loop-i
invariant-loop-i l =
    let kept = (place_session l.editor).current.kept in
    l.text.items ++ flat_map spaced (drop l.i kept) ≡ l.initial.text.items ++ flat_map spaced kept
