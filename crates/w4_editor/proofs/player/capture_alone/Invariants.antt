use Rattle.w4_editor.proofs.player.capture_alone.Given as goal

abbrev pub ghosts-captured : goal.ghosts-captured
ghosts-captured a = record { name = a.blank.name; parts = a.blank.parts }
