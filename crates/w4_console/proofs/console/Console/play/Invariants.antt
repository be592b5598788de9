use Rattle.w4_console.proofs.console.Console.play.Given as goal

abbrev pub ghosts-play_alone : goal.ghosts-play_alone
ghosts-play_alone a = record { name = a.blank.name; parts = a.blank.parts }
