-- What the program does for given words, files and lines of a session is one thing: bytes are at most one
-- cart, or they are refused for one cause, and never both.
use Rattle.std.specs.Prelude.{◌≡◌, Result, ⊤}
use Rattle.w4_defs.specs.World.{Files}
use Rattle.w4_defs.specs.declared.status.Refusal.{Refusal}
use Rattle.w4_defs.specs.Output.{Output}
use Rattle.w4_defs.specs.Commands.{Form, Serve}
use Rattle.w4_defs.specs.Live.{Talk}
use Rattle.w4_defs.specs.Outputs.{OutputsForm}

abbrev pub AtMostOneOutput : Type 0
AtMostOneOutput = (form : Form) (talk : Talk) (files : Files) (output other : Result Output Refusal)
    → OutputsForm form talk files output → OutputsForm form talk files other → output ≡ other

-- only a live session takes lines
abbrev pub TakesLines : Form → Type 0
TakesLines (Serve words) = ⊤
TakesLines form = ⊥

-- what any other command does is the same whatever lines there are
abbrev pub OthersTakeNoLines : Type 0
OthersTakeNoLines = (form : Form) (talk other : Talk) (files : Files) (output : Result Output Refusal)
    → (TakesLines form → ⊥) → OutputsForm form talk files output → OutputsForm form other files output
