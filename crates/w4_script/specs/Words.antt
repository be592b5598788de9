-- The words that are still to be read of a line.
use Rattle.std.specs.Prelude.{ℕ, List, length, nat_lt}
use Rattle.std.specs.List.{filter}
use Rattle.w4_defs.specs.Lines.{pieces}
use Rattle.w4_script.specs.declared.words.Words.{Words}

-- the words in these bytes
abbrev pub words_in : List ℕ → List (List ℕ)
words_in bytes = filter (λ word. nat_lt 0 (length word)) (pieces 32 bytes)

abbrev pub words_left : Words → List (List ℕ)
words_left words = words_in words.rest.now
