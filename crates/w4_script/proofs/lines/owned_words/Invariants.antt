use Rattle.std.proofs.Common.{◌≡◌, ◌++◌, map}
use Rattle.w4_script.specs.Words.{words_left}
use Rattle.w4_script.proofs.lines.owned_words.Given as goal

abbrev pub invariant-loop-word : goal.invariant-loop-word
invariant-loop-word l =
    map (λ word. word.items) l.owned.items ++ words_left l.word-iterator ≡ words_left l.fn.words
