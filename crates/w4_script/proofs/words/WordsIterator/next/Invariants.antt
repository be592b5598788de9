use Rattle.std.proofs.Common.{◌≡◌, length}
use Rattle.w4_script.specs.Words.{words_in}
use Rattle.w4_script.proofs.words.WordsIterator.next.Given as goal

abbrev pub invariant-loop-word : goal.invariant-loop-word
invariant-loop-word l = words_in l.self.rest.now ≡ words_in l.fn.self.rest.now

abbrev pub decreases-loop-word : goal.decreases-loop-word
decreases-loop-word l = length l.self.rest.now
