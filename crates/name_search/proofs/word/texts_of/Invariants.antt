use Rattle.std.proofs.Common.{◌≡◌, ◌++◌}
use Rattle.name_search.proofs.word.texts_of.Given as goal

-- the texts so far and the words that are left are all words
abbrev pub invariant-loop-word : goal.invariant-loop-word
invariant-loop-word l = l.texts.items ++ l.word-iterator.rest.items ≡ l.fn.words
