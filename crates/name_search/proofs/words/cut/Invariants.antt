use Rattle.std.proofs.Common.{length, drop, filter, string_bytes}
use Rattle.std.specs.Str.{chars}
use Rattle.name_search.specs.Words.{is_word, word_pieces}
use Rattle.name_search.proofs.Cutting.{IsCutSo}
use Rattle.name_search.proofs.words.cut.Given as goal

-- the words so far, with those of the current word and of the rest, are all words
abbrev pub invariant-loop-c : goal.invariant-loop-c
invariant-loop-c l =
    IsCutSo l.words.items (string_bytes l.word) (drop (length l.yielded) (chars l.text)) (filter is_word (word_pieces (chars l.text)))
