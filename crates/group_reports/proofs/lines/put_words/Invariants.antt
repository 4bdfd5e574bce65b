use Rattle.std.proofs.Common.{◌≡◌, ◌++◌, drop, map}
use Rattle.std.specs.List.{flat_map}
use Rattle.group_reports.specs.Reports.{after_space}
use Rattle.group_reports.proofs.lines.put_words.Given as goal

-- together with this word and those after it they are all there
abbrev pub invariant-loop-word : goal.invariant-loop-word
invariant-loop-word l =
    l.out.items ++ flat_map after_space (map (λ word. word.now) (drop l.word-index l.words))
    ≡ l.fn.out.items ++ flat_map after_space (map (λ word. word.now) l.words)
