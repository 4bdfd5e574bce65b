use Rattle.std.proofs.Common.{◌≡◌, ◌++◌, ◌∷◌, drop, flat_map}
use Rattle.lei_office.proofs.damage.append_words.Given as goal

abbrev pub invariant-loop-word : goal.invariant-loop-word
invariant-loop-word l =
    l.text.items ++ flat_map (λ word. 32 ∷ word.now) (drop l.word-index l.words) ≡ l.fn.text.items ++ flat_map (λ word. 32 ∷ word.now) l.words
