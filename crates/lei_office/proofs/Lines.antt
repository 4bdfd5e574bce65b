-- Words, separated by single spaces.
use Rattle.std.proofs.Common.{◌≡◌, ℕ, List, [], ◌∷◌, ◌++◌, flat_map, map, ap}
use Rattle.std.proofs.lemmas.List.{append-nil}
use Rattle.std.specs.Borrow.{Bor}
use Rattle.register_history.specs.Kept.{with_spaces}

pub joined_behind : (first : List ℕ) (others : List (Bor (List ℕ))) → first ++ flat_map (λ word. 32 ∷ word.now) others ≡ with_spaces (first ∷ map (λ word. word.now) others)
joined_behind first [] = append-nil first
joined_behind first (next ∷ others) = ap (λ text. first ++ 32 ∷ text) (joined_behind next.now others)
