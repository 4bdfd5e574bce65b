-- The cells of a walk, member by member.
use Rattle.std.specs.Prelude.{◌≡◌, ◌+◌, ◌-◌, ◌<◌, ℕ, zero, suc, List, [], ◌∷◌, map, Option, Some, None}
use Rattle.std.specs.Option.{option_map_or}
use Rattle.std.proofs.Common.{refl, ap, subst, ◌∙◌, arith}
use Rattle.lei_records.specs.declared.view.CellKey.{CellKey}
use Rattle.lei_records.specs.declared.view.Seen.{Seen}
use Rattle.lei_records.specs.Cells.{Cells}
use Rattle.lei_records.specs.Walks.{walk_members}
use Rattle.successor_rules.specs.Walks.{SeenNext, held_lei, known_next}
use Rattle.fetched_cells.specs.declared.filling.Filling.{Filling}
use Rattle.fetched_cells.specs.Filling.{AddsCells, member_keys}
use Rattle.fetched_cells.proofs.FillLemmas.{Goes, goes_full, goes_none, goes_on}

-- ---- the first member and the others

-- the cells of the members that follow the first, starting with the one that it names
after : ℕ → (List ℕ → CellKey) → SeenNext → Option (List ℕ) → List CellKey
after n cell answers named = map cell (option_map_or (walk_members n (known_next answers)) named [])

member_keys-suc : (n : ℕ) (cell : List ℕ → CellKey) (answers : SeenNext) (first : List ℕ)
    → member_keys (suc n) cell answers first ≡ cell first ∷ after n cell answers (held_lei (answers first))
unfolding walk_members after
member_keys-suc n cell answers first = refl

member_keys-none : (cell : List ℕ → CellKey) (answers : SeenNext) (first : List ℕ) → member_keys zero cell answers first ≡ []
unfolding walk_members
member_keys-none cell answers first = refl

after-next : (n : ℕ) (cell : List ℕ → CellKey) (answers : SeenNext) (lei : List ℕ) → after n cell answers (Some lei) ≡ member_keys n cell answers lei
unfolding after
after-next n cell answers lei = refl

after-none : (n : ℕ) (cell : List ℕ → CellKey) (answers : SeenNext) → after n cell answers None ≡ []
unfolding after
after-none n cell answers = refl

-- ---- after some of the 200 members

left : (c : ℕ) → c < 200 → 200 - c ≡ suc (200 - (c + 1))
left c less = omega arith

module _ (whole : Cells) (cell : List ℕ → CellKey) (answers : SeenNext) (start now mid : Filling) (member : List ℕ) (all : List CellKey) (c : ℕ)
    (less : c < 200) (before : Goes whole start now (member_keys (200 - c) cell answers member) all) (added : AddsCells whole now mid (cell member ∷ [])) where
  -- the cells of the members after this one are left to add
  stepped : Goes whole start mid (after (200 - (c + 1)) cell answers (held_lei (answers member))) all
  stepped =
      goes_on whole start now (member_keys (200 - c) cell answers member) all mid (cell member ∷ []) (after (200 - (c + 1)) cell answers (held_lei (answers member)))
      before (ap (λ n. member_keys n cell answers member) (left c less) ∙ member_keys-suc (200 - (c + 1)) cell answers member) added

  pub walk_full : mid.left ≡ 0 → AddsCells whole start mid all
  walk_full full = goes_full whole start mid (after (200 - (c + 1)) cell answers (held_lei (answers member))) all stepped full

  pub walk_ends : (seen : Seen (List ℕ)) → answers member ≡ seen → held_lei seen ≡ None → AddsCells whole start mid all
  walk_ends seen is none =
      goes_none whole start mid (after (200 - (c + 1)) cell answers (held_lei (answers member))) all stepped
      (ap (after (200 - (c + 1)) cell answers) (ap held_lei is ∙ none) ∙ after-none (200 - (c + 1)) cell answers)

  pub walk_on : (lei : List ℕ) → answers member ≡ Seen.Held lei → Goes whole start mid (member_keys (200 - (c + 1)) cell answers lei) all
  walk_on lei is =
      subst (λ keys. Goes whole start mid keys all)
      (ap (λ s. after (200 - (c + 1)) cell answers (held_lei s)) is ∙ after-next (200 - (c + 1)) cell answers lei) stepped

pub walk_all : (whole : Cells) (cell : List ℕ → CellKey) (answers : SeenNext) (start now : Filling) (member : List ℕ) (all : List CellKey)
    → Goes whole start now (member_keys zero cell answers member) all → AddsCells whole start now all
walk_all whole cell answers start now member all before =
    goes_none whole start now (member_keys zero cell answers member) all before (member_keys-none cell answers member)
