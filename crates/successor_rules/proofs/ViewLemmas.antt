-- Levels over a table, which has no missing cells.
use Rattle.std.specs.Prelude.{◌≡◌, ℕ, Bool, false, cond, List, [], ◌∷◌, find, Option, Some, None, option_map}
use Rattle.std.specs.Option.{option_map_or}
use Rattle.std.proofs.Common.{refl, ap, ◌∙◌}
use Rattle.lei_records.specs.declared.view.CellKey.{CellKey}
use Rattle.lei_records.specs.Tables.{Table, cells_of, row_at, seen}
use Rattle.lei_records.specs.Cells.{rec_cell, successors_in}
use Rattle.lei_records.specs.Rows.{Row}
use Rattle.lei_records.specs.Walks.{successors_of}
use Rattle.successor_rules.specs.declared.walks.Walked.{Walked}
use Rattle.successor_rules.specs.Levels.{SeenNexts, first_lacking, has_wide_levels, held_nexts, is_back, known_nexts, lacks_nexts, others, spread_out, spread_over}
use Rattle.successor_rules.specs.Successors.{successors_seen, walk_by_levels}
use Rattle.successor_rules.specs.Walks.{unless_lacking}

none_found : (p : List ℕ → Bool) (xs : List (List ℕ)) → ((x : List ℕ) → p x ≡ false) → find p xs ≡ None
none_found p [] never = refl
none_found p (x ∷ xs) never = ap (λ b. cond b (Some x) (find p xs)) (never x) ∙ none_found p xs never

-- a view that lacks nothing reports the result of the walk
pub spread-whole : (answers : SeenNexts) (key : List ℕ → CellKey) (own : List ℕ) (first : List (List ℕ))
    → ((lei : List ℕ) → lacks_nexts (answers lei) ≡ false) → spread_over answers key own first ≡ spread_out (known_nexts answers) own first
spread-whole answers key own first never =
    let lacks : first_lacking answers own first ≡ None =
    none_found (λ lei. lacks_nexts (answers lei)) (others 201 (known_nexts answers) own first) never in
    ap (λ o. cond (has_wide_levels (known_nexts answers) own first) Walked.Long (unless_lacking key o
    (cond (is_back (known_nexts answers) own first) Walked.Meets Walked.Ends))) lacks

-- what a table answers for the successors of each LEI
row_is_known : (found : Option Row)
    → (held_nexts (successors_seen (seen (option_map rec_cell found))) ≡ option_map_or successors_in found [])
    × (lacks_nexts (successors_seen (seen (option_map rec_cell found))) ≡ false)
row_is_known None = (refl, refl)
row_is_known (Some row) = (refl, refl)

pub walk_by_levels-over_table : (table : Table) (own : List ℕ) (first : List (List ℕ)) → walk_by_levels (cells_of table) own first ≡ spread_out (successors_of table) own first
walk_by_levels-over_table table own first =
    let answers : SeenNexts = λ lei. successors_seen ((cells_of table).record_cell lei) in
    let same : known_nexts answers ≡ successors_of table = λ i lei. (row_is_known (row_at table lei)).0 i in
    spread-whole answers CellKey.Rec own first (λ lei. (row_is_known (row_at table lei)).1)
    ∙ ap (λ nexts. spread_out nexts own first) same
