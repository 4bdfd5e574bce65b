-- The walk of direct parents over the cells of a table.
use Rattle.std.specs.Prelude.{◌≡◌, ℕ, List, false, cond, Option, Some, None}
use Rattle.std.proofs.Common.{refl}
use Rattle.lei_shapes.specs.declared.lists.RelationType.{RelationType}
use Rattle.lei_records.specs.declared.view.CellKey.{CellKey}
use Rattle.lei_records.specs.Parents.{parent_of}
use Rattle.lei_records.specs.Tables.{Table, cells_of, seen}
use Rattle.lei_records.specs.Walks.{Next, is_long, is_met, walk_members}
use Rattle.lei_records.proofs.FindLemmas.{find-none}
use Rattle.successor_rules.specs.declared.walks.Walked.{Walked}
use Rattle.successor_rules.specs.Walks.{SeenNext, first_lacking_member, held_lei, is_unknown, known_next, unless_lacking, walk_end, walk_over}
use Rattle.relation_rules.specs.Checking.{walk_parents}

is_known : (next : Option (List ℕ)) → (held_lei (seen next) ≡ next) × (is_unknown (seen next) ≡ false)
is_known None = (refl, refl)
is_known (Some lei) = (refl, refl)

-- if each answer is known, the walk is the one along what is known
walk_over-known : (next : Next) (key : List ℕ → CellKey) (start first : List ℕ) → walk_over (λ lei. seen (next lei)) key start first ≡ walk_end next start first
walk_over-known next key start first =
    let answers : SeenNext = λ lei. seen (next lei) in
    let same : known_next answers ≡ next = λ i lei. (is_known (next lei)).0 i in
    let lacks : first_lacking_member answers first ≡ None = find-none (λ lei. is_unknown (answers lei)) (walk_members 200 (known_next answers) first) (λ lei. (is_known (next lei)).1) in
    λ i. cond (is_met (same i) start first) Walked.Meets (unless_lacking key (lacks i) (cond (is_long (same i) first) Walked.Long Walked.Ends))

pub walk_parents-over_table : (table : Table) (start first : List ℕ) → walk_parents (cells_of table) start first ≡ walk_end (parent_of table) start first
walk_parents-over_table table start first =
    walk_over-known (parent_of table) (λ lei. CellKey.Act lei RelationType.IsDirectlyConsolidatedBy) start first
