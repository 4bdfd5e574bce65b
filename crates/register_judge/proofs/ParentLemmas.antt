-- Chains of direct parents still end after items, and no entity has both an exception and an active parent.
use Rattle.std.specs.Prelude.{◌≡◌, List, [], ◌∷◌, Option, Some, None}
use Rattle.std.proofs.Common.{refl}
use Rattle.lei_records.specs.Checks.{FailedCheck}
use Rattle.lei_records.specs.declared.item.Item.{Item}
use Rattle.lei_records.specs.declared.item.Readied.{Readied}
use Rattle.lei_records.specs.Checks.{first_failing}
use Rattle.lei_records.specs.Tables.{IsSoundTable, Table, put, put_all}
use Rattle.relation_rules.specs.Parents.{ExceptionsExcludeParents, ParentChainsEnd}
use Rattle.relation_rules.proofs.ApartLemmas.{exceptions_keep_apart, relations_keep_apart}
use Rattle.relation_rules.proofs.ChainLemmas.{keeps_parents}
use Rattle.register_judge.specs.declared.sitting.Sitting.{Sitting}
use Rattle.register_judge.specs.Taking.{HaveRows, item_checks, take, verdict, verdict_of, writes_of}
use Rattle.register_judge.proofs.TakingLemmas.{next_sound, put-written}

-- ---- what each accepted item keeps of a sound table, items keep

-- an accepted item keeps this property of a sound table
abbrev Keeps : (Table → Type 0) → Type 0
Keeps P = (table : Table) (sitting : Sitting) (item : Item) → IsSoundTable table → P table
    → first_failing (item_checks table sitting item) ≡ None → P (put table item)

item_keeps : (P : Table → Type 0) → Keeps P → (table : Table) (sitting : Sitting) (item : Item) (failed : Option FailedCheck) → IsSoundTable table → P table
    → first_failing (item_checks table sitting item) ≡ failed
    → P (put_all (writes_of (verdict_of failed) (Readied.Good item)) table)
item_keeps P keeps table sitting item None sound has is = put-written P table item (keeps table sitting item sound has is)
item_keeps P keeps table sitting item (Some check) sound has is = has

take_keeps : (P : Table → Type 0) → Keeps P → (table : Table) (sitting : Sitting) (items : List Readied) → IsSoundTable table → P table → HaveRows items
    → P (take table sitting items).table
take_keeps P keeps table sitting [] sound has rows = has
take_keeps P keeps table sitting (Readied.Bad check ∷ items) sound has rows = take_keeps P keeps table sitting items sound has rows
take_keeps P keeps table sitting (Readied.Good item ∷ items) sound has rows =
    let given = verdict table sitting (Readied.Good item) in
    take_keeps P keeps (put_all (writes_of given (Readied.Good item)) table) sitting items (next_sound table sitting item sound rows.0)
    (item_keeps P keeps table sitting item (first_failing (item_checks table sitting item)) sound has refl) rows.1

-- ---- parents, and exceptions of their categories

parents_kept : Keeps ParentChainsEnd
parents_kept table sitting (Item.Record row) sound has passes = record { ends = has.ends }
parents_kept table sitting (Item.Relation row) sound has passes = keeps_parents table sitting.issuer row sound has passes
parents_kept table sitting (Item.Exception item) sound has passes = record { ends = has.ends }

apart_kept : Keeps ExceptionsExcludeParents
apart_kept table sitting (Item.Record row) sound apart passes = apart
apart_kept table sitting (Item.Relation row) sound apart passes = relations_keep_apart table sitting.issuer row sound apart passes
apart_kept table sitting (Item.Exception item) sound apart passes = exceptions_keep_apart table sitting.issuer item.0 item.1 apart passes

pub take-parents : (table : Table) (sitting : Sitting) (items : List Readied) → IsSoundTable table → ParentChainsEnd table → HaveRows items
    → ParentChainsEnd (take table sitting items).table
take-parents = take_keeps ParentChainsEnd parents_kept

pub take-apart : (table : Table) (sitting : Sitting) (items : List Readied) → IsSoundTable table → ExceptionsExcludeParents table → HaveRows items
    → ExceptionsExcludeParents (take table sitting items).table
take-apart = take_keeps ExceptionsExcludeParents apart_kept
