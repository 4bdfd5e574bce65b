-- After a relationship that passes its checks, each chain of direct parents still ends.
use Rattle.std.specs.Prelude.{◌≡◌, ◌≢◌, ℕ, List, [], ◌∷◌, Bool, true, false, ◌&&◌, cond, Option, Some, None}
use Rattle.std.specs.List.{Contains}
use Rattle.std.specs.Option.{option_to_list}
use Rattle.std.specs.Str.{bytes_eq}
use Rattle.std.proofs.Common.{refl, sym, ap, subst, ◌∙◌, rules}
use Rattle.std.proofs.lemmas.Bool.{and_from, and_parts, both_ways, false_from_ne_true}
use Rattle.lei_shapes.specs.declared.lists.RelationType.{RelationType}
use Rattle.lei_shapes.specs.Lists.{relation_type_of, relation_type_text}
use Rattle.lei_shapes.proofs.ListLemmas.{texts_apart}
use Rattle.lei_shapes.proofs.ValueTexts.{relation_type_of-text}
use Rattle.lei_records.specs.declared.item.Item.{Item}
use Rattle.lei_records.specs.Checks.{first_failing}
use Rattle.lei_records.specs.Relations.{end_in, is_active, is_active_of, kind_in, start_in}
use Rattle.lei_records.specs.Rows.{Row}
use Rattle.lei_records.specs.Tables.{IsSoundTable, Table, put}
use Rattle.authority_rules.proofs.HolderLemmas.{bytes_same}
use Rattle.authority_rules.proofs.PutLemmas.{other_than}
use Rattle.successor_rules.specs.declared.walks.Walked.{Walked}
use Rattle.successor_rules.specs.Chains.{AllEnd, IsTurned}
use Rattle.lei_records.specs.Walks.{is_long, is_met}
use Rattle.successor_rules.specs.Walks.{walk_end}
use Rattle.successor_rules.proofs.ChainLemmas.{keeps_ends}
use Rattle.successor_rules.proofs.WalkLemmas.{ended_walk_keeps_ends}
use Rattle.relation_rules.specs.Checks.{c37, is_direct_parent, is_from, other_end, relation_checks}
use Rattle.lei_records.specs.Parents.{is_direct_type, parent_of, parents_of}
use Rattle.relation_rules.specs.Parents.{ParentChainsEnd}
use Rattle.relation_rules.proofs.ActiveLemmas.{active_of-put, closed, left_of, opened, same_bytes}
use Rattle.lei_records.proofs.PassLemmas.{AllPass, all_pass}
use Rattle.relation_rules.proofs.PutLemmas.{fitting}

-- ---- types

pub types_apart : (a b : RelationType) → relation_type_text a ≡ relation_type_text b → a ≡ b
types_apart = texts_apart relation_type_text relation_type_of relation_type_of-text

direct_is : (kind : RelationType) → is_direct_type kind ≡ true → kind ≡ RelationType.IsDirectlyConsolidatedBy
direct_is RelationType.IsDirectlyConsolidatedBy is = refl
direct_is RelationType.IsUltimatelyConsolidatedBy is = cc
direct_is RelationType.IsInternationalBranchOf is = cc
direct_is RelationType.IsFundManagedBy is = cc
direct_is RelationType.IsSubfundOf is = cc
direct_is RelationType.IsFeederTo is = cc

-- ---- tests

other_false : (a b : Bool) → (a && b) ≡ false → a ≡ true → b ≡ false
other_false true b both is = both
other_false false b both is = cc

no_member : (lei : List ℕ) → Contains [] lei → ⊥
no_member lei at = search rules

-- ---- what is left of the parent of an entity: all, or nothing

left_either : (P : Type 0) (b : Bool) (own : List ℕ) (held : Option (List ℕ)) → (cond b (other_than own held) held ≡ held → P)
    → (cond b (other_than own held) held ≡ None → P) → P
left_either P false own held same none = same refl
left_either P true own None same none = same refl
left_either P true own (Some end) same none =
    elim (bytes_eq end own) as (λ b. (cond b None (Some end) ≡ Some end → P) → (cond b None (Some end) ≡ None → P) → P) [
      | true ↦ λ s n. n refl
      | false ↦ λ s n. s refl
    ] same none

abbrev direct : RelationType
direct = RelationType.IsDirectlyConsolidatedBy

module _ (table : Table) (row : Row) (sound : IsSoundTable table) (passes : (c37 (other_end table row) row).fails ≡ false) where
  put_by : (lei : List ℕ) → parent_of (put table (Item.Relation row)) lei
      ≡ cond (is_active_of lei direct row) (Some (end_in row)) (left_of lei direct row (parent_of table lei))
  put_by lei = active_of-put table row lei direct sound.relations_keyed sound.actives (fitting table row passes)

  -- the parents of entities other than the start are unchanged
  elsewhere : (lei : List ℕ) → lei ≢ start_in row → parent_of (put table (Item.Relation row)) lei ≡ parent_of table lei
  elsewhere lei other =
      let not_active : is_active_of lei direct row ≡ false = false_from_ne_true _ (λ t. other (sym (opened lei direct row t).starts)) in
      let not_of : is_from lei direct row ≡ false = false_from_ne_true _ (λ t. other (sym (bytes_same (start_in row) lei (and_parts _ _ t).0))) in
      put_by lei ∙ (λ i. cond (not_active i) (Some (end_in row)) (cond (not_of i) (other_than (end_in row) (parent_of table lei)) (parent_of table lei)))

  turned : (targets : List (List ℕ)) → parents_of (put table (Item.Relation row)) (start_in row) ≡ targets
      → IsTurned (parents_of table) (parents_of (put table (Item.Relation row))) (start_in row) targets
  turned targets here = record { here = here; elsewhere = λ lei other. ap option_to_list (elsewhere lei other) }

  -- a direct parent makes its start name its end
  with_parent : AllEnd (parents_of table) → is_direct_parent row ≡ true
      → walk_end (parent_of table) (start_in row) (end_in row) ≡ Walked.Ends → AllEnd (parents_of (put table (Item.Relation row)))
  with_parent all is ends =
      let parts = and_parts (is_active row) _ is in
      let kind : kind_in row ≡ direct = direct_is (kind_in row) parts.1 in
      let active : is_active_of (start_in row) direct row ≡ true =
      closed (start_in row) direct row (record { active = parts.0; starts = refl; types = ap relation_type_text kind }) in
      let here : parent_of (put table (Item.Relation row)) (start_in row) ≡ Some (end_in row) =
      put_by (start_in row) ∙ ap (λ b. cond b (Some (end_in row)) (left_of (start_in row) direct row (parent_of table (start_in row)))) active in
      ended_walk_keeps_ends (parent_of table) (parents_of (put table (Item.Relation row))) (start_in row) (end_in row) all
      (turned (end_in row ∷ []) (ap option_to_list here)) ends

  -- if no parent was changed, all are unchanged
  unturned : AllEnd (parents_of table) → parent_of (put table (Item.Relation row)) (start_in row) ≡ parent_of table (start_in row)
      → AllEnd (parents_of (put table (Item.Relation row)))
  unturned all here =
      let same : (lei : List ℕ) → parent_of (put table (Item.Relation row)) lei ≡ parent_of table lei =
      λ lei. elim (bytes_eq lei (start_in row)) as (λ b. bytes_eq lei (start_in row) ≡ b → parent_of (put table (Item.Relation row)) lei ≡ parent_of table lei) [
        | true ↦ λ t. let is : start_in row ≡ lei = sym (bytes_same lei (start_in row) t) in
            subst (λ l. parent_of (put table (Item.Relation row)) l ≡ parent_of table l) is here
        | false ↦ λ f. elsewhere lei (λ is. both_ways _ f (same_bytes lei (start_in row) is))
      ] refl in
      subst AllEnd (λ i lei. option_to_list (sym (same lei) i)) all

  -- another relationship leaves its start's parent unchanged, or leaves the start without one
  without_parent : AllEnd (parents_of table) → is_direct_parent row ≡ false → AllEnd (parents_of (put table (Item.Relation row)))
  without_parent all not_direct =
      let start = start_in row in
      let not_active : is_active_of start direct row ≡ false =
      false_from_ne_true _ (λ t.
      let a = opened start direct row t in
      let kind : is_direct_type (kind_in row) ≡ true = ap is_direct_type (types_apart (kind_in row) direct a.types) in
      both_ways _ not_direct (and_from _ _ a.active kind)) in
      let here : parent_of (put table (Item.Relation row)) start ≡ left_of start direct row (parent_of table start) =
      put_by start ∙ ap (λ b. cond b (Some (end_in row)) (left_of start direct row (parent_of table start))) not_active in
      left_either (AllEnd (parents_of (put table (Item.Relation row)))) (is_from start direct row) (end_in row) (parent_of table start)
      (λ same. unturned all (here ∙ same))
      (λ none. keeps_ends (parents_of table) (parents_of (put table (Item.Relation row))) start [] 0 all
      (turned [] (ap option_to_list (here ∙ none))) (λ target at. absurd (no_member target at)))

pub keeps_parents : (table : Table) (issuer : List ℕ) (row : Row) → IsSoundTable table → ParentChainsEnd table
    → first_failing (relation_checks table issuer row) ≡ None → ParentChainsEnd (put table (Item.Relation row))
keeps_parents table issuer row sound has passes =
    let all : AllPass (relation_checks table issuer row) = all_pass (relation_checks table issuer row) passes in
    let from_37 = all.others.others.others.others.others.others.others in
    elim (is_direct_parent row) as (λ b. is_direct_parent row ≡ b → ParentChainsEnd (put table (Item.Relation row))) [
      | true ↦ λ t.
          let met : is_met (parent_of table) (start_in row) (end_in row) ≡ false = other_false _ _ from_37.others.first t in
          let long : is_long (parent_of table) (end_in row) ≡ false = other_false _ _ from_37.others.others.first t in
          let ends : walk_end (parent_of table) (start_in row) (end_in row) ≡ Walked.Ends =
          λ i. cond (met i) Walked.Meets (cond (long i) Walked.Long Walked.Ends) in
          record { ends = with_parent table row sound from_37.first has.ends t ends }
      | false ↦ λ f. record { ends = without_parent table row sound from_37.first has.ends f }
    ] refl
