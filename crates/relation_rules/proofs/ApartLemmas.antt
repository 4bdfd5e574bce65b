-- After items that pass their checks, no entity has both an active parent and the exception of its category.
use Rattle.std.specs.Prelude.{◌≡◌, ℕ, List, [], Bool, true, false, cond, Option, Some, None, is_some}
use Rattle.std.specs.FinMap.{get, get-insert, get-remove}
use Rattle.std.specs.Option.{option_map_or}
use Rattle.std.specs.Ordering.{eq_by_cmp}
use Rattle.std.proofs.Common.{refl, sym, ap, ◌∙◌, get_or}
use Rattle.std.proofs.lemmas.Bool.{and_from, both_ways}
use Rattle.lei_shapes.specs.declared.lists.ExceptionCategory.{ExceptionCategory}
use Rattle.lei_shapes.specs.Lists.{exception_category_of, exception_category_text}
use Rattle.lei_shapes.proofs.ListLemmas.{texts_apart}
use Rattle.lei_shapes.proofs.ValueTexts.{exception_category_of-text}
use Rattle.lei_records.specs.declared.item.Item.{Item}
use Rattle.lei_records.specs.Exceptions.{exception_category_in, subject_in}
use Rattle.lei_records.specs.Checks.{first_failing}
use Rattle.lei_records.specs.Relations.{end_in, is_active, is_active_of, kind_in, start_in}
use Rattle.lei_records.specs.Rows.{Row}
use Rattle.lei_records.specs.Tables.{IsSoundTable, Table, active_of, exception_key, exception_key_in, has_exception, key_cmp, put}
use Rattle.authority_rules.proofs.HolderLemmas.{keys_total, same_key}
use Rattle.relation_rules.specs.Checks.{exception_checks, has_own_exception, relation_checks}
use Rattle.lei_records.specs.Parents.{parent_category, parent_type}
use Rattle.relation_rules.specs.Parents.{ExceptionsExcludeParents}
use Rattle.relation_rules.proofs.ActiveLemmas.{active_of-put, either_way, left_of, opened}
use Rattle.relation_rules.proofs.ChainLemmas.{types_apart}
use Rattle.lei_records.proofs.OptionLemmas.{none_there}
use Rattle.lei_records.proofs.PassLemmas.{AllPass, all_pass}
use Rattle.relation_rules.proofs.PutLemmas.{fitting}

category_of_type : (category : ExceptionCategory) → parent_category (parent_type category) ≡ Some category
category_of_type ExceptionCategory.DirectAccountingConsolidationParent = refl
category_of_type ExceptionCategory.UltimateAccountingConsolidationParent = refl

pub relations_keep_apart : (table : Table) (issuer : List ℕ) (row : Row) → IsSoundTable table → ExceptionsExcludeParents table
    → first_failing (relation_checks table issuer row) ≡ None → ExceptionsExcludeParents (put table (Item.Relation row))
relations_keep_apart table issuer row sound apart passes lei category stands =
    let all : AllPass (relation_checks table issuer row) = all_pass (relation_checks table issuer row) passes in
    let from_37 = all.others.others.others.others.others.others.others in
    let kind = parent_type category in
    let none : active_of table lei kind ≡ None = apart lei category stands in
    active_of-put table row lei kind sound.relations_keyed sound.actives (fitting table row from_37.first)
    ∙ elim (is_active_of lei kind row) as (λ b. is_active_of lei kind row ≡ b → cond b (Some (end_in row)) (left_of lei kind row (active_of table lei kind)) ≡ None) [
      | true ↦ λ t.
          let a = opened lei kind row t in
          let kind_is : kind_in row ≡ kind = types_apart (kind_in row) kind a.types in
          let asked : has_own_exception table row ≡ has_exception table (start_in row) category =
          ap (λ c. option_map_or (has_exception table (start_in row)) c false) (ap parent_category kind_is ∙ category_of_type category) in
          let own : has_own_exception table row ≡ true = asked ∙ (ap (λ l. has_exception table l category) a.starts ∙ stands) in
          absurd (both_ways _ from_37.others.others.others.first (and_from (is_active row) _ a.active own))
      | false ↦ λ f. ap (left_of lei kind row) none ∙ sym (either_way _ None)
    ] refl

-- ---- exceptions

categories_apart : (a b : ExceptionCategory) → exception_category_text a ≡ exception_category_text b → a ≡ b
categories_apart = texts_apart exception_category_text exception_category_of exception_category_of-text

still_there : (b : Bool) (held : Option Row) → is_some (cond b None held) ≡ true → is_some held ≡ true
still_there true held is = cc
still_there false held is = is

pub exceptions_keep_apart : (table : Table) (issuer : List ℕ) (row : Row) (withdraws : Bool) → ExceptionsExcludeParents table
    → first_failing (exception_checks table issuer (row, withdraws)) ≡ None → ExceptionsExcludeParents (put table (Item.Exception (row, withdraws)))
exceptions_keep_apart table issuer row true apart passes lei category stands =
    apart lei category (still_there (eq_by_cmp key_cmp (exception_key lei category) (exception_key_in row)) (get table.exceptions (exception_key lei category))
    (ap is_some (sym (get-remove keys_total table.exceptions (exception_key_in row) (exception_key lei category))) ∙ stands))
exceptions_keep_apart table issuer row false apart passes lei category stands =
    let all : AllPass (exception_checks table issuer (row, false)) = all_pass (exception_checks table issuer (row, false)) passes in
    let key = exception_key lei category in
    let there : is_some (cond (eq_by_cmp key_cmp key (exception_key_in row)) (Some row) (get table.exceptions key)) ≡ true =
    ap is_some (sym (get-insert keys_total table.exceptions (exception_key_in row) row key)) ∙ stands in
    elim (eq_by_cmp key_cmp key (exception_key_in row)) as (λ b. eq_by_cmp key_cmp key (exception_key_in row) ≡ b
    → is_some (cond b (Some row) (get table.exceptions key)) ≡ true → active_of table lei (parent_type category) ≡ None) [
      | true ↦ λ t _.
          let own : key ≡ exception_key_in row = same_key key (exception_key_in row) t in
          let lei_is : lei ≡ subject_in row = ap (λ k. get_or k 0 []) own in
          let category_is : category ≡ exception_category_in row = categories_apart category (exception_category_in row) (ap (λ k. get_or k 1 []) own) in
          (λ i. active_of table (lei_is i) (parent_type (category_is i))) ∙ none_there _ all.others.others.first
      | false ↦ λ _ was. apart lei category was
    ] refl there
