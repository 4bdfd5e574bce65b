-- The answer of a query over one table: what it shows of the rows that pass, in an order that ORDER BY allows.
use Rattle.std.proofs.Common.{◌≡◌, ℕ, Bool, true, false, cond, List, [], ◌∷◌, ◌++◌, map, filter, flat_map, None, Less, refl, ap, subst, ◌∙◌, IsPermutation}
use Rattle.std.specs.List.{list_all}
use Rattle.sqlite_value.specs.declared.keys.Key.{Key}
use Rattle.sqlite_value.specs.Order.{Row}
use Rattle.sqlite_trees.specs.Tree.{Trees, IsAscending}
use Rattle.sqlite_trees.proofs.ListLemmas.{map-map}
use Rattle.sqlite_keyed.proofs.SortLemmas.{sorted_unique}
use Rattle.sqlite_sql.specs.Term.{Env, Term, holds}
use Rattle.sqlite_sql.specs.Query.{IsAnswer, Output, Query, end, inner, output, output_cmp, page}
use Rattle.sqlite_sql.specs.Program.{overlay}
use Rattle.sqlite_sql.proofs.QueryLemmas.{output_cmp_total}
use Rattle.store_statements.specs.Commands.{no_offset}

module _ (t : ℕ) (filters project : List Term) (order : List (Term × Key)) (limit : Term) (params : Row) where
  abbrev pub asked : Query
  asked = record {
    from = inner t end;
    filter = filters;
    group = None;
    project = project;
    distinct = false;
    collations = [];
    order = order;
    limit = limit;
    offset = no_offset;
  }

  abbrev pub passes : Row → Bool
  passes r = list_all (holds (params ∷ r ∷ [])) filters

  abbrev pub shown : Row → Output
  shown r = output asked (params ∷ r ∷ [])

  abbrev env : Row → Env
  env r = params ∷ r ∷ []

  staged_is : (rows : List Row)
      → flat_map (λ r. cond (passes r) (env r ∷ []) []) rows ≡ map env (filter passes rows)
  staged_is [] = refl
  staged_is (r ∷ rows) = go (passes r) (staged_is rows)
    where
      go : (b : Bool) → flat_map (λ x. cond (passes x) (env x ∷ []) []) rows ≡ map env (filter passes rows)
          → cond b (env r ∷ []) [] ++ flat_map (λ x. cond (passes x) (env x ∷ []) []) rows
          ≡ map env (cond b (r ∷ filter passes rows) (filter passes rows))
      go true more = ap (λ xs. env r ∷ xs) more
      go false more = more

  module _ (db : Trees) (rows : List Row) (a : IsAnswer asked (overlay db []) params rows) where
    pub kept_is : a.kept ≡ map shown (filter passes (overlay db [] t))
    kept_is = a.distinct ∙ (ap (map (output asked)) (a.grouped ∙ staged_is (overlay db [] t))
        ∙ map-map (output asked) env _)

    -- The answer is that of a list of outputs in strict order with the same outputs.
    pub answer_is : (all : List Output) → IsAscending (λ x y. output_cmp asked x y ≡ Less) all
        → IsPermutation all (map shown (filter passes (overlay db [] t)))
        → (chain : (xs ys zs : List Output) → IsPermutation xs ys → IsPermutation ys zs → IsPermutation xs zs)
        → rows ≡ page asked params (map (λ o. o.1) all)
    answer_is all up same chain =
        let whole : IsPermutation all a.ordered = chain all _ a.ordered same
        (subst (λ k. IsPermutation k a.ordered) kept_is a.same) in
        a.shown ∙ ap (λ xs. page asked params (map (λ (o : Output). o.1) xs))
        (sorted_unique (output_cmp asked) (output_cmp_total asked) all a.ordered up whole a.sorted)
