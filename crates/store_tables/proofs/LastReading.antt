-- The answer of the query on the last number.
use Rattle.std.proofs.Common.{◌≡◌, inl, inr, ◌-◌, Bool, true, List, [], ◌∷◌, ◌++◌, length, map, filter, take, reverse, slice_get, Less, refl, sym, ap, subst, ◌∙◌, IsPermutation}
use Rattle.std.proofs.lemmas.List.{reverse-append}
use Rattle.std.specs.List.{AllByRecursion}
use Rattle.std.proofs.lemmas.List.Sorted.{IsPermutation-map, IsPermutation-reverse, IsPermutation-sym, IsPermutation-trans}
use Rattle.sqlite_value.specs.Order.{Row, value_cmp}
use Rattle.sqlite_value.proofs.OrderLemmas.{then-Equal}
use Rattle.sqlite_trees.specs.Tree.{Trees, IsAscending, IsTable, rowid}
use Rattle.sqlite_trees.proofs.ListLemmas.{all-permutation, ascending-append, ascending-map, ascending_weaker, filter_all, all_of}
use Rattle.sqlite_sql.specs.Query.{IsAnswer, Output, output_cmp}
use Rattle.sqlite_sql.specs.Program.{overlay}
use Rattle.store_statements.specs.Commands.{last_query}
use Rattle.store_tables.specs.Calls.{number_row}
use Rattle.store_tables.specs.Stored.{entry_of}
use Rattle.store_tables.proofs.NumberLemmas.{front_of, id_is, last_of, map_snoc, snoc}
use Rattle.store_tables.proofs.QueryLemmas.{answer_is, passes, shown}
use Rattle.store_tables.proofs.RowLemmas.{AreEntries, IsEntry}

abbrev last_passes : Row → Bool
last_passes = passes 0 [] last_query.project last_query.order last_query.limit []

abbrev last_shown : Row → Output
last_shown = shown 0 [] last_query.project last_query.order last_query.limit []

abbrev Above : Row → Row → Type 0
Above a b = value_cmp (rowid b) (rowid a) ≡ Less

-- the rows from the last to the first
falls : (rows : List Row) → IsTable rows → IsAscending Above (reverse rows)
falls [] up = tt
falls (r ∷ rows) up =
    let later : AllByRecursion (λ s. Above s r) (reverse rows) = all-permutation (λ s. Above s r) rows
    (reverse rows) (IsPermutation-reverse rows) up.0 in
    subst (IsAscending Above) (sym (reverse-append (r ∷ []) rows))
    (ascending-append Above (reverse rows) (r ∷ []) (falls rows up.1) (tt, tt) (each (reverse rows) later))
  where
    each : (xs : List Row) → AllByRecursion (λ s. Above s r) xs
        → AllByRecursion (λ x. AllByRecursion (Above x) (r ∷ [])) xs
    each [] all = tt
    each (x ∷ xs) all = ((all.0, tt), each xs all.1)

abbrev last_in : List Row → List Row
last_in xs = number_row (slice_get (map entry_of xs) (length (map entry_of xs) - 1))

first_snoc : (front : List Row) (last : Row) → IsEntry last
    → take 1 (map (λ (o : Output). o.1) (map last_shown (reverse (front ++ last ∷ []))))
    ≡ last_in (front ++ last ∷ [])
first_snoc front last is =
    ap (λ xs. take 1 (map (λ (o : Output). o.1) (map last_shown xs))) (reverse-append front (last ∷ []))
    ∙ (ap (λ v. (v ∷ []) ∷ []) (id_is last is)
    ∙ ap number_row (sym (ap (λ es. slice_get es (length es - 1)) (map_snoc entry_of front last)
    ∙ last_of (map entry_of front) (entry_of last))))

first_of : (xs : List Row) → AllByRecursion IsEntry xs
    → take 1 (map (λ (o : Output). o.1) (map last_shown (reverse xs))) ≡ last_in xs
first_of xs each = elim (snoc xs) as
    (λ _. take 1 (map (λ (o : Output). o.1) (map last_shown (reverse xs))) ≡ last_in xs) [
      | inl none ↦ subst (λ ys. take 1 (map (λ (o : Output). o.1) (map last_shown (reverse ys))) ≡ last_in ys)
          (sym none) refl
      | inr it ↦ subst (λ ys. take 1 (map (λ (o : Output). o.1) (map last_shown (reverse ys))) ≡ last_in ys)
          (sym it.is)
          (first_snoc it.front it.last
          (front_of IsEntry it.front it.last (subst (AllByRecursion IsEntry) it.is each)).1)
    ]

pub last_answer : (db : Trees) (rows : List Row) → AreEntries (db 0)
    → IsAnswer last_query (overlay db []) [] rows
    → rows ≡ number_row (slice_get (map entry_of (db 0)) (length (map entry_of (db 0)) - 1))
last_answer db rows are a =
    let all = map last_shown (reverse (db 0)) in
    let up = ascending-map (λ x y. output_cmp last_query x y ≡ Less) last_shown _
    (ascending_weaker Above (λ x y. output_cmp last_query (last_shown x) (last_shown y) ≡ Less)
    (λ x y below. then-Equal _ ∙ below) (reverse (db 0)) (falls (db 0) are.rise)) in
    let whole : filter last_passes (db 0)
    ≡ db 0 = filter_all last_passes (db 0) (all_of (λ x. last_passes x ≡ true) (λ x. refl) (db 0)) in
    let same = subst (λ xs. IsPermutation all (map last_shown xs)) (sym whole)
    (IsPermutation-map last_shown _ _ (IsPermutation-sym _ _ (IsPermutation-reverse (db 0)))) in
    answer_is 0 [] last_query.project last_query.order last_query.limit [] db rows a all up same
    IsPermutation-trans
    ∙ first_of (db 0) are.each
