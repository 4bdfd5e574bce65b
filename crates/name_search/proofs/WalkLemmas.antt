-- A walk over the keys of a word finds what a filter over all names finds.
use Rattle.std.proofs.Common.{◌≡◌, T, Bool, true, false, ◌&&◌, ◌||◌, cond, Option, None, Some, List, [], ◌∷◌, ◌++◌, filter, refl, sym, ap, subst, ◌∙◌}
use Rattle.std.specs.FinMap.{IsAntisymmetric, nat_cmp-IsAntisymmetric, slice_cmp-IsAntisymmetric}
use Rattle.std.specs.FinMap.Entries.{below_all, find, is_sorted, same_entries}
use Rattle.std.specs.List.{AllByRecursion}
use Rattle.std.specs.List.Sorted.{IsStrictlySortedBy}
use Rattle.std.specs.Ordering.{eq_by_cmp, is_eq, is_lt}
use Rattle.std.specs.declared.cmp.Ordering.{Ordering}
use Rattle.std.proofs.lemmas.Cmp.{nat_list_cmp_total}
use Rattle.lei_code.specs.Texts.{Text}
use Rattle.name_search.specs.NameTables.{Name}
use Rattle.name_search.specs.Keys.{is_one_of_keys, text_cmp}
use Rattle.name_search.specs.Walks.{Covers, hits, walk_keys}

pub text_same : IsAntisymmetric text_cmp
text_same = slice_cmp-IsAntisymmetric nat_cmp-IsAntisymmetric

pub first_true : (a b : Bool) → T (a && b) → T a
first_true true b h = tt
first_true false b h = absurd h

pub second_true : (a b : Bool) → T (a && b) → T b
second_true true b h = h
second_true false b h = absurd h

pub both_true : (a b : Bool) → T a → T b → T (a && b)
both_true true b p q = q
both_true false b p q = absurd p

pub less : (o : Ordering) → T (is_lt o) → o ≡ Ordering.Less
less Ordering.Less h = refl
less Ordering.Equal h = absurd h
less Ordering.Greater h = absurd h

equal : (o : Ordering) → is_eq o ≡ true → o ≡ Ordering.Equal
equal Ordering.Less e = absurd (cc)
equal Ordering.Equal e = refl
equal Ordering.Greater e = absurd (cc)

pub tied : (q k : Text) → eq_by_cmp text_cmp q k ≡ true → q ≡ k
tied q k e = text_same q k (equal (text_cmp q k) e)

-- the name that is found under a key, if it passes a test
abbrev kept : (Name → Bool) → Text → Option Text → Option Text
kept p q None = None
kept p q (Some name) = cond (p (q, name)) (Some name) None

nothing : (b : Bool) → ◌≡◌ {A = Option Text} (cond b None None) None
nothing true = refl
nothing false = refl

-- ---- names in the order of their keys

not_above : (q k : Text) (names : List Name) → q ≡ k → T (below_all text_cmp k names) → find text_cmp q names ≡ None
not_above q k [] same below = refl
not_above q k (e ∷ es) same below =
    ap (λ o. cond (is_eq o) (Some e.1) (find text_cmp q es)) (ap (λ x. text_cmp x e.0) same ∙ less (text_cmp k e.0) (first_true (is_lt (text_cmp k e.0)) (below_all text_cmp k es) below))
    ∙ not_above q k es same (second_true (is_lt (text_cmp k e.0)) (below_all text_cmp k es) below)

below_filter : (p : Name → Bool) (k : Text) (names : List Name) → T (below_all text_cmp k names) → T (below_all text_cmp k (filter p names))
below_filter p k [] below = tt
below_filter p k (e ∷ es) below =
    by (p e) (below_filter p k es (second_true (is_lt (text_cmp k e.0)) (below_all text_cmp k es) below))
  where
    by : (b : Bool) → T (below_all text_cmp k (filter p es)) → T (below_all text_cmp k (cond b (e ∷ filter p es) (filter p es)))
    by true rest = both_true (is_lt (text_cmp k e.0)) (below_all text_cmp k (filter p es)) (first_true (is_lt (text_cmp k e.0)) (below_all text_cmp k es) below) rest
    by false rest = rest

sorted_filter : (p : Name → Bool) (names : List Name) → T (is_sorted text_cmp names) → T (is_sorted text_cmp (filter p names))
sorted_filter p [] sorted = tt
sorted_filter p (e ∷ es) sorted = by (p e) (sorted_filter p es (second_true (below_all text_cmp e.0 es) (is_sorted text_cmp es) sorted))
  where
    by : (b : Bool) → T (is_sorted text_cmp (filter p es)) → T (is_sorted text_cmp (cond b (e ∷ filter p es) (filter p es)))
    by true rest = both_true (below_all text_cmp e.0 (filter p es)) (is_sorted text_cmp (filter p es))
        (below_filter p e.0 es (first_true (below_all text_cmp e.0 es) (is_sorted text_cmp es) sorted)) rest
    by false rest = rest

find_filter : (p : Name → Bool) (q : Text) (names : List Name) → T (is_sorted text_cmp names)
    → find text_cmp q (filter p names) ≡ kept p q (find text_cmp q names)
find_filter p q [] sorted = refl
find_filter p q (e ∷ es) sorted =
    by (find_filter p q es (second_true (below_all text_cmp e.0 es) (is_sorted text_cmp es) sorted)) (eq_by_cmp text_cmp q e.0) (p e) refl refl
  where
    by : find text_cmp q (filter p es) ≡ kept p q (find text_cmp q es) → (b t : Bool) → eq_by_cmp text_cmp q e.0 ≡ b → p e ≡ t
        → find text_cmp q (cond t (e ∷ filter p es) (filter p es)) ≡ kept p q (cond b (Some e.1) (find text_cmp q es))
    by others true true same passes =
        ap (λ b. cond b (Some e.1) (find text_cmp q (filter p es))) same
        ∙ sym (ap (λ b. cond b (Some e.1) None) (ap (λ k. p (k, e.1)) (tied q e.0 same) ∙ passes))
    by others true false same fails =
        others ∙ ap (kept p q) (not_above q e.0 es (tied q e.0 same) (first_true (below_all text_cmp e.0 es) (is_sorted text_cmp es) sorted))
        ∙ sym (ap (λ b. cond b (Some e.1) None) (ap (λ k. p (k, e.1)) (tied q e.0 same) ∙ fails))
    by others false true differs passes = ap (λ b. cond b (Some e.1) (find text_cmp q (filter p es))) differs ∙ others
    by others false false differs fails = others

-- ---- keys in rising order

abbrev Rises : List Text → Type 0
Rises keys = IsStrictlySortedBy text_cmp keys

not_key : (q k : Text) (keys : List Text) → q ≡ k → AllByRecursion (λ j. text_cmp k j ≡ Ordering.Less) keys → is_one_of_keys q keys ≡ false
not_key q k [] same above = refl
not_key q k (j ∷ keys) same above =
    ap (λ o. is_eq o || is_one_of_keys q keys) (ap (λ x. text_cmp x j) same ∙ above.0) ∙ not_key q k keys same above.1

module _ (p : Name → Bool) (names : List Name) where
  abbrev walked : List Text → List Name
  walked keys = walk_keys p names keys

  below_hits : (k key : Text) (o : Option Text) (more : List Name) → text_cmp k key ≡ Ordering.Less → T (below_all text_cmp k more)
      → T (below_all text_cmp k (hits p key o ++ more))
  below_hits k key None more lt below = below
  below_hits k key (Some name) more lt below = by (p (key, name))
    where
      by : (b : Bool) → T (below_all text_cmp k (cond b ((key, name) ∷ []) [] ++ more))
      by true = both_true (is_lt (text_cmp k key)) (below_all text_cmp k more) (subst (λ o. T (is_lt o)) (sym lt) tt) below
      by false = below

  below_walk : (k : Text) (keys : List Text) → AllByRecursion (λ j. text_cmp k j ≡ Ordering.Less) keys → T (below_all text_cmp k (walked keys))
  below_walk k [] above = tt
  below_walk k (key ∷ keys) above = below_hits k key (find text_cmp key names) (walked keys) above.0 (below_walk k keys above.1)

  sorted_hits : (key : Text) (o : Option Text) (more : List Name) → T (below_all text_cmp key more) → T (is_sorted text_cmp more)
      → T (is_sorted text_cmp (hits p key o ++ more))
  sorted_hits key None more below sorted = sorted
  sorted_hits key (Some name) more below sorted = by (p (key, name))
    where
      by : (b : Bool) → T (is_sorted text_cmp (cond b ((key, name) ∷ []) [] ++ more))
      by true = both_true (below_all text_cmp key more) (is_sorted text_cmp more) below sorted
      by false = sorted

  sorted_walk : (keys : List Text) → Rises keys → T (is_sorted text_cmp (walked keys))
  unfolding IsStrictlySortedBy
  sorted_walk [] rises = tt
  sorted_walk (key ∷ keys) rises = sorted_hits key (find text_cmp key names) (walked keys) (below_walk key keys rises.0) (sorted_walk keys rises.1)

  -- what is found under a key in the result of a walk over it and others
  find_same : (q key : Text) (o : Option Text) (more : List Name) → eq_by_cmp text_cmp q key ≡ true → find text_cmp q more ≡ None
      → find text_cmp q (hits p key o ++ more) ≡ kept p q o
  find_same q key None more same none = none
  find_same q key (Some name) more same none =
      ap (λ t. find text_cmp q (cond t ((key, name) ∷ []) [] ++ more)) (ap (λ k. p (k, name)) (sym (tied q key same))) ∙ by (p (q, name))
    where
      by : (t : Bool) → find text_cmp q (cond t ((key, name) ∷ []) [] ++ more) ≡ cond t (Some name) None
      by true = ap (λ b. cond b (Some name) (find text_cmp q more)) same
      by false = none

  find_other : (q key : Text) (o : Option Text) (more : List Name) → eq_by_cmp text_cmp q key ≡ false
      → find text_cmp q (hits p key o ++ more) ≡ find text_cmp q more
  find_other q key None more differs = refl
  find_other q key (Some name) more differs = by (p (key, name))
    where
      by : (t : Bool) → find text_cmp q (cond t ((key, name) ∷ []) [] ++ more) ≡ find text_cmp q more
      by true = ap (λ b. cond b (Some name) (find text_cmp q more)) differs
      by false = refl

  find_walk : (q : Text) (keys : List Text) → Rises keys
      → find text_cmp q (walked keys) ≡ cond (is_one_of_keys q keys) (kept p q (find text_cmp q names)) None
  unfolding IsStrictlySortedBy
  find_walk q [] rises = refl
  find_walk q (key ∷ keys) rises = by (find_walk q keys rises.1) (eq_by_cmp text_cmp q key) refl
    where
      by : find text_cmp q (walked keys) ≡ cond (is_one_of_keys q keys) (kept p q (find text_cmp q names)) None → (b : Bool) → eq_by_cmp text_cmp q key ≡ b
          → find text_cmp q (hits p key (find text_cmp key names) ++ walked keys) ≡ cond (b || is_one_of_keys q keys) (kept p q (find text_cmp q names)) None
      by others true same =
          find_same q key (find text_cmp key names) (walked keys) same
          (others ∙ ap (λ b. cond b (kept p q (find text_cmp q names)) None) (not_key q key keys (tied q key same) rises.0))
          ∙ ap (λ k. kept p q (find text_cmp k names)) (sym (tied q key same))
      by others false differs = find_other q key (find text_cmp key names) (walked keys) differs ∙ others

  pub walk_is : (keys : List Text) → is_sorted text_cmp names ≡ true → IsStrictlySortedBy text_cmp keys → Covers p names keys
      → walk_keys p names keys ≡ filter p names
  walk_is keys ascends rises covers =
      let sorted : T (is_sorted text_cmp names) = subst T (sym ascends) tt in
      same_entries text_cmp nat_list_cmp_total text_same (walked keys) (filter p names) (sorted_walk keys rises) (sorted_filter p names sorted)
      (λ q. find_walk q keys rises ∙ by q (find text_cmp q names) refl ∙ sym (find_filter p q names sorted))
    where
      passes : (q name : Text) (t : Bool) → p (q, name) ≡ t → find text_cmp q names ≡ Some name
          → cond (is_one_of_keys q keys) (cond t (Some name) None) None ≡ cond t (Some name) None
      passes q name true is found = ap (λ b. cond b (Some name) None) (covers q name found is)
      passes q name false isnt found = nothing (is_one_of_keys q keys)

      by : (q : Text) (o : Option Text) → find text_cmp q names ≡ o → cond (is_one_of_keys q keys) (kept p q o) None ≡ kept p q o
      by q None found = nothing (is_one_of_keys q keys)
      by q (Some name) found = passes q name (p (q, name)) refl found

-- if there are no keys to cover them, no name passes
pub nothing_is : (p : Name → Bool) (names : List Name) → is_sorted text_cmp names ≡ true → Covers p names [] → filter p names ≡ []
unfolding IsStrictlySortedBy
nothing_is p names sorted covers = sym (walk_is p names [] sorted tt covers)
