-- A level of a walk down, by places.
use Rattle.std.specs.Prelude.{◌≡◌, ℕ, ◌<◌, true, false, not, ◌==◌, ◌&&◌, List, [], ◌∷◌, ◌++◌, Option, None, Some, filter, flat_map, length, map}
use Rattle.std.specs.Cmp.Lexicographic.{slice_cmp}
use Rattle.std.specs.List.Sorted.{IsStrictlySortedBy}
use Rattle.std.specs.Ordering.{nat_cmp}
use Rattle.std.specs.Str.{bytes_eq}
use Rattle.std.proofs.Common.{refl, sym, ap, subst, ◌∙◌}
use Rattle.std.proofs.lemmas.Bool.{and_parts, eq-eqb, eqb-true, false_from_ne_true, false≢true}
use Rattle.std.proofs.lemmas.List.{map-append}
use Rattle.std.proofs.lemmas.List.Elements.{All-append}
use Rattle.std.proofs.lemmas.List.Kept.{IsStrictlySortedBy-filter}
use Rattle.lei_code.specs.Texts.{Lei}
use Rattle.group_reports.specs.declared.listing.Placed.{Placed}
use Rattle.group_reports.specs.Groups.{starts}
use Rattle.group_reports.specs.Links.{Link, direct}
use Rattle.group_reports.specs.Listings.{at_depth, member_at, placed_at}
use Rattle.group_reports.specs.Places.{AreBelow, AreSortedLeis, FindsEach, IsBelow, at, at_some, ends_of, has_place, has_some, leis_of, step_up}
use Rattle.group_reports.proofs.ArcLemmas.{starts_known}
use Rattle.group_reports.proofs.ChainLemmas.{direct-start, starts-has}
use Rattle.group_reports.proofs.IndexLemmas.{in_order_of}
use Rattle.group_reports.proofs.LevelLemmas.{both, both_ways, not_true}
use Rattle.group_reports.proofs.Levels.{is_in, is_next}
use Rattle.group_reports.proofs.ListLemmas.{filter-has, has, has-filter, leis_in_order-has, leis_in_order-sorted, own_lei, same_in_order, same_lei}
use Rattle.group_reports.proofs.PlaceLemmas.{below_has, map_order, placed, PlacedAt, placed_at as place_among, same_place, Stands, stands}

module _ (links : List Link) (leis : List Lei) (are : leis ≡ leis_of links) (parents : List (Option ℕ)) (finds : FindsEach leis parents (direct links)) where
  order : AreSortedLeis leis
  order = in_order_of links leis are

  start_stands : (lei : Lei) → has (starts links) lei ≡ true → Stands leis lei
  start_stands lei is =
      stands leis lei
      (ap (λ l. has l lei) are
      ∙ (leis_in_order-has (flat_map ends_of links) lei ∙ starts_known links lei (sym (starts-has links lei) ∙ is)))

  module _ (root : ℕ) (inside : root < length leis) (level next : List ℕ) (level_below : AreBelow (length leis) level)
      (next_below : AreBelow (length leis) next) (sorted : IsStrictlySortedBy nat_cmp next)
      (are_next : (place : ℕ) → has_place next place ≡ (not (place == root) && has_some level (step_up parents place))) where
    there : (lei : Lei) → has (map (at leis) next) lei ≡ true
        → has (filter (is_next links (at leis root) (has (map (at leis) level))) (starts links)) lei ≡ true
    there lei among =
        subst (λ y. has (filter (is_next links (at leis root) (has (map (at leis) level))) (starts links)) y ≡ true) one.is (by (step_up parents one.place) refl parts.1)
      where
        one : PlacedAt leis order next lei
        one = place_among leis order next lei among

        within : one.place < length leis
        within = below_has (length leis) next one.place next_below one.among

        parts : (not (one.place == root) ≡ true) × (has_some level (step_up parents one.place) ≡ true)
        parts = and_parts (not (one.place == root)) (has_some level (step_up parents one.place)) (sym (are_next one.place) ∙ one.among)

        apart : bytes_eq (at leis root) (at leis one.place) ≡ false
        apart = false_from_ne_true (bytes_eq (at leis root) (at leis one.place)) (λ is.
            false≢true (sym (not_true (one.place == root) parts.0)
            ∙ eq-eqb one.place root (sym (same_place leis order root one.place inside within (same_lei (at leis root) (at leis one.place) is)))))

        by : (o : Option ℕ) → step_up parents one.place ≡ o → has_some level o ≡ true
            → has (filter (is_next links (at leis root) (has (map (at leis) level))) (starts links)) (at leis one.place) ≡ true
        by None up is = absurd (false≢true is)
        by (Some parent) up is =
            let direct_is : direct links (at leis one.place) ≡ Some (at leis parent) = sym (finds.each one.place within) ∙ ap (at_some leis) up in
            has-filter (is_next links (at leis root) (has (map (at leis) level))) (starts links) (at leis one.place)
            (starts-has links (at leis one.place) ∙ direct-start links (at leis one.place) (at leis parent) direct_is)
            (both (bytes_eq (at leis root) (at leis one.place)) (is_in (has (map (at leis) level)) (direct links (at leis one.place))) apart
            (ap (is_in (has (map (at leis) level))) direct_is ∙ placed leis order level parent is))

    back : (lei : Lei) → has (filter (is_next links (at leis root) (has (map (at leis) level))) (starts links)) lei ≡ true
        → has (map (at leis) next) lei ≡ true
    back lei among =
        subst (λ y. has (map (at leis) next) y ≡ true) stood.is
        (placed leis order next stood.place (are_next stood.place ∙ both (stood.place == root) (has_some level (step_up parents stood.place)) other (by (step_up parents stood.place) refl)))
      where
        picked : (has (starts links) lei ≡ true) × (is_next links (at leis root) (has (map (at leis) level)) lei ≡ true)
        picked = filter-has (is_next links (at leis root) (has (map (at leis) level))) (starts links) lei among

        stood : Stands leis lei
        stood = start_stands lei picked.0

        parts : (not (bytes_eq (at leis root) lei) ≡ true) × (is_in (has (map (at leis) level)) (direct links lei) ≡ true)
        parts = and_parts (not (bytes_eq (at leis root) lei)) (is_in (has (map (at leis) level)) (direct links lei)) picked.1

        other : (stood.place == root) ≡ false
        other = false_from_ne_true (stood.place == root) (λ is.
            false≢true (sym (not_true (bytes_eq (at leis root) lei) parts.0)
            ∙ (ap (bytes_eq (at leis root)) (sym stood.is ∙ ap (at leis) (eqb-true stood.place root is)) ∙ own_lei (at leis root))))

        direct_is : direct links lei ≡ at_some leis (step_up parents stood.place)
        direct_is = ap (direct links) (sym stood.is) ∙ sym (finds.each stood.place stood.within)

        by : (o : Option ℕ) → step_up parents stood.place ≡ o → has_some level (step_up parents stood.place) ≡ true
        by None up = absurd (false≢true (ap (is_in (has (map (at leis) level))) (sym (direct_is ∙ ap (at_some leis) up)) ∙ parts.1))
        by (Some parent) up =
            let is_parent : has (map (at leis) level) (at leis parent) ≡ true =
            ap (is_in (has (map (at leis) level))) (sym (direct_is ∙ ap (at_some leis) up)) ∙ parts.1 in
            let one = place_among leis order level (at leis parent) is_parent in
            let parent_within : parent < length leis =
            subst (IsBelow (length leis)) up
            (subst (λ n. IsBelow n (step_up parents stood.place)) finds.counted (finds.within stood.place)) in
            let same : one.place ≡ parent =
            same_place leis order one.place parent (below_has (length leis) level one.place level_below one.among) parent_within one.is in
            ap (has_some level) up ∙ (ap (has_place level) (sym same) ∙ one.among)

    pub next_leis : map (at leis) next ≡ filter (is_next links (at leis root) (has (map (at leis) level))) (starts links)
    next_leis =
        same_in_order (map (at leis) next) (filter (is_next links (at leis root) (has (map (at leis) level))) (starts links))
        (map_order leis order next sorted next_below)
        (IsStrictlySortedBy-filter (slice_cmp nat_cmp) (is_next links (at leis root) (has (map (at leis) level))) (starts links)
        (leis_in_order-sorted (map (λ link. link.start) links)))
        (λ lei. both_ways (has (map (at leis) next) lei)
        (has (filter (is_next links (at leis root) (has (map (at leis) level))) (starts links)) lei) (there lei) (back lei))

-- ---- the members so far

pub level_added : (leis : List Lei) (d : ℕ) (made after : List Placed) (level : List ℕ) → after ≡ made ++ map (placed_at d) level
    → map (member_at leis) after ≡ map (member_at leis) made ++ map (at_depth d) (map (at leis) level)
level_added leis d made after level is =
    ap (map (member_at leis)) is
    ∙ (map-append (member_at leis) made (map (placed_at d) level) ∙ ap (λ l. map (member_at leis) made ++ l) (each level))
  where
    each : (places : List ℕ) → map (member_at leis) (map (placed_at d) places) ≡ map (at_depth d) (map (at leis) places)
    each [] = refl
    each (place ∷ places) = ap (λ l. at_depth d (at leis place) ∷ l) (each places)

pub below_added : (count d : ℕ) (made after : List Placed) (level : List ℕ) → after ≡ made ++ map (placed_at d) level
    → AreBelow count (map (λ member. member.place) made) → AreBelow count level → AreBelow count (map (λ member. member.place) after)
below_added count d made after level is made_below level_below =
    subst (AreBelow count)
    (sym (ap (map (λ member. member.place)) is
    ∙ (map-append (λ (member : Placed). member.place) made (map (placed_at d) level) ∙ ap (λ l. map (λ member. member.place) made ++ l) (each level))))
    (All-append (λ place. place < count) (map (λ member. member.place) made) level made_below level_below)
  where
    each : (places : List ℕ) → map (λ (member : Placed). member.place) (map (placed_at d) places) ≡ places
    each [] = refl
    each (place ∷ places) = ap (λ l. place ∷ l) (each places)
