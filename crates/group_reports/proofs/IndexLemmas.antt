-- What is kept of links.
use Rattle.std.specs.Prelude.{◌≡◌, ℕ, ◌<◌, not, List, [], ◌∷◌, Option, None, Some, flat_map, fold, length, map}
use Rattle.std.specs.BTreeSet.{insert_key}
use Rattle.std.specs.Cmp.Lexicographic.{slice_cmp}
use Rattle.std.specs.List.{All}
use Rattle.std.specs.Ordering.{nat_cmp}
use Rattle.std.proofs.Common.{refl, sym, ap, subst, ◌∙◌}
use Rattle.std.proofs.lemmas.List.Elements.{All-head, All-tail, All-cons, All-nil}
use Rattle.lei_code.specs.Texts.{Lei}
use Rattle.group_reports.specs.declared.arcs.Arc.{Arc}
use Rattle.group_reports.specs.declared.kinds.LinkKind.{LinkKind}
use Rattle.group_reports.specs.Arcs.{AreFirstEnds, HasPlacesBelow, link_at}
use Rattle.group_reports.specs.Groups.{disagrees, is_same, top}
use Rattle.group_reports.specs.Indexed.{LinksAreIndexed}
use Rattle.group_reports.specs.Links.{Link, direct, reported}
use Rattle.group_reports.specs.Places.{AreBelow, AreSortedLeis, FindsEach, FindsTops, IsBelow, are_same, at, at_some, ends_of, leis_of, places_in_order, step_up}
use Rattle.group_reports.proofs.ArcLemmas.{finds_ends}
use Rattle.group_reports.proofs.FarLemmas.{finds_tops}
use Rattle.group_reports.proofs.ListLemmas.{leis_in_order-sorted}
use Rattle.group_reports.proofs.PlaceLemmas.{below_puts, eq_places, put_leis}

pub in_order_of : (links : List Link) (leis : List Lei) → leis ≡ leis_of links → AreSortedLeis leis
in_order_of links leis are = subst AreSortedLeis (sym are) (leis_in_order-sorted (flat_map ends_of links))

start_places : (leis : List Lei) (arcs : List Arc) → map (at leis) (map (λ arc. arc.start) arcs) ≡ map (λ link. link.start) (map (link_at leis) arcs)
start_places leis [] = refl
start_places leis (arc ∷ arcs) = ap (λ l. at leis arc.start ∷ l) (start_places leis arcs)

starts_below : (count : ℕ) (arcs : List Arc) → All (HasPlacesBelow count) arcs → AreBelow count (map (λ arc. arc.start) arcs)
starts_below count [] within = All-nil (λ place. place < count)
starts_below count (arc ∷ arcs) within =
    All-cons (λ place. place < count) arc.start (map (λ arc. arc.start) arcs) (All-head (HasPlacesBelow count) arc arcs within).0
    (starts_below count arcs (All-tail (HasPlacesBelow count) arc arcs within))

pub indexed : (links : List Link) (count : ℕ) (leis : List Lei) (arcs : List Arc) (begins : List ℕ) (parents ultimates tops : List (Option ℕ))
    → count ≡ length links → leis ≡ leis_of links → All (HasPlacesBelow (length leis)) arcs → map (link_at leis) arcs ≡ links
    → begins ≡ places_in_order (map (λ arc. arc.start) arcs) → AreFirstEnds (length leis) arcs LinkKind.Direct parents
    → AreFirstEnds (length leis) arcs LinkKind.Ultimate ultimates → FindsTops parents count tops
    → LinksAreIndexed links count leis begins parents ultimates tops
indexed links count leis arcs begins parents ultimates tops counted are within links_are begins_are parents_are ultimates_are tops_are =
    let order = in_order_of links leis are in
    let below = starts_below (length leis) arcs within in
    let finds : FindsEach leis parents (direct links) = finds_ends leis order LinkKind.Direct arcs links parents within links_are parents_are in
    record {
      counted = counted;
      leis_are = are;
      starts_are =
          ap (map (at leis)) begins_are
          ∙ (put_leis leis order [] (map (λ arc. arc.start) arcs) (All-nil (λ place. place < length leis)) below
          ∙ ap (fold (insert_key (slice_cmp nat_cmp)) [])
          (start_places leis arcs ∙ ap (map (λ link. link.start)) links_are));
      starts_below =
          subst (AreBelow (length leis)) (sym begins_are)
          (below_puts (length leis) [] (map (λ arc. arc.start) arcs) (All-nil (λ place. place < length leis)) below);
      parents_are = finds;
      ultimates_are = finds_ends leis order LinkKind.Ultimate arcs links ultimates within links_are ultimates_are;
      tops_are = finds_tops links leis parents finds tops (subst (λ n. FindsTops parents n tops) counted tops_are);
    }

-- ---- what disagrees

same_of : (leis : List Lei) → AreSortedLeis leis → (a b : Option ℕ) → IsBelow (length leis) a → IsBelow (length leis) b
    → are_same a b ≡ is_same (at_some leis a) (at_some leis b)
same_of leis order None None first second = refl
same_of leis order None (Some q) first second = refl
same_of leis order (Some p) None first second = refl
same_of leis order (Some p) (Some q) first second = sym (eq_places leis order p q first second)

pub disagrees_at : (links : List Link) (leis : List Lei) (ultimates tops : List (Option ℕ)) (place : ℕ) → leis ≡ leis_of links
    → FindsEach leis ultimates (reported links) → FindsEach leis tops (top links) → place < length leis
    → not (are_same (step_up ultimates place) (step_up tops place)) ≡ disagrees links (at leis place)
disagrees_at links leis ultimates tops place are reports computes within =
    ap not (
    same_of leis (in_order_of links leis are) (step_up ultimates place) (step_up tops place)
    (subst (λ n. IsBelow n (step_up ultimates place)) reports.counted (reports.within place))
    (subst (λ n. IsBelow n (step_up tops place)) computes.counted (computes.within place))
    ∙ (ap (λ o. is_same o (at_some leis (step_up tops place))) (reports.each place within)
    ∙ ap (is_same (reported links (at leis place))) (computes.each place within))
    )
