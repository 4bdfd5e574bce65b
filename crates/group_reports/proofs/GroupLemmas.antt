-- The root and the members of a group, and an entity that is in no link.
use Rattle.std.specs.Prelude.{◌≡◌, ℕ, zero, suc, ◌+◌, ◌<◌, Bool, true, false, not, cond, ◌&&◌, ◌||◌, List, [], ◌∷◌, ◌++◌, Option, None, Some, codes, decimal, flat_map, length, map}
use Rattle.std.specs.List.{range_with_len}
use Rattle.std.specs.Str.{bytes_eq}
use Rattle.std.proofs.Common.{refl, sym, ap, subst, ◌∙◌, ◌⊎◌, inl, inr}
use Rattle.std.proofs.lemmas.Bool.{cases_Bool, false≢true}
use Rattle.std.proofs.lemmas.List.Elements.{All-cons, All-nil}
use Rattle.lei_code.specs.Texts.{Lei}
use Rattle.group_reports.specs.declared.listing.Placed.{Placed}
use Rattle.group_reports.specs.Groups.{disagrees, is_same, leis_in_order, members, members_at, starts, top}
use Rattle.group_reports.specs.Links.{Link, direct, is_direct_link, is_ultimate}
use Rattle.group_reports.specs.Listings.{all_members, member_at, member_of}
use Rattle.group_reports.specs.Places.{AreBelow, at, ends_of, leis_of, places_in_order}
use Rattle.group_reports.specs.Reports.{disagreement_line, disagreement_lines, report_line}
use Rattle.group_reports.proofs.ArcLemmas.{ends_known, none_known}
use Rattle.group_reports.proofs.IndexLemmas.{in_order_of}
use Rattle.group_reports.proofs.LevelLemmas.{filter-none, next_members, none_after}
use Rattle.group_reports.proofs.Levels.{is_in, is_next}
use Rattle.group_reports.proofs.ListLemmas.{has, leis_in_order-has, same_lei}
use Rattle.group_reports.proofs.PlaceLemmas.{below_puts, put_leis}
use Rattle.group_reports.proofs.WalkLemmas.{top_alone}

-- ---- the root and the members

pub group_below : (count root : ℕ) (made : List Placed) (places : List ℕ) → root < count → AreBelow count (map (λ member. member.place) made)
    → places ≡ places_in_order (root ∷ map (λ member. member.place) made) → AreBelow count places
group_below count root made places inside below are =
    subst (AreBelow count) (sym are)
    (below_puts count [] (root ∷ map (λ member. member.place) made) (All-nil (λ place. place < count))
    (All-cons (λ place. place < count) root (map (λ member. member.place) made) inside below))

member_leis : (leis : List Lei) (made : List Placed) → map (at leis) (map (λ member. member.place) made) ≡ map (λ member. member.lei) (map (member_at leis) made)
member_leis leis [] = refl
member_leis leis (member ∷ made) = ap (λ l. at leis member.place ∷ l) (member_leis leis made)

pub group_leis : (links : List Link) (leis : List Lei) (root : ℕ) (made : List Placed) (places : List ℕ) → leis ≡ leis_of links → root < length leis
    → AreBelow (length leis) (map (λ member. member.place) made) → places ≡ places_in_order (root ∷ map (λ member. member.place) made)
    → map (at leis) places ≡ leis_in_order (at leis root ∷ map (λ member. member.lei) (map (member_at leis) made))
group_leis links leis root made places leis_are inside below are =
    ap (map (at leis)) are
    ∙ (put_leis leis (in_order_of links leis leis_are) [] (root ∷ map (λ member. member.place) made) (All-nil (λ place. place < length leis))
    (All-cons (λ place. place < length leis) root (map (λ member. member.place) made) inside below)
    ∙ ap (λ l. leis_in_order (at leis root ∷ l)) (member_leis leis made))

-- ---- an entity that is in no link

module _ (links : List Link) (lei : Lei) (unknown : has (leis_of links) lei ≡ false) where
  not_parent : (other : Lei) (o : Option Lei) → direct links other ≡ o → is_in (has (lei ∷ [])) o ≡ false
  not_parent other None is = refl
  not_parent other (Some parent) is = by (cases_Bool (bytes_eq parent lei))
    where
      known : has (flat_map ends_of links) parent ≡ true
      known = (ends_known is_direct_link links other parent is).1

      by : (bytes_eq parent lei ≡ true) ⊎ (bytes_eq parent lei ≡ false) → is_in (has (lei ∷ [])) (Some parent) ≡ false
      by (inl same) =
          absurd (false≢true (sym unknown
          ∙ (leis_in_order-has (flat_map ends_of links) lei ∙ (ap (has (flat_map ends_of links)) (sym (same_lei parent lei same)) ∙ known))))
      by (inr apart) = ap (λ b. b || false) apart

  first_none : members_at links lei 1 ≡ []
  first_none =
      sym (next_members links lei 0 (has (lei ∷ [])) (λ other. refl))
      ∙ filter-none (is_next links lei (has (lei ∷ [])))
      (λ other. drop_last (not (bytes_eq lei other)) (is_in (has (lei ∷ [])) (direct links other)) (not_parent other (direct links other) refl)) (starts links)
    where
      drop_last : (a b : Bool) → b ≡ false → (a && b) ≡ false
      drop_last true b isnt = isnt
      drop_last false b isnt = refl

  no_members : members links lei ≡ []
  no_members = by (length links)
    where
      by : (n : ℕ) → flat_map (members_at links lei) (range_with_len 1 n) ≡ []
      by zero = refl
      by (suc n) = ap (λ l. l ++ flat_map (members_at links lei) (range_with_len (1 + 1) n)) first_none ∙ none_after links lei 0 n first_none

  agrees : disagrees links lei ≡ false
  agrees =
      ap (λ o. not (is_same o (top links lei))) (none_known is_ultimate links lei unknown)
      ∙ ap (λ o. not (is_same None o)) (top_alone links lei (none_known is_direct_link links lei unknown))

  pub lone_members : [] ≡ all_members links lei
  lone_members = ap (map (member_of links lei)) (sym no_members)

  pub lone_lines : disagreement_lines links [] ≡ disagreement_lines links (lei ∷ [])
  lone_lines =
      sym (ap (λ b. flat_map (disagreement_line links) (cond b (lei ∷ []) [])
      ++ report_line (codes "disagreements") (decimal (length (cond b (lei ∷ []) [])) ∷ [])) agrees)
