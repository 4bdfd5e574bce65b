-- Levels of a walk down are the members by depth.
use Rattle.std.specs.Prelude.{◌≡◌, ℕ, zero, suc, ◌+◌, ◌<◌, ◌≤◌, Bool, true, false, not, cond, ◌&&◌, List, [], ◌∷◌, ◌++◌, length, map, Option, None, Some, filter, flat_map, option_and_then, unwrap_or}
use Rattle.std.specs.List.{range_with_len}
use Rattle.std.specs.Str.{bytes_eq}
use Rattle.std.proofs.Common.{refl, sym, ap, ◌∙◌, ◌⊎◌, inl, inr, ltb, arith}
use Rattle.std.proofs.lemmas.Bool.{and_parts, cases_Bool, false≢true, ltb-false, ltb-true, or_cases, or_left}
use Rattle.lei_code.specs.Texts.{Lei}
use Rattle.group_reports.specs.Links.{Link}
use Rattle.group_reports.specs.Groups.{depth, entity_above, is_depth, is_member_at, members_at, starts}
use Rattle.group_reports.proofs.Levels.{is_in, is_next}
use Rattle.group_reports.specs.Links.{direct}
use Rattle.group_reports.specs.Listings.{at_depth, member_of}
use Rattle.group_reports.proofs.ChainLemmas.{IsLeast, depth-is, direct-start, is-depth, is-this, leads, least-few, least-next, lei_or, starts-has, starts_with, this-is, up-first}
use Rattle.group_reports.proofs.ListLemmas.{FoundAt, filter-has, finds, found, has, has-filter, own_lei, same_lei}

pub both_ways : (a b : Bool) → (a ≡ true → b ≡ true) → (b ≡ true → a ≡ true) → a ≡ b
both_ways true b there back = sym (there refl)
both_ways false true there back = back refl
both_ways false false there back = refl

pub not_true : (b : Bool) → not b ≡ true → b ≡ false
not_true true is = absurd (false≢true is)
not_true false is = refl

pub both : (a b : Bool) → a ≡ false → b ≡ true → (not a && b) ≡ true
both true b p q = absurd (false≢true (sym p))
both false b p q = q

pub filter-same : (p q : Lei → Bool) → ((x : Lei) → p x ≡ q x) → (xs : List Lei) → filter p xs ≡ filter q xs
filter-same p q same [] = refl
filter-same p q same (x ∷ xs) =
    ap (λ b. cond b (x ∷ filter p xs) (filter p xs)) (same x) ∙ ap (λ l. cond (q x) (x ∷ l) l) (filter-same p q same xs)

pub filter-none : (p : Lei → Bool) → ((x : Lei) → p x ≡ false) → (xs : List Lei) → filter p xs ≡ []
filter-none p none [] = refl
filter-none p none (x ∷ xs) = ap (λ b. cond b (x ∷ filter p xs) (filter p xs)) (none x) ∙ filter-none p none xs

module _ (links : List Link) (root : Lei) where
  -- the root, and after it the members by depth
  abbrev pub level_at : ℕ → List Lei
  level_at zero = root ∷ []
  level_at (suc d) = members_at links root (suc d)

  member-least : (d : ℕ) (lei : Lei) → is_member_at links root d lei ≡ true → IsLeast links root lei d
  member-least d lei is =
      let parts = and_parts (not (bytes_eq root lei)) (is_depth d (depth links root lei)) is in
      let at : FoundAt (leads links root lei) 1 (length links) d =
      found (leads links root lei) 1 (length links) d (depth-is links root (depth links root lei) d parts.1) in
      record { leads = this-is root (entity_above links lei d) at.passes; first = λ j before e. by at (not_true (bytes_eq root lei) parts.0) j before e }
    where
      by : FoundAt (leads links root lei) 1 (length links) d → bytes_eq root lei ≡ false → (j : ℕ) → j < d → entity_above links lei j ≡ Some root → ⊥
      by at apart zero before e =
          false≢true (sym apart ∙ (ap (bytes_eq root) (ap (lei_or root) e) ∙ own_lei root))
      by at apart (suc j) before e = false≢true (sym (at.first (suc j) (omega arith) before) ∙ is-this root (entity_above links lei (suc j)) e)

  least-apart : (d : ℕ) (lei : Lei) → IsLeast links root lei (suc d) → bytes_eq root lei ≡ false
  least-apart d lei least = by (cases_Bool (bytes_eq root lei))
    where
      by : (bytes_eq root lei ≡ true) ⊎ (bytes_eq root lei ≡ false) → bytes_eq root lei ≡ false
      by (inl same) = absurd (least.first 0 (omega arith) (ap Some (sym (same_lei root lei same))))
      by (inr isnt) = isnt

  least-member_at : (d : ℕ) (lei : Lei) → IsLeast links root lei (suc d) → is_member_at links root (suc d) lei ≡ true
  least-member_at d lei least =
      let few : suc d ≤ length links = least-few links root (suc d) lei least in
      let at = finds (leads links root lei) 1 (length links) (suc d) (omega arith) (omega (arith, few)) (is-this root (entity_above links lei (suc d)) least.leads) in
      let is = found (leads links root lei) 1 (length links) at.number at.is in
      both (bytes_eq root lei) (is_depth (suc d) (depth links root lei)) (least-apart d lei least)
      (ap (is_depth (suc d)) (at.is ∙ ap Some (exact at.number is)) ∙ is-depth links root (suc d))
    where
      exact : (m : ℕ) → FoundAt (leads links root lei) 1 (length links) m → m ≡ suc d
      exact m is = by (ltb m (suc d)) refl (ltb (suc d) m) refl
        where
          by : (a : Bool) → ltb m (suc d) ≡ a → (b : Bool) → ltb (suc d) m ≡ b → m ≡ suc d
          by true less b e = absurd (least.first m (ltb-true m (suc d) less) (this-is root (entity_above links lei m) is.passes))
          by false e true more =
              absurd (false≢true (sym (is.first (suc d) (omega arith) (ltb-true (suc d) m more)) ∙ is-this root (entity_above links lei (suc d)) least.leads))
          by false e false f = omega (arith, ltb-false m (suc d) e, ltb-false (suc d) m f)

  level-least : (d : ℕ) (lei : Lei) → has (level_at d) lei ≡ true → IsLeast links root lei d
  level-least zero lei at = by (or_cases (bytes_eq lei root) false at)
    where
      by : (bytes_eq lei root ≡ true) ⊎ (false ≡ true) → IsLeast links root lei 0
      by (inl same) = record { leads = ap Some (same_lei lei root same); first = λ j before e. absurd (omega (arith, before)) }
      by (inr never) = absurd (false≢true never)
  level-least (suc d) lei at = member-least (suc d) lei (filter-has (is_member_at links root (suc d)) (starts links) lei at).1

  least-level : (d : ℕ) (lei : Lei) → IsLeast links root lei d → has (level_at d) lei ≡ true
  least-level zero lei least =
      or_left (bytes_eq lei root) false (ap (λ x. bytes_eq x root) (ap (lei_or root) least.leads) ∙ own_lei root)
  least-level (suc d) lei least =
      let first = starts_with links lei root d least.leads in
      has-filter (is_member_at links root (suc d)) (starts links) lei
      (starts-has links lei ∙ direct-start links lei first.next first.step) (least-member_at d lei least)

  least-more : (d : ℕ) (lei next : Lei) → bytes_eq root lei ≡ false → direct links lei ≡ Some next → IsLeast links root next d
      → IsLeast links root lei (suc d)
  least-more d lei next apart step least = record {
    leads = up-first links lei d ∙ (ap (option_and_then (λ x. entity_above links x d)) step ∙ least.leads);
    first = λ j before e. by j before e;
  }
    where
      by : (j : ℕ) → j < suc d → entity_above links lei j ≡ Some root → ⊥
      by zero before e = false≢true (sym apart ∙ (ap (bytes_eq root) (ap (lei_or root) e) ∙ own_lei root))
      by (suc j) before e =
          least.first j (omega (arith, before))
          (sym (ap (option_and_then (λ x. entity_above links x j)) step) ∙ (sym (up-first links lei j) ∙ e))

  -- an entity whose direct parent is at one depth is at the next
  next-member : (d : ℕ) (test : Lei → Bool) → ((lei : Lei) → test lei ≡ has (level_at d) lei) → (lei : Lei)
      → is_next links root test lei ≡ is_member_at links root (suc d) lei
  next-member d test is_level lei = both_ways (is_next links root test lei) (is_member_at links root (suc d) lei) there back
    where
      up_to : bytes_eq root lei ≡ false → (o : Option Lei) → direct links lei ≡ o → is_in test o ≡ true → is_member_at links root (suc d) lei ≡ true
      up_to apart None step is = absurd (false≢true is)
      up_to apart (Some next) step is =
          least-member_at d lei (least-more d lei next apart step (level-least d next (sym (is_level next) ∙ is)))

      there : is_next links root test lei ≡ true → is_member_at links root (suc d) lei ≡ true
      there is =
          let parts = and_parts (not (bytes_eq root lei)) (is_in test (direct links lei)) is in
          up_to (not_true (bytes_eq root lei) parts.0) (direct links lei) refl parts.1

      back : is_member_at links root (suc d) lei ≡ true → is_next links root test lei ≡ true
      back is =
          let least = member-least (suc d) lei is in
          let first = starts_with links lei root d least.leads in
          both (bytes_eq root lei) (is_in test (direct links lei)) (least-apart d lei least)
          (ap (is_in test) first.step
          ∙ (is_level first.next ∙ least-level d first.next (least-next links root lei first.next d least first.step first.rest)))

  pub next_members : (d : ℕ) (test : Lei → Bool) → ((lei : Lei) → test lei ≡ has (level_at d) lei)
      → filter (is_next links root test) (starts links) ≡ members_at links root (suc d)
  next_members d test is_level =
      filter-same (is_next links root test) (is_member_at links root (suc d)) (next-member d test is_level) (starts links)

  pub depths : (d : ℕ) (leis : List Lei) → map (at_depth d) (filter (is_member_at links root d) leis)
      ≡ map (member_of links root) (filter (is_member_at links root d) leis)
  depths d [] = refl
  depths d (lei ∷ leis) = by (depths d leis) (is_member_at links root d lei) refl
    where
      by : map (at_depth d) (filter (is_member_at links root d) leis) ≡ map (member_of links root) (filter (is_member_at links root d) leis)
          → (b : Bool) → is_member_at links root d lei ≡ b
          → map (at_depth d) (cond b (lei ∷ filter (is_member_at links root d) leis) (filter (is_member_at links root d) leis))
          ≡ map (member_of links root) (cond b (lei ∷ filter (is_member_at links root d) leis) (filter (is_member_at links root d) leis))
      by others true is =
          let parts = and_parts (not (bytes_eq root lei)) (is_depth d (depth links root lei)) is in
          ap (λ l. at_depth d lei ∷ l) others
          ∙ ap (λ o. at_depth (unwrap_or o 0) lei ∷ map (member_of links root) (filter (is_member_at links root d) leis))
          (sym (depth-is links root (depth links root lei) d parts.1))
      by others false is = others

  -- a depth without members is followed by none
  none_next : (d : ℕ) → members_at links root (suc d) ≡ [] → members_at links root (suc (suc d)) ≡ []
  none_next d none =
      sym (next_members (suc d) (has (level_at (suc d))) (λ lei. refl))
      ∙ (ap (λ l. filter (is_next links root (has l)) (starts links)) none
      ∙ filter-none (is_next links root (has [])) (λ lei. by (bytes_eq root lei) (direct links lei)) (starts links))
    where
      in_none : (o : Option Lei) → is_in (has []) o ≡ false
      in_none None = refl
      in_none (Some lei) = refl

      by : (b : Bool) (o : Option Lei) → (not b && is_in (has []) o) ≡ false
      by true o = refl
      by false o = in_none o

  pub none_after : (d n : ℕ) → members_at links root (suc d) ≡ [] → flat_map (members_at links root) (range_with_len (suc d + 1) n) ≡ []
  none_after d zero none = refl
  none_after d (suc n) none =
      let more : suc d + 1 ≡ suc (suc d) = omega arith in
      ap (λ l. l ++ flat_map (members_at links root) (range_with_len (suc d + 1 + 1) n)) (ap (members_at links root) more ∙ none_next d none)
      ∙ (ap (λ k. flat_map (members_at links root) (range_with_len (k + 1) n)) more ∙ none_after (suc d) n (none_next d none))
