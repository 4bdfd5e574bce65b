-- Chains of direct parents, and the members of a group.
use Rattle.std.specs.Prelude.{◌≡◌, ◌≢◌, ◌↔◌, ℕ, zero, suc, ◌<◌, ◌≤◌, Bool, true, false, not, cond, ◌&&◌, List, [], ◌∷◌, length, map, Option, None, Some, find, option_and_then, option_map}
use Rattle.std.specs.List.{Contains, IsDistinct}
use Rattle.std.specs.Str.{bytes_eq}
use Rattle.std.proofs.Common.{refl, sym, ap, subst, ◌∙◌, ◌⊎◌, inl, inr, arith}
use Rattle.std.proofs.lemmas.Bool.{and_parts, cases_Bool, false≢true, or_cases, or_left, or_right}
use Rattle.std.proofs.lemmas.List.{length-map}
use Rattle.std.proofs.lemmas.Map.Made.{is_member-Decides, length-le_from_is_member}
use Rattle.std.proofs.lemmas.Slice.Eq.{bytes_eq-Decides}
use Rattle.lei_code.specs.Texts.{Lei}
use Rattle.group_reports.specs.Links.{Link}
use Rattle.group_reports.specs.Groups.{LeadsUpTo, depth, entity_above, is_depth, is_member_at, is_this, members, members_at, starts}
use Rattle.group_reports.specs.Links.{direct, is_direct_link}
use Rattle.group_reports.proofs.ListLemmas.{all-distinct, all_apart, filter-distinct, filter-has, finds, found, has, has-filter, in_all, in_one, lei_laws, leis_in_order-distinct, leis_in_order-has, own_lei, same_lei}

abbrev pub lei_or : Lei → Option Lei → Lei
lei_or lei None = lei
lei_or lei (Some other) = other

-- ---- one step

pub this-is : (root : Lei) (o : Option Lei) → is_this root o ≡ true → o ≡ Some root
this-is root None is = absurd (false≢true is)
this-is root (Some lei) is = ap Some (sym (same_lei root lei is))

pub is-this : (root : Lei) (o : Option Lei) → o ≡ Some root → is_this root o ≡ true
is-this root o e = ap (is_this root) e ∙ own_lei root

pub starts-has : (links : List Link) (lei : Lei) → has (starts links) lei ≡ has (map (λ link. link.start) links) lei
starts-has links lei = leis_in_order-has (map (λ link. link.start) links) lei

-- an entity with a direct parent is a start
pub direct-start : (links : List Link) (lei next : Lei) → direct links lei ≡ Some next → has (map (λ link. link.start) links) lei ≡ true
direct-start [] lei next e = absurd cc
direct-start (link ∷ links) lei next e = by (λ is. direct-start links lei next is) (is_direct_link link.kind && bytes_eq lei link.start) refl e
  where
    by : (direct links lei ≡ Some next → has (map (λ l. l.start) links) lei ≡ true) → (b : Bool) → (is_direct_link link.kind && bytes_eq lei link.start) ≡ b
        → option_map (λ (l : Link). l.end) (cond b (Some link) (find (λ l. is_direct_link l.kind && bytes_eq lei l.start) links)) ≡ Some next
        → has (map (λ l. l.start) (link ∷ links)) lei ≡ true
    by others true is e =
        or_left (bytes_eq lei link.start) (has (map (λ l. l.start) links) lei) (and_parts (is_direct_link link.kind) (bytes_eq lei link.start) is).1
    by others false is e = or_right (bytes_eq lei link.start) (has (map (λ l. l.start) links) lei) (others e)

-- ---- a walk up, from its first step on

module _ (links : List Link) where
  pub up-first : (lei : Lei) (k : ℕ) → entity_above links lei (suc k) ≡ option_and_then (λ next. entity_above links next k) (direct links lei)
  up-first lei zero = same (direct links lei)
    where
      same : (o : Option Lei) → o ≡ option_and_then (λ next. Some next) o
      same None = refl
      same (Some x) = refl
  up-first lei (suc k) = ap (option_and_then (direct links)) (up-first lei k) ∙ over (direct links lei)
    where
      over : (o : Option Lei) → option_and_then (direct links) (option_and_then (λ next. entity_above links next k) o)
          ≡ option_and_then (λ next. entity_above links next (suc k)) o
      over None = refl
      over (Some x) = refl

  -- the first step of a walk that leads somewhere
  pub record Starts (lei root : Lei) (k : ℕ) : Type 0 where
    pub next : Lei
    pub step : direct links lei ≡ Some next
    pub rest : entity_above links next k ≡ Some root

  pub starts_with : (lei root : Lei) (k : ℕ) → entity_above links lei (suc k) ≡ Some root → Starts lei root k
  starts_with lei root k e = by (direct links lei) refl (sym (up-first lei k) ∙ e)
    where
      by : (o : Option Lei) → direct links lei ≡ o → option_and_then (λ next. entity_above links next k) o ≡ Some root → Starts lei root k
      by None is e = absurd cc
      by (Some next) is e = record { next = next; step = is; rest = e }

  -- this many entities of a walk, starting with the first
  abbrev path : ℕ → Lei → List Lei
  path zero lei = []
  path (suc k) lei = lei ∷ path k (lei_or lei (direct links lei))

  path-next : (k : ℕ) (lei next : Lei) → direct links lei ≡ Some next → path (suc k) lei ≡ lei ∷ path k next
  path-next k lei next e = ap (λ o. lei ∷ path k (lei_or lei o)) e

  path-length : (k : ℕ) (lei : Lei) → length (path k lei) ≡ k
  path-length zero lei = refl
  path-length (suc k) lei = ap suc (path-length k (lei_or lei (direct links lei)))

  module _ (root : Lei) where
    -- from an entity of a path the walk leads on to its end
    pub record OnPath (k : ℕ) (y : Lei) : Type 0 where
      pub left : ℕ
      pub some : 1 ≤ left
      pub few : left ≤ k
      pub leads : entity_above links y left ≡ Some root

    on_path : (k : ℕ) (lei y : Lei) → entity_above links lei k ≡ Some root → has (path k lei) y ≡ true → OnPath k y
    on_path zero lei y e at = absurd (false≢true at)
    on_path (suc k) lei y e at =
        by (λ later. on_path k (starts_with lei root k e).next y (starts_with lei root k e).rest later)
        (or_cases (bytes_eq y lei) (has (path k (starts_with lei root k e).next) y)
        (sym (ap (λ l. has l y) (path-next k lei (starts_with lei root k e).next (starts_with lei root k e).step)) ∙ at))
      where
        by : (has (path k (starts_with lei root k e).next) y ≡ true → OnPath k y)
            → (bytes_eq y lei ≡ true) ⊎ (has (path k (starts_with lei root k e).next) y ≡ true) → OnPath (suc k) y
        by others (inl same) = record {
          left = suc k;
          some = omega arith;
          few = omega arith;
          leads = subst (λ x. entity_above links x (suc k) ≡ Some root) (sym (same_lei y lei same)) e;
        }
        by others (inr later) =
            let few : (others later).left ≤ k = (others later).few in
            record { left = (others later).left; some = (others later).some; few = omega (arith, few); leads = (others later).leads }

    -- each entity of a path is a start
    path-starts : (k : ℕ) (lei y : Lei) → entity_above links lei k ≡ Some root → has (path k lei) y ≡ true
        → has (map (λ link. link.start) links) y ≡ true
    path-starts k lei y e at = by (on_path k lei y e at)
      where
        from_first : (left : ℕ) → 1 ≤ left → entity_above links y left ≡ Some root → has (map (λ link. link.start) links) y ≡ true
        from_first zero some leads = absurd (omega (arith, some))
        from_first (suc left) some leads =
            let first = starts_with y root left leads in direct-start links y first.next first.step

        by : OnPath k y → has (map (λ link. link.start) links) y ≡ true
        by on = from_first on.left on.some on.leads

    -- the walk leads to the root in this many steps, and not in fewer
    pub record IsLeast (lei : Lei) (k : ℕ) : Type 0 where
      pub leads : entity_above links lei k ≡ Some root
      pub first : (j : ℕ) → j < k → entity_above links lei j ≡ Some root → ⊥

    pub least-next : (lei next : Lei) (k : ℕ) → IsLeast lei (suc k) → direct links lei ≡ Some next → entity_above links next k ≡ Some root → IsLeast next k
    least-next lei next k least step rest = record {
      leads = rest;
      first = λ j before e.
          least.first (suc j) (omega (arith, before))
          (up-first lei j ∙ (ap (option_and_then (λ x. entity_above links x j)) step ∙ e));
    }

    path-distinct : (k : ℕ) (lei : Lei) → IsLeast lei k → IsDistinct bytes_eq (path k lei)
    unfolding IsDistinct
    path-distinct zero lei least = tt
    path-distinct (suc k) lei least =
        let first = starts_with lei root k least.leads in
        subst (λ l. IsDistinct bytes_eq l) (sym (path-next k lei first.next first.step)) (
          all_apart lei (path k first.next) (apart first (cases_Bool (has (path k first.next) lei))),
          path-distinct k first.next (least-next lei first.next k least first.step first.rest),
        )
      where
        apart : (first : Starts lei root k) → (has (path k first.next) lei ≡ true) ⊎ (has (path k first.next) lei ≡ false)
            → has (path k first.next) lei ≡ false
        apart first (inr isnt) = isnt
        apart first (inl at) =
            let on = on_path k first.next lei first.rest at in
            let few : on.left ≤ k = on.few in
            absurd (least.first on.left (omega (arith, few)) on.leads)

    -- so a walk that needs this many steps has at most as many as there are links
    pub least-few : (k : ℕ) (lei : Lei) → IsLeast lei k → k ≤ length links
    least-few k lei least =
        subst (λ n. n ≤ length links) (path-length k lei)
        (subst (λ n. length (path k lei) ≤ n) (length-map links (λ link. link.start))
        (length-le_from_is_member lei_laws (path k lei) (map (λ link. link.start) links) (path-distinct k lei least)
        (λ y at. path-starts k lei y least.leads at)))

    pub record Least (lei : Lei) : Type 0 where
      pub steps : ℕ
      pub is : IsLeast lei steps

    abbrev pub leads : Lei → ℕ → Bool
    leads lei k = is_this root (entity_above links lei k)

    pub some_least : (lei : Lei) (k : ℕ) → entity_above links lei k ≡ Some root → Least lei
    some_least lei k e =
        let at = finds (leads lei) 0 (suc k) k (omega arith) (omega arith) (is-this root (entity_above links lei k) e) in
        let least = found (leads lei) 0 (suc k) at.number at.is in
        record {
          steps = at.number;
          is = record {
            leads = this-is root (entity_above links lei at.number) least.passes;
            first = λ j before is. absurd (false≢true (sym (least.first j (omega arith) before) ∙ is-this root (entity_above links lei j) is));
          };
        }

    -- ---- members

    pub depth-is : (o : Option ℕ) (d : ℕ) → is_depth d o ≡ true → o ≡ Some d
    depth-is None d is = absurd (false≢true is)
    depth-is (Some k) d is = ap Some (Rattle.std.proofs.lemmas.Bool.eqb-true k d is)

    pub is-depth : (d : ℕ) → is_depth d (Some d) ≡ true
    is-depth d = grind arith

    member-is : (d : ℕ) (lei : Lei) → has (members_at links root d) lei ≡ true → (bytes_eq root lei ≡ false) × (depth links root lei ≡ Some d)
    member-is d lei at =
        let parts = and_parts (not (bytes_eq root lei)) (is_depth d (depth links root lei)) (filter-has (is_member_at links root d) (starts links) lei at).1 in
        (by (bytes_eq root lei) parts.0, depth-is (depth links root lei) d parts.1)
      where
        by : (b : Bool) → not b ≡ true → b ≡ false
        by true is = absurd (false≢true is)
        by false is = refl

    member-leads : (lei : Lei) → has (members links root) lei ≡ true → LeadsUpTo links lei root
    member-leads lei at =
        let one = in_one (members_at links root) 1 (length links) lei at in
        let is = found (leads lei) 1 (length links) one.number (member-is one.number lei one.at).1 in
        (one.number, this-is root (entity_above links lei one.number) is.passes)

    least-member : (lei : Lei) → lei ≢ root → (k : ℕ) → IsLeast lei k → has (members links root) lei ≡ true
    least-member lei other zero least = absurd (other (ap (lei_or root) least.leads))
    least-member lei other (suc k) least =
        let few : suc k ≤ length links = least-few (suc k) lei least in
        let at = finds (leads lei) 1 (length links) (suc k) (omega arith) (omega (arith, few)) (is-this root (entity_above links lei (suc k)) least.leads) in
        let is = found (leads lei) 1 (length links) at.number at.is in
        let first = starts_with lei root k least.leads in
        in_all (members_at links root) 1 (length links) at.number lei is.low is.high
        (has-filter (is_member_at links root at.number) (starts links) lei
        (starts-has links lei ∙ direct-start links lei first.next first.step)
        (both (bytes_eq root lei) (is_depth at.number (depth links root lei)) (apart (cases_Bool (bytes_eq root lei)))
        (ap (is_depth at.number) at.is ∙ is-depth at.number)))
      where
        both : (a b : Bool) → a ≡ false → b ≡ true → (not a && b) ≡ true
        both true b p q = absurd (false≢true (sym p))
        both false b p q = q

        apart : (bytes_eq root lei ≡ true) ⊎ (bytes_eq root lei ≡ false) → bytes_eq root lei ≡ false
        apart (inl same) = absurd (other (sym (same_lei root lei same)))
        apart (inr isnt) = isnt

    pub members_lead : (lei : Lei) → lei ≢ root → Contains (members links root) lei ↔ LeadsUpTo links lei root
    members_lead lei other = (
      λ at. member-leads lei ((is_member-Decides bytes_eq-Decides (members links root) lei).1 at),
      λ chain. let least = some_least lei chain.0 chain.1 in
          (is_member-Decides bytes_eq-Decides (members links root) lei).0 (least-member lei other least.steps least.is),
    )

    pub root_apart : Contains (members links root) root → ⊥
    root_apart at =
        let one = in_one (members_at links root) 1 (length links) root ((is_member-Decides bytes_eq-Decides (members links root) root).1 at) in
        false≢true (sym (member-is one.number root one.at).0 ∙ own_lei root)

    pub members_once : IsDistinct bytes_eq (members links root)
    members_once =
        all-distinct (members_at links root) (depth links root) (λ d y at. (member-is d y at).1)
        (λ d. filter-distinct (is_member_at links root d) (starts links) (leis_in_order-distinct (map (λ link. link.start) links)))
        1 (length links)
