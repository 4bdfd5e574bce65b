-- LEIs in order, by their places.
use Rattle.std.specs.Prelude.{◌≡◌, ℕ, zero, suc, ◌+◌, ◌-◌, ◌<◌, ◌≤◌, true, false, cond, ◌==◌, ◌||◌, List, [], ◌∷◌, get_or, length, map, fold}
use Rattle.std.specs.BTreeSet.{insert_key}
use Rattle.std.specs.Cmp.{Equal-is, nat_cmp_is}
use Rattle.std.specs.Cmp.Lexicographic.{slice_cmp}
use Rattle.std.specs.declared.cmp.Ordering.{Ordering}
use Rattle.std.specs.declared.cmp.Ordering.TheVariants.{Equal, Greater, Less}
use Rattle.std.specs.List.{AllByRecursion}
use Rattle.std.specs.List.Sorted.{IsStrictlySortedBy}
use Rattle.std.specs.Ordering.{is_eq, match_ordering, nat_cmp, ordering_reverse}
use Rattle.std.specs.Str.{bytes_eq}
use Rattle.std.proofs.Common.{refl, sym, ap, ◌∙◌, ◌⊎◌, inl, inr, arith}
use Rattle.std.proofs.lemmas.Bool.{cases_order, eq-eqb, eqb-true, false≢true, ne_eqb, or_cases, or_from, or_left, or_right}
use Rattle.std.proofs.lemmas.Cmp.{nat_list_cmp_total, ranked}
use Rattle.std.proofs.lemmas.List.Elements.{All-head, All-tail, All-cons}
use Rattle.std.proofs.lemmas.Map.Keys.{Less-from_sorted}
use Rattle.std.proofs.lemmas.Map.Text.{is_eq-slice_cmp}
use Rattle.lei_code.specs.Texts.{Lei}
use Rattle.lei_records.specs.Rows.{text_at}
use Rattle.group_reports.specs.Places.{AreBelow, AreSortedLeis, at, has_place}
use Rattle.group_reports.proofs.InsertLemmas.{insert-has}
use Rattle.group_reports.proofs.ListLemmas.{has, own_lei, same_lei}

-- ---- LEIs and places

pub text_is : (leis : List Lei) (place : ℕ) → text_at leis (place + 1) ≡ at leis place
text_is leis place =
    ap (λ b. cond b [] (get_or leis (place + 1 - 1) [])) (ne_eqb (place + 1) 0 (λ e. omega (arith, e)))
    ∙ ap (at leis) (let same : place + 1 - 1 ≡ place = omega arith in same)

-- the place of an LEI
pub record Stands (leis : List Lei) (lei : Lei) : Type 0 where
  pub place : ℕ
  pub within : place < length leis
  pub is : at leis place ≡ lei

pub stands : (leis : List Lei) (lei : Lei) → has leis lei ≡ true → Stands leis lei
stands [] lei is = absurd (false≢true is)
stands (x ∷ xs) lei is = by (λ later. stands xs lei later) (or_cases (bytes_eq lei x) (has xs lei) is)
  where
    by : (has xs lei ≡ true → Stands xs lei) → (bytes_eq lei x ≡ true) ⊎ (has xs lei ≡ true) → Stands (x ∷ xs) lei
    by rest (inl here) = record { place = 0; within = omega arith; is = sym (same_lei lei x here) }
    by rest (inr later) =
        let inside : (rest later).place < length xs = (rest later).within in
        record { place = suc (rest later).place; within = omega (arith, inside); is = (rest later).is }

pub there : (leis : List Lei) (place : ℕ) → place < length leis → has leis (at leis place) ≡ true
there [] place within = absurd (omega (arith, within))
there (x ∷ xs) zero within = or_left (bytes_eq x x) (has xs x) (own_lei x)
there (x ∷ xs) (suc place) within =
    or_right (bytes_eq (at xs place) x) (has xs (at xs place)) (there xs place (omega (arith, within)))

nowhere : (leis : List Lei) (lei : Lei) → ((j : ℕ) → j < length leis → bytes_eq lei (at leis j) ≡ false) → has leis lei ≡ false
nowhere [] lei apart = refl
nowhere (x ∷ xs) lei apart =
    or_from (bytes_eq lei x) (has xs lei) (apart 0 (omega arith)) (nowhere xs lei (λ j within. apart (suc j) (omega (arith, within))))

-- ---- sets of places

tied_places : (k x : ℕ) → nat_cmp k x ≡ Equal → k ≡ x
tied_places k x is = ranked k x Equal (sym is)

pub put_place : (places : List ℕ) (k y : ℕ) → has_place (insert_key nat_cmp places k) y ≡ (y == k || has_place places y)
put_place places k y = insert-has nat_cmp (λ x y. x == y) tied_places places k y

pub below_put : (count : ℕ) (places : List ℕ) (k : ℕ) → AreBelow count places → k < count → AreBelow count (insert_key nat_cmp places k)
below_put count [] k below within = All-cons (λ place. place < count) k [] within below
below_put count (x ∷ xs) k below within = by (below_put count xs k (All-tail (λ place. place < count) x xs below) within) (nat_cmp k x)
  where
    by : AreBelow count (insert_key nat_cmp xs k) → (o : Ordering)
        → AreBelow count (match_ordering o (k ∷ x ∷ xs) (x ∷ xs) (x ∷ insert_key nat_cmp xs k))
    by rest Less = All-cons (λ place. place < count) k (x ∷ xs) within below
    by rest Equal = below
    by rest Greater = All-cons (λ place. place < count) x (insert_key nat_cmp xs k) (All-head (λ place. place < count) x xs below) rest

pub below_puts : (count : ℕ) (made places : List ℕ) → AreBelow count made → AreBelow count places → AreBelow count (fold (insert_key nat_cmp) made places)
below_puts count made [] below within = below
below_puts count made (x ∷ xs) below within =
    below_puts count (insert_key nat_cmp made x) xs (below_put count made x below (All-head (λ place. place < count) x xs within))
    (All-tail (λ place. place < count) x xs within)

pub below_has : (count : ℕ) (places : List ℕ) (y : ℕ) → AreBelow count places → has_place places y ≡ true → y < count
below_has count [] y below among = absurd (false≢true among)
below_has count (x ∷ xs) y below among =
    by (below_has count xs y (All-tail (λ place. place < count) x xs below)) (or_cases (y == x) (has_place xs y) among)
  where
    by : (has_place xs y ≡ true → y < count) → ((y == x) ≡ true) ⊎ (has_place xs y ≡ true) → y < count
    by rest (inl same) =
        let one : y ≡ x = eqb-true y x same in
        let first : x < count = All-head (λ place. place < count) x xs below in
        omega (arith, one, first)
    by rest (inr later) = rest later

-- ---- LEIs in order

-- those before a place are less than this one
abbrev pub AreLess : List Lei → Lei → ℕ → Type 0
AreLess leis lei low = (j : ℕ) → j < low → slice_cmp nat_cmp (at leis j) lei ≡ Less

-- those at a place and after it are greater
abbrev pub AreMore : List Lei → Lei → ℕ → Type 0
AreMore leis lei high = (j : ℕ) → high ≤ j → j < length leis → slice_cmp nat_cmp lei (at leis j) ≡ Less

module _ (leis : List Lei) (order : AreSortedLeis leis) where
  rising : (i j : ℕ) → i < j → j < length leis → slice_cmp nat_cmp (at leis i) (at leis j) ≡ Less
  rising i j before within = Less-from_sorted (slice_cmp nat_cmp) leis i j [] order before within

  pub cmp_places : (p q : ℕ) → p < length leis → q < length leis → nat_cmp p q ≡ slice_cmp nat_cmp (at leis p) (at leis q)
  cmp_places p q first second = by (cases_order p q)
    where
      equal : slice_cmp nat_cmp (at leis p) (at leis p) ≡ Equal
      equal = (Equal-is (slice_cmp nat_cmp (at leis p) (at leis p))).0 (is_eq-slice_cmp (at leis p) (at leis p) ∙ own_lei (at leis p))

      by : (p ≡ q) ⊎ ((p < q) ⊎ (q < p)) → nat_cmp p q ≡ slice_cmp nat_cmp (at leis p) (at leis q)
      by (inl same) = sym (nat_cmp_is p q Equal same) ∙ (sym equal ∙ ap (λ k. slice_cmp nat_cmp (at leis p) (at leis k)) same)
      by (inr (inl before)) = sym (nat_cmp_is p q Less before) ∙ sym (rising p q before second)
      by (inr (inr after)) =
          sym (nat_cmp_is p q Greater after)
          ∙ sym (nat_list_cmp_total.antisymm (at leis p) (at leis q) ∙ ap ordering_reverse (rising q p after first))

  pub same_place : (p q : ℕ) → p < length leis → q < length leis → at leis p ≡ at leis q → p ≡ q
  same_place p q first second one = tied_places p q (cmp_places p q first second ∙ both)
    where
      both : slice_cmp nat_cmp (at leis p) (at leis q) ≡ Equal
      both =
          (Equal-is (slice_cmp nat_cmp (at leis p) (at leis q))).0
          (is_eq-slice_cmp (at leis p) (at leis q) ∙ (ap (λ x. bytes_eq x (at leis q)) one ∙ own_lei (at leis q)))

  pub eq_places : (p q : ℕ) → p < length leis → q < length leis → bytes_eq (at leis p) (at leis q) ≡ (p == q)
  eq_places p q first second = by (cases_order p q)
    where
      apart : (p ≡ q → ⊥) → bytes_eq (at leis p) (at leis q) ≡ (p == q)
      apart differ = Rattle.std.proofs.lemmas.Bool.false_from_ne_true (bytes_eq (at leis p) (at leis q))
          (λ is. differ (same_place p q first second (same_lei (at leis p) (at leis q) is))) ∙ sym (ne_eqb p q differ)

      by : (p ≡ q) ⊎ ((p < q) ⊎ (q < p)) → bytes_eq (at leis p) (at leis q) ≡ (p == q)
      by (inl same) = ap (λ k. bytes_eq (at leis p) (at leis k)) (sym same) ∙ (own_lei (at leis p) ∙ sym (eq-eqb p q same))
      by (inr (inl before)) = apart (λ e. omega (arith, before, e))
      by (inr (inr after)) = apart (λ e. omega (arith, after, e))

  -- ---- a binary search

  pub more_from : (lei : Lei) (middle : ℕ) → slice_cmp nat_cmp lei (at leis middle) ≡ Less → AreMore leis lei middle
  more_from lei middle is j after within = by (cases_order middle j)
    where
      by : (middle ≡ j) ⊎ ((middle < j) ⊎ (j < middle)) → slice_cmp nat_cmp lei (at leis j) ≡ Less
      by (inl same) = ap (λ k. slice_cmp nat_cmp lei (at leis k)) (sym same) ∙ is
      by (inr (inl before)) = nat_list_cmp_total.trans lei (at leis middle) (at leis j) is (rising middle j before within)
      by (inr (inr behind)) = absurd (omega (arith, after, behind))

  pub less_to : (lei : Lei) (middle : ℕ) → middle < length leis → slice_cmp nat_cmp lei (at leis middle) ≡ Greater → AreLess leis lei (middle + 1)
  less_to lei middle within is j before = by (cases_order j middle)
    where
      above : slice_cmp nat_cmp (at leis middle) lei ≡ Less
      above = nat_list_cmp_total.antisymm (at leis middle) lei ∙ ap ordering_reverse is

      by : (j ≡ middle) ⊎ ((j < middle) ⊎ (middle < j)) → slice_cmp nat_cmp (at leis j) lei ≡ Less
      by (inl same) = ap (λ k. slice_cmp nat_cmp (at leis k) lei) same ∙ above
      by (inr (inl smaller)) = nat_list_cmp_total.trans (at leis j) (at leis middle) lei (rising j middle smaller within) above
      by (inr (inr behind)) = absurd (omega (arith, before, behind))

  pub found_at : (lei : Lei) (middle : ℕ) → middle < length leis → slice_cmp nat_cmp lei (at leis middle) ≡ Equal
      → (middle < length leis) × (at leis middle ≡ lei)
  found_at lei middle within is =
      (within, sym (same_lei lei (at leis middle) (sym (is_eq-slice_cmp lei (at leis middle)) ∙ ap is_eq is)))

  pub not_there : (lei : Lei) (low high : ℕ) → high ≤ low → AreLess leis lei low → AreMore leis lei high → has leis lei ≡ false
  not_there lei low high over less more = nowhere leis lei (λ j within. by j within (Rattle.std.proofs.lemmas.Bool.cases_lt j low))
    where
      by : (j : ℕ) → j < length leis → (j < low) ⊎ (low ≤ j) → bytes_eq lei (at leis j) ≡ false
      by j within (inl before) =
          sym (is_eq-slice_cmp lei (at leis j))
          ∙ ap is_eq (nat_list_cmp_total.antisymm lei (at leis j) ∙ ap ordering_reverse (less j before))
      by j within (inr after) = sym (is_eq-slice_cmp lei (at leis j)) ∙ ap is_eq (more j (omega (arith, over, after)) within)

  -- ---- lists of places as lists of LEIs

  pub put_lei : (places : List ℕ) (k : ℕ) → AreBelow (length leis) places → k < length leis
      → map (at leis) (insert_key nat_cmp places k) ≡ insert_key (slice_cmp nat_cmp) (map (at leis) places) (at leis k)
  put_lei [] k below within = refl
  put_lei (x ∷ xs) k below within =
      by (put_lei xs k (All-tail (λ place. place < length leis) x xs below) within) (nat_cmp k x)
      ∙ ap (λ o. match_ordering o (at leis k ∷ at leis x ∷ map (at leis) xs) (at leis x ∷ map (at leis) xs)
      (at leis x ∷ insert_key (slice_cmp nat_cmp) (map (at leis) xs) (at leis k)))
      (cmp_places k x within (All-head (λ place. place < length leis) x xs below))
    where
      by : map (at leis) (insert_key nat_cmp xs k) ≡ insert_key (slice_cmp nat_cmp) (map (at leis) xs) (at leis k) → (o : Ordering)
          → map (at leis) (match_ordering o (k ∷ x ∷ xs) (x ∷ xs) (x ∷ insert_key nat_cmp xs k))
          ≡ match_ordering o (at leis k ∷ at leis x ∷ map (at leis) xs) (at leis x ∷ map (at leis) xs)
          (at leis x ∷ insert_key (slice_cmp nat_cmp) (map (at leis) xs) (at leis k))
      by rest Less = refl
      by rest Equal = refl
      by rest Greater = ap (λ l. at leis x ∷ l) rest

  pub put_leis : (made places : List ℕ) → AreBelow (length leis) made → AreBelow (length leis) places
      → map (at leis) (fold (insert_key nat_cmp) made places) ≡ fold (insert_key (slice_cmp nat_cmp)) (map (at leis) made) (map (at leis) places)
  put_leis made [] below within = refl
  put_leis made (x ∷ xs) below within =
      let first = All-head (λ place. place < length leis) x xs within in
      put_leis (insert_key nat_cmp made x) xs (below_put (length leis) made x below first) (All-tail (λ place. place < length leis) x xs within)
      ∙ ap (λ l. fold (insert_key (slice_cmp nat_cmp)) l (map (at leis) xs)) (put_lei made x below first)

  pub map_order : (places : List ℕ) → IsStrictlySortedBy nat_cmp places → AreBelow (length leis) places → AreSortedLeis (map (at leis) places)
  unfolding IsStrictlySortedBy
  map_order [] sorted below = tt
  map_order (x ∷ xs) sorted below = (
    each xs sorted.0 (All-tail (λ place. place < length leis) x xs below),
    map_order xs sorted.1 (All-tail (λ place. place < length leis) x xs below),
  )
    where
      each : (ys : List ℕ) → AllByRecursion (λ y. nat_cmp x y ≡ Less) ys → AreBelow (length leis) ys
          → AllByRecursion (λ y. slice_cmp nat_cmp (at leis x) y ≡ Less) (map (at leis) ys)
      each [] all within = tt
      each (y ∷ ys) all within = (
        sym (cmp_places x y (All-head (λ place. place < length leis) x xs below) (All-head (λ place. place < length leis) y ys within)) ∙ all.0,
        each ys all.1 (All-tail (λ place. place < length leis) y ys within),
      )

  pub placed : (places : List ℕ) (place : ℕ) → has_place places place ≡ true → has (map (at leis) places) (at leis place) ≡ true
  placed [] place is = absurd (false≢true is)
  placed (x ∷ xs) place is = by (λ later. placed xs place later) (or_cases (place == x) (has_place xs place) is)
    where
      by : (has_place xs place ≡ true → has (map (at leis) xs) (at leis place) ≡ true) → ((place == x) ≡ true) ⊎ (has_place xs place ≡ true)
          → has (map (at leis) (x ∷ xs)) (at leis place) ≡ true
      by rest (inl same) =
          or_left (bytes_eq (at leis place) (at leis x)) (has (map (at leis) xs) (at leis place))
          (ap (λ k. bytes_eq (at leis place) (at leis k)) (sym (eqb-true place x same)) ∙ own_lei (at leis place))
      by rest (inr later) = or_right (bytes_eq (at leis place) (at leis x)) (has (map (at leis) xs) (at leis place)) (rest later)

  -- the place of an LEI of a list
  pub record PlacedAt (places : List ℕ) (lei : Lei) : Type 0 where
    pub place : ℕ
    pub among : has_place places place ≡ true
    pub is : at leis place ≡ lei

  pub placed_at : (places : List ℕ) (lei : Lei) → has (map (at leis) places) lei ≡ true → PlacedAt places lei
  placed_at [] lei is = absurd (false≢true is)
  placed_at (x ∷ xs) lei is = by (λ later. placed_at xs lei later) (or_cases (bytes_eq lei (at leis x)) (has (map (at leis) xs) lei) is)
    where
      by : (has (map (at leis) xs) lei ≡ true → PlacedAt xs lei) → (bytes_eq lei (at leis x) ≡ true) ⊎ (has (map (at leis) xs) lei ≡ true)
          → PlacedAt (x ∷ xs) lei
      by rest (inl here) = record {
        place = x;
        among = or_left (x == x) (has_place xs x) (eq-eqb x x refl);
        is = sym (same_lei lei (at leis x) here);
      }
      by rest (inr later) = record {
        place = (rest later).place;
        among = or_right ((rest later).place == x) (has_place xs (rest later).place) (rest later).among;
        is = (rest later).is;
      }
