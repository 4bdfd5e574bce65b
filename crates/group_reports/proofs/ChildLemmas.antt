-- Children of places, one after another.
use Rattle.std.specs.Prelude.{◌≡◌, ℕ, zero, suc, ◌+◌, ◌-◌, ◌<◌, ◌≤◌, Bool, true, false, not, cond, ◌==◌, ◌&&◌, ◌||◌, List, ◌∷◌, Option, None, Some, find, length}
use Rattle.std.specs.BTreeSet.{insert_key}
use Rattle.std.specs.List.{range_with_len}
use Rattle.std.specs.Ordering.{nat_cmp}
use Rattle.std.proofs.Common.{refl, sym, ap, subst, ◌∙◌, ◌⊎◌, inl, inr, arith, leb, replicate, set}
use Rattle.std.proofs.lemmas.Bool.{cases_eq, cases_lt, eq-eqb, eqb-true, false≢true, le-leb, lt-leb, ne_eqb}
use Rattle.std.proofs.lemmas.List.{get_or-set_other, get_or-set_same, get_or_past}
use Rattle.group_reports.specs.Places.{AreBelow, FindsChildren, child_from, has_place, has_some, is_at, is_child, step_up}
use Rattle.group_reports.proofs.ListLemmas.{FoundAt, found}
use Rattle.group_reports.proofs.PlaceLemmas.{put_place}

abbrev place_or : ℕ → Option ℕ → ℕ
place_or place None = place
place_or place (Some other) = other

pub at-is : (parent : ℕ) (o : Option ℕ) → is_at parent o ≡ true → o ≡ Some parent
at-is parent None is = absurd (false≢true is)
at-is parent (Some other) is = ap Some (eqb-true other parent is)

none_in : (n place : ℕ) → step_up (replicate n None) place ≡ None
none_in zero place = refl
none_in (suc n) zero = refl
none_in (suc n) (suc place) = none_in n place

-- none of the numbers passes if none is found
none_passes : (p : ℕ → Bool) (from n j : ℕ) → find p (range_with_len from n) ≡ None → from ≤ j → j < from + n → p j ≡ false
none_passes p from zero j none low high = absurd (omega (arith, low, high))
none_passes p from (suc n) j none low high =
    by (λ later more. none_passes p (from + 1) n j later more (omega (arith, high))) (p from) refl none (cases_eq from j)
  where
    by : (find p (range_with_len (from + 1) n) ≡ None → from + 1 ≤ j → p j ≡ false) → (b : Bool) → p from ≡ b
        → cond b (Some from) (find p (range_with_len (from + 1) n)) ≡ None → (from ≡ j) ⊎ (from ≡ j → ⊥) → p j ≡ false
    by rest true is none at = absurd cc
    by rest false isnt none (inl same) = subst (λ k. p k ≡ false) same isnt
    by rest false isnt none (inr other) = rest none (let more : from + 1 ≤ j = by_less (cases_lt from j) in more)
      where
        by_less : (from < j) ⊎ (j ≤ from) → from + 1 ≤ j
        by_less (inl less) = omega (arith, less)
        by_less (inr back) = absurd (other (omega (arith, back, low)))

module _ (parents : List (Option ℕ)) where
  child_more : (parent place : ℕ) → place < length parents
      → child_from parents parent place ≡ cond (is_child parents parent place) (Some place) (child_from parents parent (place + 1))
  child_more parent place within =
      let left : length parents - place ≡ suc (length parents - (place + 1)) = omega (arith, within) in
      ap (λ n. find (is_child parents parent) (range_with_len place n)) left

  child_none : (parent place : ℕ) → length parents ≤ place → child_from parents parent place ≡ None
  child_none parent place over =
      let left : length parents - place ≡ 0 = omega (arith, over) in
      ap (λ n. find (is_child parents parent) (range_with_len place n)) left

  -- ---- the index of children

  -- the children at a place and after it are linked
  pub record LinkedFrom (child : ℕ) (firsts nexts : List (Option ℕ)) : Type 0 where
    pub first_count : length firsts ≡ length parents
    pub next_count : length nexts ≡ length parents
    pub first : (parent : ℕ) → step_up firsts parent ≡ child_from parents parent child
    pub next : (parent other : ℕ) → child ≤ other → step_up parents other ≡ Some parent → step_up nexts other ≡ child_from parents parent (other + 1)

  pub linked_none : (child : ℕ) (firsts nexts : List (Option ℕ)) → child ≡ length parents → firsts ≡ replicate child None
      → nexts ≡ replicate child None → length firsts ≡ child → length nexts ≡ child → LinkedFrom child firsts nexts
  linked_none child firsts nexts last first_is next_is first_len next_len = record {
    first_count = first_len ∙ last;
    next_count = next_len ∙ last;
    first = λ parent.
        ap (λ l. step_up l parent) first_is ∙ (none_in child parent ∙ sym (child_none parent child (omega (arith, last))));
    next = λ parent other after is. absurd (none_at parent other after is);
  }
    where
      none_at : (parent other : ℕ) → child ≤ other → step_up parents other ≡ Some parent → ⊥
      none_at parent other after is =
          let none : step_up parents other ≡ None = get_or_past parents other None (omega (arith, last, after)) in
          let never : None ≡ Some parent = sym none ∙ is in
          cc

  pub linked_on : (child parent : ℕ) (firsts nexts : List (Option ℕ)) → child < length parents → parent < length parents
      → step_up parents child ≡ Some parent → LinkedFrom (child + 1) firsts nexts
      → LinkedFrom child (set firsts parent (Some child)) (set nexts child (step_up firsts parent))
  linked_on child parent firsts nexts within inside is linked = record {
    first_count = Rattle.std.proofs.lemmas.List.length-set firsts parent (Some child) ∙ linked.first_count;
    next_count = Rattle.std.proofs.lemmas.List.length-set nexts child (step_up firsts parent) ∙ linked.next_count;
    first = λ other. first_of other (cases_eq other parent);
    next = λ other place after up. next_of other place after up (cases_eq place child);
  }
    where
      first_of : (other : ℕ) → (other ≡ parent) ⊎ (other ≡ parent → ⊥)
          → step_up (set firsts parent (Some child)) other ≡ child_from parents other child
      first_of other (inl same) =
          ap (step_up (set firsts parent (Some child))) same
          ∙ (get_or-set_same firsts parent (Some child) None (omega (arith, inside, linked.first_count))
          ∙ (sym (child_more parent child within
          ∙ ap (λ b. cond b (Some child) (child_from parents parent (child + 1))) (ap (is_at parent) is ∙ eq-eqb parent parent refl))
          ∙ ap (λ k. child_from parents k child) (sym same)))
      first_of other (inr differs) =
          get_or-set_other firsts parent other (Some child) None differs
          ∙ (linked.first other
          ∙ sym (child_more other child within
          ∙ ap (λ b. cond b (Some child) (child_from parents other (child + 1)))
          (ap (is_at other) is ∙ ne_eqb parent other (λ e. differs (sym e)))))

      next_of : (other place : ℕ) → child ≤ place → step_up parents place ≡ Some other → (place ≡ child) ⊎ (place ≡ child → ⊥)
          → step_up (set nexts child (step_up firsts parent)) place ≡ child_from parents other (place + 1)
      next_of other place after up (inl same) =
          let one : parent ≡ other = ap (place_or 0) (sym is ∙ (ap (step_up parents) (sym same) ∙ up)) in
          ap (step_up (set nexts child (step_up firsts parent))) same
          ∙ (get_or-set_same nexts child (step_up firsts parent) None (omega (arith, within, linked.next_count))
          ∙ (linked.first parent
          ∙ (ap (λ k. child_from parents k (child + 1)) one ∙ ap (λ k. child_from parents other (k + 1)) (sym same))))
      next_of other place after up (inr differs) =
          get_or-set_other nexts child place (step_up firsts parent) None differs
          ∙ linked.next other place (beyond (cases_lt child place)) up
        where
          beyond : (child < place) ⊎ (place ≤ child) → child + 1 ≤ place
          beyond (inl less) = omega (arith, less)
          beyond (inr back) = absurd (differs (omega (arith, back, after)))

  pub linked_same : (child : ℕ) (firsts nexts : List (Option ℕ)) → child < length parents → step_up parents child ≡ None
      → LinkedFrom (child + 1) firsts nexts → LinkedFrom child firsts nexts
  linked_same child firsts nexts within none linked = record {
    first_count = linked.first_count;
    next_count = linked.next_count;
    first = λ other.
        linked.first other
        ∙ sym (child_more other child within
        ∙ ap (λ b. cond b (Some child) (child_from parents other (child + 1))) (ap (is_at other) none));
    next = λ other place after up. linked.next other place (beyond other place after up (cases_lt child place)) up;
  }
    where
      beyond : (other place : ℕ) → child ≤ place → step_up parents place ≡ Some other → (child < place) ⊎ (place ≤ child) → child + 1 ≤ place
      beyond other place after up (inl less) = omega (arith, less)
      beyond other place after up (inr back) =
          let same : place ≡ child = omega (arith, back, after) in
          let never : None ≡ Some other = sym none ∙ (ap (step_up parents) (sym same) ∙ up) in
          absurd cc

  pub linked_all : (firsts nexts : List (Option ℕ)) → LinkedFrom 0 firsts nexts → FindsChildren parents firsts nexts
  linked_all firsts nexts linked = record {
    first_count = linked.first_count;
    next_count = linked.next_count;
    first = linked.first;
    next = λ parent child up. linked.next parent child (omega arith) up;
  }

  -- ---- a walk over the children of a place

  module _ (parent root : ℕ) where
    -- a place is a child, and not the root
    abbrev pub is_wanted : ℕ → Bool
    is_wanted place = not (place == root) && is_child parents parent place

    -- together with the children at a place and after it these are all
    pub record AddsFrom (left : Option ℕ) (before now : List ℕ) : Type 0 where
      pub from : ℕ
      pub left_is : left ≡ child_from parents parent from
      pub all : (place : ℕ) → (has_place now place || (leb from place && is_wanted place)) ≡ (has_place before place || is_wanted place)
      pub below : AreBelow (length parents) now

    pub adds_first : (left : Option ℕ) (before : List ℕ) → left ≡ child_from parents parent 0 → AreBelow (length parents) before
        → AddsFrom left before before
    adds_first left before is below = record {
      from = 0;
      left_is = is;
      all = λ place. ap (λ b. has_place before place || (b && is_wanted place)) (le-leb 0 place (omega arith));
      below = below;
    }

    no_more : (a b : Bool) → b ≡ false → (a || b) ≡ a
    no_more true b none = refl
    no_more false b none = none

    and_none : (a b : Bool) → b ≡ false → (a && b) ≡ false
    and_none true b none = none
    and_none false b none = refl

    pub adds_end : (before now : List ℕ) → AddsFrom None before now
        → (place : ℕ) → has_place now place ≡ (has_place before place || is_wanted place)
    adds_end before now adds place = sym (no_more (has_place now place) (leb adds.from place && is_wanted place) none) ∙ adds.all place
      where
        outside : length parents ≤ place → is_child parents parent place ≡ false
        outside over = ap (is_at parent) (get_or_past parents place None over)

        inside : (adds.from ≤ place) → place < length parents → is_child parents parent place ≡ false
        inside low within =
            none_passes (is_child parents parent) adds.from (length parents - adds.from) place (sym adds.left_is) low
            (omega (arith, low, within))

        by : (place < adds.from) ⊎ (adds.from ≤ place) → (place < length parents) ⊎ (length parents ≤ place)
            → (leb adds.from place && is_wanted place) ≡ false
        by (inl before_it) at = ap (λ b. b && is_wanted place) (lt-leb adds.from place before_it)
        by (inr low) (inl within) =
            and_none (leb adds.from place) (is_wanted place) (and_none (not (place == root)) (is_child parents parent place) (inside low within))
        by (inr low) (inr over) =
            and_none (leb adds.from place) (is_wanted place) (and_none (not (place == root)) (is_child parents parent place) (outside over))

        none : (leb adds.from place && is_wanted place) ≡ false
        none = by (cases_lt place adds.from) (cases_lt place (length parents))

    pub adds_child : (child : ℕ) (before now : List ℕ) → (adds : AddsFrom (Some child) before now)
        → FoundAt (is_child parents parent) adds.from (length parents - adds.from) child
    adds_child child before now adds =
        found (is_child parents parent) adds.from (length parents - adds.from) child (sym adds.left_is)

    pub adds_on : (child : ℕ) (left : Option ℕ) (before now after : List ℕ) (firsts nexts : List (Option ℕ))
        → FindsChildren parents firsts nexts → AddsFrom (Some child) before now → left ≡ step_up nexts child
        → ((place : ℕ) → has_place after place ≡ (has_place now place || (place == child && not (child == root))))
        → AreBelow (length parents) after → AddsFrom left before after
    adds_on child left before now after firsts nexts finds adds is has below = record {
      from = child + 1;
      left_is = is ∙ finds.next parent child (at-is parent (step_up parents child) at.passes);
      all = λ place. by place (cases_eq place child) ∙ adds.all place;
      below = below;
    }
      where
        at : FoundAt (is_child parents parent) adds.from (length parents - adds.from) child
        at = adds_child child before now adds

        here : (a b : Bool) → ((a || b) || false) ≡ (a || (b && true))
        here true b = refl
        here false true = refl
        here false false = refl

        apart_from : (a b c d : Bool) → b ≡ c → ((a || false) || (b && d)) ≡ (a || (c && d))
        apart_from true b c d same = refl
        apart_from false b c d same = ap (λ x. x && d) same

        by_order : (place : ℕ) → (place < child) ⊎ (child < place)
            → ((has_place now place || false) || (leb (child + 1) place && is_wanted place)) ≡ (has_place now place || (leb adds.from place && is_wanted place))
        by_order place (inr more) =
            let low : adds.from ≤ child = at.low in
            apart_from (has_place now place) (leb (child + 1) place) (leb adds.from place) (is_wanted place)
            (le-leb (child + 1) place (omega (arith, more)) ∙ sym (le-leb adds.from place (omega (arith, low, more))))
        by_order place (inl less) = between (cases_lt place adds.from)
          where
            left_out : leb (child + 1) place ≡ false
            left_out = lt-leb (child + 1) place (omega (arith, less))

            between : (place < adds.from) ⊎ (adds.from ≤ place)
                → ((has_place now place || false) || (leb (child + 1) place && is_wanted place)) ≡ (has_place now place || (leb adds.from place && is_wanted place))
            between (inl lower) =
                apart_from (has_place now place) (leb (child + 1) place) (leb adds.from place) (is_wanted place)
                (left_out ∙ sym (lt-leb adds.from place lower))
            between (inr low) =
                let unwanted : is_wanted place ≡ false =
                and_none (not (place == root)) (is_child parents parent place) (at.first place low less) in
                no_more (has_place now place || false) (leb (child + 1) place && is_wanted place) (and_none (leb (child + 1) place) (is_wanted place) unwanted)
                ∙ (no_more (has_place now place) false refl
                ∙ sym (no_more (has_place now place) (leb adds.from place && is_wanted place) (and_none (leb adds.from place) (is_wanted place) unwanted)))

        by : (place : ℕ) → (place ≡ child) ⊎ (place ≡ child → ⊥)
            → (has_place after place || (leb (child + 1) place && is_wanted place)) ≡ (has_place now place || (leb adds.from place && is_wanted place))
        by place (inl same) =
            let low : adds.from ≤ child = at.low in
            ap (λ b. b || (leb (child + 1) place && is_wanted place))
            (has place ∙ ap (λ b. has_place now place || (b && not (child == root))) (eq-eqb place child same))
            ∙ (ap (λ b. (has_place now place || not (child == root)) || (b && is_wanted place)) (lt-leb (child + 1) place (omega (arith, same)))
            ∙ (here (has_place now place) (not (child == root))
            ∙ sym (ap (λ b. has_place now place || (b && is_wanted place)) (le-leb adds.from place (omega (arith, low, same)))
            ∙ (ap (λ k. has_place now place || (not (k == root) && is_child parents parent k)) same
            ∙ ap (λ b. has_place now place || (not (child == root) && b)) at.passes))))
        by place (inr differs) =
            ap (λ b. b || (leb (child + 1) place && is_wanted place))
            (has place ∙ ap (λ b. has_place now place || (b && not (child == root))) (ne_eqb place child differs))
            ∙ by_order place (order (Rattle.std.proofs.lemmas.Bool.cases_order place child))
          where
            order : (place ≡ child) ⊎ ((place < child) ⊎ (child < place)) → (place < child) ⊎ (child < place)
            order (inl same) = absurd (differs same)
            order (inr other) = other

  -- how many places may be left
  abbrev pub still : Option ℕ → ℕ
  still None = 0
  still (Some child) = length parents - child

  pub fewer_left : (parent child : ℕ) (left : Option ℕ) → child < length parents → left ≡ child_from parents parent (child + 1)
      → still left < still (Some child)
  fewer_left parent child None within is = omega (arith, within)
  fewer_left parent child (Some next) within is =
      let at = found (is_child parents parent) (child + 1) (length parents - (child + 1)) next (sym is) in
      let low : child + 1 ≤ next = at.low in
      let high : next < child + 1 + (length parents - (child + 1)) = at.high in
      omega (arith, low, high, within)

no_more_so : (a b : Bool) → b ≡ false → (a || b) ≡ a
no_more_so true b none = refl
no_more_so false b none = none

-- a place was added, since it isn't the root
pub has_put : (place root : ℕ) (before after : List ℕ) → after ≡ insert_key nat_cmp before place → (place == root) ≡ false
    → (other : ℕ) → has_place after other ≡ (has_place before other || (other == place && not (place == root)))
has_put place root before after is isnt other =
    ap (λ l. has_place l other) is
    ∙ (put_place before place other
    ∙ (turn (other == place) (has_place before other) ∙ ap (λ b. has_place before other || (other == place && not b)) (sym isnt)))
  where
    turn : (a b : Bool) → (a || b) ≡ (b || (a && true))
    turn true true = refl
    turn true false = refl
    turn false true = refl
    turn false false = refl

-- the place is the root
pub has_same : (place root : ℕ) (places : List ℕ) → (place == root) ≡ true
    → (other : ℕ) → has_place places other ≡ (has_place places other || (other == place && not (place == root)))
has_same place root places is other =
    sym (no_more_so (has_place places other) (other == place && not (place == root)) (none (other == place) (not (place == root)) (ap not is)))
  where
    none : (a b : Bool) → b ≡ false → (a && b) ≡ false
    none true b isnt = isnt
    none false b isnt = refl

-- ---- the children of several places

pub some_first : (place : ℕ) (places : List ℕ) (o : Option ℕ) → has_some (place ∷ places) o ≡ (is_at place o || has_some places o)
some_first place places None = refl
some_first place places (Some other) = refl

pub some_next : (a n x r : Bool) → ((a || (n && x)) || (n && r)) ≡ (a || (n && (x || r)))
some_next true n x r = refl
some_next false true true r = refl
some_next false true false r = refl
some_next false false x r = refl
