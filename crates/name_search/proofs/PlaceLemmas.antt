-- The place of a key among names in the order of their keys.
use Rattle.std.proofs.Common.{◌≡◌, ℕ, zero, suc, ◌+◌, ◌<◌, ◌≤◌, T, Bool, true, false, cond, Option, None, Some, List, [], ◌∷◌, get_or, ltb, length, drop, ◌&&◌, refl, sym, ap, subst, ◌∙◌, arith}
use Rattle.std.specs.FinMap.Entries.{below_all, find, is_sorted}
use Rattle.std.specs.Option.{option_map}
use Rattle.std.specs.Ordering.{is_eq, is_lt, ordering_reverse}
use Rattle.std.specs.declared.cmp.Ordering.{Ordering}
use Rattle.std.proofs.lemmas.Bool.{ltb-false, ltb-true}
use Rattle.std.proofs.lemmas.Cmp.{nat_list_cmp_total}
use Rattle.std.proofs.lemmas.List.{get_or_default}
use Rattle.lei_code.specs.Texts.{Text}
use Rattle.name_search.specs.NameTables.{Name}
use Rattle.name_search.specs.Keys.{text_cmp}
use Rattle.name_search.specs.Places.{PrecedesNames, FollowsNames, IsHere}
use Rattle.name_search.proofs.WalkLemmas.{first_true, less, second_true, text_same}

ascends : (names : List Name) → is_sorted text_cmp names ≡ true → T (is_sorted text_cmp names)
ascends names sorted = subst T (sym sorted) tt

-- keys rise from place to place
below_at : (key : Text) (names : List Name) → T (below_all text_cmp key names) → (j : ℕ) (d : Name) → j < length names
    → text_cmp key (get_or names j d).0 ≡ Ordering.Less
below_at key [] below j d within = absurd (omega arith)
below_at key (e ∷ es) below zero d within = less (text_cmp key e.0) (first_true (is_lt (text_cmp key e.0)) (below_all text_cmp key es) below)
below_at key (e ∷ es) below (suc j) d within =
    below_at key es (second_true (is_lt (text_cmp key e.0)) (below_all text_cmp key es) below) j d (omega arith)

rises_at : (names : List Name) → T (is_sorted text_cmp names) → (i j : ℕ) (d : Name) → i < j → j < length names
    → text_cmp (get_or names i d).0 (get_or names j d).0 ≡ Ordering.Less
rises_at [] sorted i j d lt within = absurd (omega arith)
rises_at (e ∷ es) sorted i zero d lt within = absurd (omega arith)
rises_at (e ∷ es) sorted zero (suc j) d lt within = below_at e.0 es (first_true (below_all text_cmp e.0 es) (is_sorted text_cmp es) sorted) j d (omega arith)
rises_at (e ∷ es) sorted (suc i) (suc j) d lt within =
    rises_at es (second_true (below_all text_cmp e.0 es) (is_sorted text_cmp es) sorted) i j d (omega arith) (omega arith)

same_name : (names : List Name) (i : ℕ) (d name : Name) → i < length names → name ≡ get_or names i name → get_or names i d ≡ name
same_name names i d name within here = get_or_default names i d name within ∙ sym here

pub turned : (j k : Text) → text_cmp j k ≡ Ordering.Less → text_cmp k j ≡ Ordering.Greater
turned j k lt = nat_list_cmp_total.antisymm k j ∙ ap ordering_reverse lt

back : (j k : Text) → text_cmp j k ≡ Ordering.Greater → text_cmp k j ≡ Ordering.Less
back j k gt = nat_list_cmp_total.antisymm k j ∙ ap ordering_reverse gt

-- a key before the one at a place is before all from there on
pub above_from : (names : List Name) (key : Text) (i : ℕ) (name : Name) → is_sorted text_cmp names ≡ true → i < length names
    → name ≡ get_or names i name → text_cmp key name.0 ≡ Ordering.Less → PrecedesNames names key i
above_from names key i name sorted within here lt k d from inside = by (ltb i k) refl
  where
    at : text_cmp key (get_or names i d).0 ≡ Ordering.Less
    at = ap (λ (n : Name). text_cmp key n.0) (same_name names i d name within here) ∙ lt

    by : (b : Bool) → ltb i k ≡ b → text_cmp key (get_or names k d).0 ≡ Ordering.Less
    by true later =
        nat_list_cmp_total.trans key (get_or names i d).0 (get_or names k d).0 at
        (rises_at names (ascends names sorted) i k d (ltb-true i k later) inside)
    by false same =
        let is : i ≡ k = omega (arith, ltb-false i k same) in
        subst (λ n. text_cmp key (get_or names n d).0 ≡ Ordering.Less) is at

-- a key after the one at a place is after all up to it
pub below_to : (names : List Name) (key : Text) (i : ℕ) (name : Name) → is_sorted text_cmp names ≡ true → i < length names
    → name ≡ get_or names i name → text_cmp key name.0 ≡ Ordering.Greater → FollowsNames names key (i + 1)
below_to names key i name sorted within here gt k d before = by (ltb k i) refl
  where
    at : text_cmp key (get_or names i d).0 ≡ Ordering.Greater
    at = ap (λ (n : Name). text_cmp key n.0) (same_name names i d name within here) ∙ gt

    by : (b : Bool) → ltb k i ≡ b → text_cmp key (get_or names k d).0 ≡ Ordering.Greater
    by true earlier =
        turned (get_or names k d).0 key
        (nat_list_cmp_total.trans (get_or names k d).0 (get_or names i d).0 key
        (rises_at names (ascends names sorted) k i d (ltb-true k i earlier) within) (back key (get_or names i d).0 at))
    by false same =
        let is : i ≡ k = omega (arith, ltb-false k i same) in
        subst (λ n. text_cmp key (get_or names n d).0 ≡ Ordering.Greater) is at

-- a key that is that of one place
pub is_here : (names : List Name) (key : Text) (i : ℕ) (name : Name) → i < length names → name ≡ get_or names i name
    → text_cmp key name.0 ≡ Ordering.Equal → IsHere names key i
is_here names key i name within here tie d = ap (λ (n : Name). text_cmp key n.0) (same_name names i d name within here) ∙ tie

key_here : (names : List Name) (key : Text) (i : ℕ) (d name : Name) → i < length names → name ≡ get_or names i name
    → text_cmp key name.0 ≡ Ordering.Equal → key ≡ (get_or names i d).0
key_here names key i d name within here tie = text_same key name.0 tie ∙ ap (λ (n : Name). n.0) (sym (same_name names i d name within here))

-- comes after those before it
pub below_here : (names : List Name) (key : Text) (i : ℕ) (name : Name) → is_sorted text_cmp names ≡ true → i < length names
    → name ≡ get_or names i name → text_cmp key name.0 ≡ Ordering.Equal → FollowsNames names key i
below_here names key i name sorted within here tie k d before =
    turned (get_or names k d).0 key
    (ap (text_cmp (get_or names k d).0) (key_here names key i d name within here tie)
    ∙ rises_at names (ascends names sorted) k i d before within)

-- and before those after it
pub above_here : (names : List Name) (key : Text) (i : ℕ) (name : Name) → is_sorted text_cmp names ≡ true → i < length names
    → name ≡ get_or names i name → text_cmp key name.0 ≡ Ordering.Equal → PrecedesNames names key (i + 1)
above_here names key i name sorted within here tie k d from inside =
    ap (λ q. text_cmp q (get_or names k d).0) (key_here names key i d name within here tie)
    ∙ rises_at names (ascends names sorted) i k d (omega arith) inside

-- no name stands from the end on
pub above_end : (names : List Name) (key : Text) (i : ℕ) → length names ≤ i → PrecedesNames names key i
above_end names key i past k d from inside = absurd (omega arith)

-- where the places meet, the key comes before all from there on
pub above_upto : (names : List Name) (key : Text) (high low : ℕ) → PrecedesNames names key high → high ≤ low → PrecedesNames names key low
above_upto names key high low above meet k d from inside = above k d (omega arith) inside

-- ---- the names from a place on

second : (a b : Bool) → (a && b) ≡ true → b ≡ true
second true b e = e
second false b e = absurd (cc)

pub sorted_drop : (n : ℕ) (names : List Name) → is_sorted text_cmp names ≡ true → is_sorted text_cmp (drop n names) ≡ true
sorted_drop zero names sorted = sorted
sorted_drop (suc n) [] sorted = refl
sorted_drop (suc n) (e ∷ es) sorted = sorted_drop n es (second (below_all text_cmp e.0 es) (is_sorted text_cmp es) sorted)

pub here_drop : (n : ℕ) (names : List Name) (key : Text) → IsHere names key n → IsHere (drop n names) key 0
here_drop zero names key is = is
here_drop (suc n) [] key is = is
here_drop (suc n) (e ∷ es) key is = here_drop n es key is

pub above_drop : (n : ℕ) (names : List Name) (key : Text) → PrecedesNames names key n → PrecedesNames (drop n names) key 0
above_drop zero names key above = above
above_drop (suc n) [] key above = λ k d from inside. absurd (omega arith)
above_drop (suc n) (e ∷ es) key above =
    above_drop n es key (λ k d from inside. above (suc k) d (omega arith) (omega arith))

found_at : (names : List Name) (key : Text) (i : ℕ) (d name : Name) → T (is_sorted text_cmp names) → i < length names
    → name ≡ get_or names i d → text_cmp key name.0 ≡ Ordering.Equal
    → option_map (λ n. (key, n)) (find text_cmp key names) ≡ Some name
found_at [] key i d name sorted within here tie = absurd (omega arith)
found_at (e ∷ es) key zero d name sorted within here tie =
    let first : text_cmp key e.0 ≡ Ordering.Equal = ap (λ (n : Name). text_cmp key n.0) (sym here) ∙ tie in
    ap (λ o. option_map (λ n. (key, n)) (cond (is_eq o) (Some e.1) (find text_cmp key es))) first
    ∙ ap (λ k. Some (k, e.1)) (text_same key e.0 first) ∙ ap Some (sym here)
found_at (e ∷ es) key (suc i) d name sorted within here tie =
    let later : text_cmp e.0 name.0 ≡ Ordering.Less =
    ap (λ (n : Name). text_cmp e.0 n.0) here ∙ below_at e.0 es (first_true (below_all text_cmp e.0 es) (is_sorted text_cmp es) sorted) i d (omega arith) in
    let gt : text_cmp key e.0 ≡ Ordering.Greater =
    turned e.0 key (ap (text_cmp e.0) (text_same key name.0 tie) ∙ later) in
    ap (λ o. option_map (λ n. (key, n)) (cond (is_eq o) (Some e.1) (find text_cmp key es))) gt
    ∙ found_at es key i d name (second_true (below_all text_cmp e.0 es) (is_sorted text_cmp es) sorted) (omega arith) here tie

-- the name at a place whose key is the same is what is found
pub found_is : (names : List Name) (key : Text) (i : ℕ) (name : Name) → is_sorted text_cmp names ≡ true → i < length names
    → name ≡ get_or names i name → text_cmp key name.0 ≡ Ordering.Equal
    → Some name ≡ option_map (λ n. (key, n)) (find text_cmp key names)
found_is names key i name sorted within here tie = sym (found_at names key i name name (ascends names sorted) within here tie)

nowhere : (names : List Name) (key : Text) → ((k : ℕ) (d : Name) → k < length names → is_eq (text_cmp key (get_or names k d).0) ≡ false)
    → find text_cmp key names ≡ None
nowhere [] key none = refl
nowhere (e ∷ es) key none =
    ap (λ b. cond b (Some e.1) (find text_cmp key es)) (none 0 e (omega arith)) ∙ nowhere es key (λ k d within. none (suc k) d (omega arith))

abbrev named_under : Text → Option Text → Option Name
named_under key o = option_map (λ n. (key, n)) o

-- if the two places meet, no name has the key
pub none_is : (names : List Name) (key : Text) (low high : ℕ) → FollowsNames names key low → PrecedesNames names key high → high ≤ low
    → ◌≡◌ {A = Option Name} None (named_under key (find text_cmp key names))
none_is names key low high below above meet =
    sym (ap (named_under key) (nowhere names key (λ k d within. by k d within (ltb k low) refl)))
  where
    by : (k : ℕ) (d : Name) → k < length names → (b : Bool) → ltb k low ≡ b → is_eq (text_cmp key (get_or names k d).0) ≡ false
    by k d within true before = ap is_eq (below k d (ltb-true k low before))
    by k d within false after = ap is_eq (above k d (omega (arith, ltb-false k low after)) within)
