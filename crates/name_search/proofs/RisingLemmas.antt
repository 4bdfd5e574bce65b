-- Keys in rising order, and lists of keys within others.
use Rattle.std.proofs.Common.{◌≡◌, ℕ, ◌+◌, ◌-◌, ◌<◌, None, get_or, subst, take, Bool, true, false, ◌||◌, Some, List, [], ◌∷◌, ◌++◌, zero, suc, length, refl, sym, ap, ◌∙◌, arith}
use Rattle.std.specs.Cmp.{tied_itself}
use Rattle.std.specs.List.{AllByRecursion, slice_get}
use Rattle.std.specs.List.Sorted.{IsStrictlySortedBy}
use Rattle.std.specs.Ordering.{is_eq, ordering_reverse}
use Rattle.std.specs.declared.cmp.Ordering.{Ordering}
use Rattle.std.proofs.lemmas.Cmp.{nat_list_cmp_total}
use Rattle.std.proofs.lemmas.List.{take_more}
use Rattle.std.proofs.lemmas.List.Folds.{list_any-append}
use Rattle.lei_code.specs.Texts.{Text}
use Rattle.name_search.specs.Keys.{AreKeysOf, is_one_of_keys, text_cmp}
use Rattle.name_search.proofs.WalkLemmas.{tied}

-- ---- a key in one of two lists

pub in_first : (key : Text) (these those : List Text) → is_one_of_keys key these ≡ true → is_one_of_keys key (these ++ those) ≡ true
in_first key these those is = list_any-append (λ k. is_eq (text_cmp key k)) these those ∙ ap (λ b. b || is_one_of_keys key those) is

either : (a b : Bool) → b ≡ true → (a || b) ≡ true
either true b is = refl
either false b is = is

pub in_second : (key : Text) (these those : List Text) → is_one_of_keys key those ≡ true → is_one_of_keys key (these ++ those) ≡ true
in_second key these those is =
    list_any-append (λ k. is_eq (text_cmp key k)) these those ∙ either (is_one_of_keys key these) (is_one_of_keys key those) is

pub in_both : (key : Text) (a b a' b' : List Text) → (is_one_of_keys key a ≡ true → is_one_of_keys key a' ≡ true) → (is_one_of_keys key b ≡ true → is_one_of_keys key b' ≡ true)
    → is_one_of_keys key (a ++ b) ≡ true → is_one_of_keys key (a' ++ b') ≡ true
in_both key a b a' b' first second is = by (is_one_of_keys key a) refl (sym (list_any-append (λ k. is_eq (text_cmp key k)) a b) ∙ is)
  where
    by : (t : Bool) → is_one_of_keys key a ≡ t → (t || is_one_of_keys key b) ≡ true → is_one_of_keys key (a' ++ b') ≡ true
    by true has others = in_first key a' b' (first has)
    by false lacks others = in_second key a' b' (second others)

pub key_alone : (key : Text) → is_one_of_keys key (key ∷ []) ≡ true
key_alone key = ap (λ o. is_eq o || false) (tied_itself nat_list_cmp_total key)

-- ---- a key that comes after the others

pub none_rise : IsStrictlySortedBy text_cmp []
unfolding IsStrictlySortedBy
none_rise = tt

pub one_rises : (key : Text) → IsStrictlySortedBy text_cmp (key ∷ [])
unfolding IsStrictlySortedBy
one_rises key = (tt, tt)

-- each key is below a key that comes after the last
abbrev AreBelow : List Text → Text → Type 0
AreBelow keys key = AllByRecursion (λ k. text_cmp k key ≡ Ordering.Less) keys

below_push : (first key : Text) (keys : List Text) → AllByRecursion (λ k. text_cmp first k ≡ Ordering.Less) keys → text_cmp first key ≡ Ordering.Less
    → AllByRecursion (λ k. text_cmp first k ≡ Ordering.Less) (keys ++ key ∷ [])
below_push first key [] all is = (is, tt)
below_push first key (k ∷ keys) all is = (all.0, below_push first key keys all.1 is)

rise_push : (keys : List Text) (key : Text) → IsStrictlySortedBy text_cmp keys → AreBelow keys key → IsStrictlySortedBy text_cmp (keys ++ key ∷ [])
unfolding IsStrictlySortedBy
rise_push [] key rising below = (tt, tt)
rise_push (first ∷ keys) key rising below = (below_push first key keys rising.0 below.0, rise_push keys key rising.1 below.1)

turned : (q k : Text) → text_cmp q k ≡ Ordering.Greater → text_cmp k q ≡ Ordering.Less
turned q k above = nat_list_cmp_total.antisymm k q ∙ ap ordering_reverse above

below_last : (keys : List Text) (n : ℕ) (key last : Text) → n + 1 ≡ length keys → IsStrictlySortedBy text_cmp keys → slice_get keys n ≡ Some last
    → text_cmp key last ≡ Ordering.Greater → AreBelow keys key
unfolding IsStrictlySortedBy
below_last [] n key last at rising is above = absurd (omega arith)
below_last (first ∷ []) zero key last at rising is above =
    let same : first ≡ last = cc in (ap (λ k. text_cmp k key) same ∙ turned key last above, tt)
below_last (first ∷ []) (suc n) key last at rising is above = absurd (omega arith)
below_last (first ∷ second ∷ keys) zero key last at rising is above = absurd (omega arith)
below_last (first ∷ second ∷ keys) (suc n) key last at rising is above =
    let others : AreBelow (second ∷ keys) key = below_last (second ∷ keys) n key last (omega arith) rising.1 is above in
    (nat_list_cmp_total.trans first second key rising.0.0 others.0, others)

-- so the keys with this one still rise
pub rise_after : (keys : List Text) (n : ℕ) (key last : Text) → n + 1 ≡ length keys → IsStrictlySortedBy text_cmp keys → slice_get keys n ≡ Some last
    → text_cmp key last ≡ Ordering.Greater → IsStrictlySortedBy text_cmp (keys ++ key ∷ [])
rise_after keys n key last at rising is above = rise_push keys key rising (below_last keys n key last at rising is above)

pub rise_at : (keys : List Text) (key last : Text) → IsStrictlySortedBy text_cmp keys → slice_get keys (length keys - 1) ≡ Some last
    → text_cmp key last ≡ Ordering.Greater → IsStrictlySortedBy text_cmp (keys ++ key ∷ [])
rise_at [] key last rising is above = absurd (cc)
rise_at (first ∷ keys) key last rising is above =
    rise_after (first ∷ keys) (length (first ∷ keys) - 1) key last (omega arith) rising is above

no_last : {P : Type 0} (keys : List Text) (n : ℕ) → n + 1 ≡ length keys → slice_get keys n ≡ None → P
no_last [] n at none = absurd (omega arith)
no_last (first ∷ keys) zero at none = absurd (cc)
no_last (first ∷ keys) (suc n) at none = no_last keys n (omega arith) none

pub rise_alone : (keys : List Text) (key : Text) → slice_get keys (length keys - 1) ≡ None → IsStrictlySortedBy text_cmp (keys ++ key ∷ [])
unfolding IsStrictlySortedBy
rise_alone [] key none = (tt, tt)
rise_alone (first ∷ keys) key none = no_last (first ∷ keys) (length (first ∷ keys) - 1) (omega arith) none

-- a key that was appended is there
pub pushed_is_key : (keys keys' : List Text) (key key' : Text) → key' ≡ key → keys' ≡ keys ++ key' ∷ [] → is_one_of_keys key keys' ≡ true
pushed_is_key keys keys' key key' same push =
    ap (is_one_of_keys key) push ∙ in_second key keys (key' ∷ []) (ap (λ k. is_one_of_keys key (k ∷ [])) same ∙ key_alone key)

-- the last key is one of them
pub last_is_key : (keys : List Text) (n : ℕ) (key last : Text) → slice_get keys n ≡ Some last → text_cmp key last ≡ Ordering.Equal
    → is_one_of_keys key keys ≡ true
last_is_key [] n key last is same = absurd (cc)
last_is_key (first ∷ keys) zero key last is same =
    let here : first ≡ last = cc in ap (λ k. is_eq (text_cmp key k) || is_one_of_keys key keys) here ∙ ap (λ o. is_eq o || is_one_of_keys key keys) same
last_is_key (first ∷ keys) (suc n) key last is same =
    either (is_eq (text_cmp key first)) (is_one_of_keys key keys) (last_is_key keys n key last is same)

-- ---- keys that are added to others

pub keys_push : (list : List Text) (key : Text) (old new : List Text) → AreKeysOf list old → AreKeysOf old new → is_one_of_keys key new ≡ true
    → AreKeysOf (list ++ key ∷ []) new
keys_push list key old new are stay put = λ k is. by k (is_one_of_keys k list) refl (sym (list_any-append (λ q. is_eq (text_cmp k q)) list (key ∷ [])) ∙ is)
  where
    last : (k : Text) (b : Bool) → is_eq (text_cmp k key) ≡ b → (b || false) ≡ true → is_one_of_keys k new ≡ true
    last k true same is = ap (λ q. is_one_of_keys q new) (tied k key same) ∙ put
    last k false differs is = absurd (cc)

    by : (k : Text) (b : Bool) → is_one_of_keys k list ≡ b → (b || is_one_of_keys k (key ∷ [])) ≡ true → is_one_of_keys k new ≡ true
    by k true has is = stay k (are k has)
    by k false lacks is = last k (is_eq (text_cmp k key)) refl is

pub keys_more : (list : List Text) (i : ℕ) (key : Text) (old new : List Text) → i < length list → key ≡ get_or list i key → AreKeysOf (take i list) old
    → AreKeysOf old new → is_one_of_keys key new ≡ true → AreKeysOf (take (i + 1) list) new
keys_more list i key old new within here are stay put =
    subst (λ l. AreKeysOf l new) (ap (λ k. take i list ++ k ∷ []) here ∙ sym (take_more list i key within))
    (keys_push (take i list) key old new are stay put)

pub keys_of_both : (first later mid all : List Text) → AreKeysOf first mid → AreKeysOf mid all → AreKeysOf later all → AreKeysOf (first ++ later) all
keys_of_both first later mid all put stay more = λ key is.
    by key (is_one_of_keys key first) refl (sym (list_any-append (λ k. is_eq (text_cmp key k)) first later) ∙ is)
  where
    by : (key : Text) (b : Bool) → is_one_of_keys key first ≡ b → (b || is_one_of_keys key later) ≡ true → is_one_of_keys key all ≡ true
    by key true has is = stay key (put key has)
    by key false lacks is = more key is
