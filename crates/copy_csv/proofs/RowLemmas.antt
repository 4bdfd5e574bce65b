-- Lists that are printed item by item, and read back in the same way.
use Rattle.std.proofs.Common.{◌≡◌, ◌≢◌, ℕ, zero, suc, ◌+◌, ◌-◌, ◌<◌, inl, inr, true, false, None, Some, List, [], ◌∷◌, ◌++◌, length, get_or, map, refl, sym, ap, subst, ◌∙◌, arith, append_assoc, length-append}
use Rattle.std.specs.Prelude.{flat_map}
use Rattle.std.specs.List.{All, slice_get}
use Rattle.std.specs.List.Sorted.{IsStrictlySortedBy}
use Rattle.std.specs.Cmp.{IsTotalOrder}
use Rattle.std.specs.Cmp.Lexicographic.{lists_total, nat_list_cmp_total}
use Rattle.std.specs.Ordering.{is_lt}
use Rattle.std.specs.declared.cmp.Ordering.{Ordering}
use Rattle.std.proofs.lemmas.Bool.{false≢true, cases_lt}
use Rattle.std.proofs.lemmas.List.{append-nil, get_or_at, get_or-map, get_or_append_left, length-map, length_push}
use Rattle.std.proofs.lemmas.List.Elements.{All-head, All-tail}
use Rattle.std.proofs.lemmas.Grind.{flat_map-append}
use Rattle.std.proofs.lemmas.Map.Keys.{Less-from_sorted, sorted_from_all_adjacent}
use Rattle.lei_records.specs.Tables.{KeyTexts, key_cmp}
use Rattle.copy_csv.specs.Rows.{KeysRise}
use Rattle.copy_csv.specs.Taking.{AreReadFrom, ReadsNext, comes_after, is_after_all}

pub key_total : IsTotalOrder key_cmp
key_total = lists_total nat_list_cmp_total

less : (o : Ordering) → is_lt o ≡ true → o ≡ Ordering.Less
less Ordering.Less e = refl
less Ordering.Equal e = absurd (false≢true e)
less Ordering.Greater e = absurd (false≢true e)

pub All-behind : {X : Type 0} (P : X → Type 0) (xs ys : List X) → All P (xs ++ ys) → All P ys
All-behind P [] ys all = all
All-behind P (x ∷ xs) ys all = All-behind P xs ys (All-tail P x (xs ++ ys) all)

got : {X : Type 0} (xs : List X) (k : ℕ) (d : X) → k < length xs → slice_get xs k ≡ Some (get_or xs k d)
got [] k d within = absurd (omega arith)
got (x ∷ xs) zero d within = refl
got (x ∷ xs) (suc k) d within = got xs k d (omega arith)

-- whether an item comes after the last one of a list
behind_is : {X : Type 0} (key : X → KeyTexts) (y : X) (made : List X) (x : X)
    → is_after_all key (y ∷ made) x ≡ is_lt (key_cmp (key (get_or (y ∷ made) (length made) x)) (key x))
behind_is key y made x =
    let last : length (y ∷ made) - 1 ≡ length made = omega arith in
    ap (λ n. comes_after key (slice_get (y ∷ made) n) x) last
    ∙ ap (λ o. comes_after key o x) (got (y ∷ made) (length made) x (omega arith))

-- in a list whose keys rise, each item comes after the one before it
pub behind_last : {X : Type 0} (key : X → KeyTexts) (made : List X) (x : X) (more : List X) → KeysRise (map key (made ++ x ∷ more))
    → is_after_all key made x ≡ true
behind_last key [] x more rising = refl
behind_last key (y ∷ made) x more rising =
    let xs = (y ∷ made) ++ x ∷ more in
    let n : ℕ = length made in
    let whole : length ((y ∷ made) ++ x ∷ more) ≡ suc n + suc (length more) = length-append (y ∷ made) (x ∷ more) in
    let long : length (map key xs) ≡ suc n + suc (length more) = length-map xs key ∙ whole in
    let last : get_or (map key xs) n [] ≡ key (get_or (y ∷ made) n x) =
    get_or-map key xs n x [] (omega arith) ∙ ap key (get_or_append_left (y ∷ made) (x ∷ more) x n (omega arith)) in
    let next : get_or (map key xs) (suc n) [] ≡ key x =
    get_or-map key xs (suc n) x [] (omega arith) ∙ ap key (get_or_at (y ∷ made) x more x (suc n) refl) in
    let below : key_cmp (get_or (map key xs) n []) (get_or (map key xs) (suc n) []) ≡ Ordering.Less =
    Less-from_sorted key_cmp (map key xs) n (suc n) [] rising (omega arith) (omega arith) in
    behind_is key y made x ∙ ap is_lt (sym (λ i. key_cmp (last i) (next i)) ∙ below)

-- the key at a place of a list to which an item is appended
key_at : {X : Type 0} (key : X → KeyTexts) (made : List X) (x : X) (k : ℕ) → k < length made
    → get_or (map key (made ++ x ∷ [])) k [] ≡ key (get_or made k x)
key_at key made x k within =
    let long : length (made ++ x ∷ []) ≡ length made + 1 = length_push made x in
    get_or-map key (made ++ x ∷ []) k x [] (omega arith) ∙ ap key (get_or_append_left made (x ∷ []) x k within)

key_end : {X : Type 0} (key : X → KeyTexts) (made : List X) (x : X) → get_or (map key (made ++ x ∷ [])) (length made) [] ≡ key x
key_end key made x =
    let long : length (made ++ x ∷ []) ≡ length made + 1 = length_push made x in
    get_or-map key (made ++ x ∷ []) (length made) x [] (omega arith) ∙ ap key (get_or_at made x [] x (length made) refl)

adjacent : {X : Type 0} (key : X → KeyTexts) (y : X) (made : List X) (x : X) → KeysRise (map key (y ∷ made)) → is_after_all key (y ∷ made) x ≡ true
    → (k : ℕ) → k < length (y ∷ made)
    → key_cmp (get_or (map key ((y ∷ made) ++ x ∷ [])) k []) (get_or (map key ((y ∷ made) ++ x ∷ [])) (k + 1) []) ≡ Ordering.Less
adjacent key y made x rising behind k within = elim (cases_lt k (length made)) [
  | inl lower ↦
      let old : (j : ℕ) → j < length (y ∷ made) → get_or (map key ((y ∷ made) ++ x ∷ [])) j [] ≡ get_or (map key (y ∷ made)) j [] =
      λ j there. key_at key (y ∷ made) x j there ∙ sym (get_or-map key (y ∷ made) j x [] there) in
      let long : length (map key (y ∷ made)) ≡ length (y ∷ made) = length-map (y ∷ made) key in
      (λ i. key_cmp (old k (omega arith) i) (old (k + 1) (omega arith) i))
      ∙ Less-from_sorted key_cmp (map key (y ∷ made)) k (k + 1) [] rising (omega arith) (omega arith)
  | inr upper ↦
      let is : k ≡ length made = omega arith in
      let next : k + 1 ≡ length (y ∷ made) = omega arith in
      let keys : List KeyTexts = map key ((y ∷ made) ++ x ∷ []) in
      let first : get_or keys k [] ≡ key (get_or (y ∷ made) (length made) x) =
      ap (λ n. get_or keys n []) is ∙ key_at key (y ∷ made) x (length made) (omega arith) in
      let second : get_or keys (k + 1) [] ≡ key x = ap (λ n. get_or keys n []) next ∙ key_end key (y ∷ made) x in
      (λ i. key_cmp (first i) (second i)) ∙ less (key_cmp (key (get_or (y ∷ made) (length made) x)) (key x)) (sym (behind_is key y made x) ∙ behind)
]

pub rising-nil : KeysRise []
unfolding IsStrictlySortedBy
rising-nil = tt

-- an item is appended after the last one
pub rising-push : {X : Type 0} (key : X → KeyTexts) (made : List X) (x : X) → KeysRise (map key made) → is_after_all key made x ≡ true
    → KeysRise (map key (made ++ x ∷ []))
rising-push key [] x rising behind = sorted_from_all_adjacent key_total (key x ∷ []) [] (λ k within. absurd (omega arith))
rising-push key (y ∷ made) x rising behind =
    let long : length (map key ((y ∷ made) ++ x ∷ [])) ≡ length (y ∷ made) + 1 =
    length-map ((y ∷ made) ++ x ∷ []) key ∙ length_push (y ∷ made) x in
    sorted_from_all_adjacent key_total (map key ((y ∷ made) ++ x ∷ [])) [] (λ k within. adjacent key y made x rising behind k (omega arith))

module _ {X : Type 0} (print : X → List ℕ) (Good : X → Type 0) (key : X → KeyTexts)
    (one_way : (x y : X) (a b : List ℕ) → Good x → Good y → print x ++ a ≡ print y ++ b → (x ≡ y) × (a ≡ b))
    (some : (x : X) (rest : List ℕ) → Good x → print x ++ rest ≢ []) where
  -- how a list continues after the items that were read
  record GoesOn (made xs : List X) (rest : List ℕ) : Type 0 where
    more : List X
    is : xs ≡ made ++ more
    rest_is : rest ≡ flat_map print more

  goes_on : (made xs : List X) (rest : List ℕ) → All Good made → All Good xs
      → flat_map print made ++ rest ≡ flat_map print xs → GoesOn made xs rest
  goes_on [] xs rest good goods e = record { more = xs; is = refl; rest_is = e }
  goes_on (x ∷ made) [] rest good goods e =
      absurd (some x (flat_map print made ++ rest) (All-head Good x made good) (sym (append_assoc (print x) (flat_map print made) rest) ∙ e))
  goes_on (x ∷ made) (y ∷ xs) rest good goods e =
      let same = one_way x y (flat_map print made ++ rest) (flat_map print xs) (All-head Good x made good) (All-head Good y xs goods)
      (sym (append_assoc (print x) (flat_map print made) rest) ∙ e) in
      let others : GoesOn made xs rest = goes_on made xs rest (All-tail Good x made good) (All-tail Good y xs goods) same.1 in
      record {
        more = others.more;
        is = ap (λ z. z ∷ xs) (sym same.0) ∙ ap (λ l. x ∷ l) others.is;
        rest_is = others.rest_is;
      }

  nothing_more : (more : List X) → All Good more → [] ≡ flat_map print more → more ≡ []
  nothing_more [] good e = refl
  nothing_more (x ∷ more) good e = absurd (some x (flat_map print more) (All-head Good x more good) (sym e))

  good_more : (made xs more : List X) → All Good xs → xs ≡ made ++ more → All Good more
  good_more made xs more goods is = let F : List X → Type 0 = All Good in All-behind Good made more (subst F is goods)

  -- two different lists have different printed forms
  pub one_list : (xs ys : List X) → All Good xs → All Good ys → flat_map print xs ≡ flat_map print ys → xs ≡ ys
  one_list xs ys good goods e =
      let on : GoesOn xs ys [] = goes_on xs ys [] good goods (append-nil (flat_map print xs) ∙ e) in
      sym (on.is ∙ ap (λ l. xs ++ l) (nothing_more on.more (good_more xs ys on.more goods on.is) on.rest_is) ∙ append-nil xs)

  -- the printed form of a list with one more item
  pub printed-push : (all : List ℕ) (made : List X) (x : X) (old new : List ℕ) → all ≡ flat_map print made ++ old → old ≡ print x ++ new
      → all ≡ flat_map print (made ++ x ∷ []) ++ new
  printed-push all made x old new e is =
      e ∙ ap (λ l. flat_map print made ++ l) is ∙ sym (append_assoc (flat_map print made) (print x) new)
      ∙ ap (λ l. (flat_map print made ++ l) ++ new) (sym (append-nil (print x))) ∙ ap (λ l. l ++ new) (sym (flat_map-append print made (x ∷ [])))

  -- if no good item comes next, the bytes are no printed list
  pub none_next : (all : List ℕ) (made : List X) (old new : List ℕ) → All Good made → all ≡ flat_map print made ++ old → 0 < length old
      → ReadsNext print Good old None new → (xs : List X) → AreReadFrom print Good key all xs → ⊥
  none_next all made old new good e some_left none xs are =
      let on : GoesOn made xs old = goes_on made xs old good are.good (sym e ∙ are.printed) in
      next on.more (good_more made xs on.more are.good on.is) on.rest_is
    where
      next : (more : List X) → All Good more → old ≡ flat_map print more → ⊥
      next [] goods is = absurd (let none_left : length old ≡ 0 = ap length is in omega arith)
      next (x ∷ more) goods is = none x (flat_map print more) (All-head Good x more goods) is

  -- if the next item doesn't come after the last one, the bytes are no printed list with rising keys
  pub not_behind : (all : List ℕ) (made : List X) (x : X) (old new : List ℕ) → All Good made → all ≡ flat_map print made ++ old
      → ReadsNext print Good old (Some x) new → is_after_all key made x ≡ false → (xs : List X) → AreReadFrom print Good key all xs → ⊥
  not_behind all made x old new good e read behind xs are =
      let on : GoesOn made xs old = goes_on made xs old good are.good (sym e ∙ are.printed) in
      next on.more (good_more made xs on.more are.good on.is) on.rest_is on.is
    where
      next : (more : List X) → All Good more → old ≡ flat_map print more → xs ≡ made ++ more → ⊥
      next [] goods is all_is = some x new read.1 (sym read.0 ∙ is)
      next (y ∷ more) goods is all_is =
          let same = one_way x y new (flat_map print more) read.1 (All-head Good y more goods) (sym read.0 ∙ is) in
          let rising : KeysRise (map key (made ++ y ∷ more)) =
          let F : List X → Type 0 = λ l. KeysRise (map key l) in subst F all_is are.rising in
          let F : X → Type 0 = λ z. is_after_all key made z ≡ false in
          let wrong : is_after_all key made y ≡ false = subst F same.0 behind in
          false≢true (sym wrong ∙ behind_last key made y more rising)

  -- the printed form of an item isn't empty
  pub shorter : (x : X) (old new : List ℕ) → ReadsNext print Good old (Some x) new → length new < length old
  shorter x old new read =
      let long : length old ≡ length (print x) + length new = ap length read.0 ∙ length-append (print x) new in
      let more : 0 < length (print x) = positive (print x) (λ e. some x [] read.1 (append-nil (print x) ∙ e)) in
      omega arith
    where
      positive : (l : List ℕ) → l ≢ [] → 0 < length l
      positive [] other = absurd (other refl)
      positive (b ∷ l) other = omega arith
