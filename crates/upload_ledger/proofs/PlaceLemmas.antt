-- Lists of places, and what they say of a history that grows by an entry.
use Rattle.std.proofs.Common.{◌≡◌, ℕ, ◌-◌, ◌<◌, List, [], ◌∷◌, ◌++◌, map, filter, find, slice_get, length, Bool, true, false, cond, ◌==◌, Option, Some, None, option_map, option_and_then, refl, sym, ap, ◌∙◌, arith, append-nil, length-append, inl, inr}
use Rattle.std.proofs.Math.Seq.{get_or-append_seam}
use Rattle.std.proofs.lemmas.Bool.Decides.{eqb_tells}
use Rattle.std.proofs.lemmas.List.{get_or_append_left, length-map, map-append}
use Rattle.std.proofs.lemmas.List.Elements.{filter-append}
use Rattle.std.proofs.lemmas.List.Folds.{find-append}
use Rattle.std.proofs.lemmas.Option.{get_or_from_slice_get, slice_get-get_or, slice_get-map, slice_get_past, slice_get_read, slice_get_within}
use Rattle.std.specs.Borrow.{Bor}
use Rattle.std.specs.Option.{option_or}
use Rattle.std.specs.Slice.{IsGetResult}
use Rattle.lei_values.specs.declared.entry.KeptEntry.{KeptEntry}
use Rattle.upload_ledger.specs.History.{History, entry_numbered}
use Rattle.upload_ledger.specs.Index.{ArePlaces, IsFirstPlace}

-- ---- reading

-- what a slice's `get` finds
pub found-at : {X : Type 0} (xs : List X) (i : ℕ) (found : Option (Bor X)) → IsGetResult xs i i found → option_map (λ x. x.now) found ≡ slice_get xs i
found-at xs i None is = sym (slice_get_past xs i is.3)
found-at xs i (Some x) is = sym (slice_get_read xs (length xs) i x.now refl is.3.0 is.1)

within_some : {A B : Type 0} (f : A → Option B) (place : Option A) (item : Option B) → option_map f place ≡ option_map Some item → option_and_then f place ≡ item
within_some f None None is = refl
within_some f None (Some y) is = cc
within_some f (Some x) None is = cc
within_some f (Some x) (Some y) is = cc

pub first-at : (test : KeptEntry → Bool) (history : History) (place : Option ℕ) → IsFirstPlace test history place → option_and_then (slice_get history) place ≡ find test history
first-at test history place is = within_some (slice_get history) place (find test history) is

pub place-at : (test : KeptEntry → Bool) (history : History) (places : List ℕ) (i : ℕ) → ArePlaces test history places → option_and_then (slice_get history) (slice_get places i) ≡ slice_get (filter test history) i
place-at test history places i are =
    within_some (slice_get history) (slice_get places i) (slice_get (filter test history) i)
    (sym (slice_get-map (slice_get history) places i) ∙ (ap (λ l. slice_get l i) are ∙ slice_get-map Some (filter test history) i))

pub places-length : (test : KeptEntry → Bool) (history : History) (places : List ℕ) → ArePlaces test history places → length places ≡ length (filter test history)
places-length test history places are = sym (length-map places (slice_get history)) ∙ (ap length are ∙ length-map (filter test history) Some)

-- the entry with a number, if the number's place is found
pub entry_of_number : (test : KeptEntry → Bool) (history : History) (places : List ℕ) (number place : ℕ) (found : Option KeptEntry) → ArePlaces test history places
    → 0 < number → slice_get places (number - 1) ≡ Some place → found ≡ slice_get history place → found ≡ entry_numbered (filter test history) number
entry_of_number test history places number place found are some at is =
    is ∙ (ap (option_and_then (slice_get history)) (sym at) ∙ (place-at test history places (number - 1) are ∙ ap (λ b. cond b None (slice_get (filter test history) (number - 1))) (sym (is_some number some))))
  where
    is_some : (n : ℕ) → 0 < n → (n == 0) ≡ false
    is_some n some = elim (eqb_tells n 0) [ inl none ↦ absurd (omega (arith, none.1, some)) | inr other ↦ other.0 ]

-- ---- one more entry

-- an entry that is found is still found
stays-at : (history : History) (e : KeptEntry) (place : ℕ) (item : KeptEntry) → slice_get history place ≡ Some item → slice_get (history ++ e ∷ []) place ≡ Some item
stays-at history e place item at =
    let within = slice_get_within history place item at in
    slice_get-get_or (history ++ e ∷ []) place e (omega (arith, within, length-append history (e ∷ [])))
    ∙ ap Some (get_or_append_left history (e ∷ []) e place within ∙ get_or_from_slice_get history place item e at)

last-at : (history : History) (e : KeptEntry) → slice_get (history ++ e ∷ []) (length history) ≡ Some e
last-at history e =
    slice_get-get_or (history ++ e ∷ []) (length history) e (omega (arith, length-append history (e ∷ []))) ∙ ap Some (get_or-append_seam history e [] e)

all_stay : (history : History) (e : KeptEntry) (places : List ℕ) (items : History) → map (slice_get history) places ≡ map Some items → map (slice_get (history ++ e ∷ [])) places ≡ map Some items
all_stay history e [] [] are = refl
all_stay history e [] (item ∷ items) are = cc
all_stay history e (place ∷ places) [] are = cc
all_stay history e (place ∷ places) (item ∷ items) are =
    let first : slice_get history place ≡ Some item = cc in
    let others : map (slice_get history) places ≡ map Some items = cc in
    let now_first = stays-at history e place item first in
    let now_others = all_stay history e places items others in
    cc

one_stays : (history : History) (e : KeptEntry) (place : Option ℕ) (item : Option KeptEntry) → option_map (slice_get history) place ≡ option_map Some item
    → option_map (slice_get (history ++ e ∷ [])) place ≡ option_map Some item
one_stays history e None None is = refl
one_stays history e None (Some item) is = cc
one_stays history e (Some place) None is = cc
one_stays history e (Some place) (Some item) is = let at : slice_get history place ≡ Some item = cc in ap Some (stays-at history e place item at)

-- the places and one more, if the entry passes the test
pub places-push : (test : KeptEntry → Bool) (history : History) (e : KeptEntry) (places : List ℕ) → ArePlaces test history places
    → ArePlaces test (history ++ e ∷ []) (cond (test e) (places ++ length history ∷ []) places)
places-push test history e places are =
    let stay = all_stay history e places (filter test history) are in
    elim (test e) as (λ b. test e ≡ b → ArePlaces test (history ++ e ∷ []) (cond b (places ++ length history ∷ []) places)) [
      | true ↦ λ t.
          map-append (slice_get (history ++ e ∷ [])) places (length history ∷ [])
          ∙ (ap (λ l. l ++ slice_get (history ++ e ∷ []) (length history) ∷ []) stay
          ∙ (ap (λ o. map Some (filter test history) ++ o ∷ []) (last-at history e)
          ∙ (sym (map-append Some (filter test history) (e ∷ []))
          ∙ (ap (λ b. map Some (filter test history ++ cond b (e ∷ []) [])) (sym t) ∙ ap (map Some) (sym (filter-append test history (e ∷ [])))))))
      | false ↦ λ t.
          stay ∙ (ap (map Some) (sym (append-nil (filter test history)))
          ∙ (ap (λ b. map Some (filter test history ++ cond b (e ∷ []) [])) (sym t) ∙ ap (map Some) (sym (filter-append test history (e ∷ [])))))
    ] refl

-- the first place, which may be the new entry's
pub first-push : (test : KeptEntry → Bool) (history : History) (e : KeptEntry) (place : Option ℕ) → IsFirstPlace test history place
    → IsFirstPlace test (history ++ e ∷ []) (cond (test e) (option_or place (Some (length history))) place)
first-push test history e place is =
    elim (test e) as (λ b. test e ≡ b → IsFirstPlace test (history ++ e ∷ []) (cond b (option_or place (Some (length history))) place)) [
      | true ↦ λ t.
          found place (find test history) is
          ∙ (ap (λ b. option_map Some (option_or (find test history) (cond b (Some e) None))) (sym t) ∙ ap (option_map Some) (sym (find-append test history (e ∷ []))))
      | false ↦ λ t.
          one_stays history e place (find test history) is
          ∙ (ap (option_map Some) (sym (or_none (find test history)))
          ∙ (ap (λ b. option_map Some (option_or (find test history) (cond b (Some e) None))) (sym t) ∙ ap (option_map Some) (sym (find-append test history (e ∷ [])))))
    ] refl
  where
    or_none : (o : Option KeptEntry) → option_or o None ≡ o
    or_none None = refl
    or_none (Some x) = refl

    found : (place : Option ℕ) (item : Option KeptEntry) → option_map (slice_get history) place ≡ option_map Some item
        → option_map (slice_get (history ++ e ∷ [])) (option_or place (Some (length history))) ≡ option_map Some (option_or item (Some e))
    found None None is = ap Some (last-at history e)
    found None (Some item) is = cc
    found (Some place) None is = cc
    found (Some place) (Some item) is = one_stays history e (Some place) (Some item) is
