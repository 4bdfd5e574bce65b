-- The items of a file are read back from their texts, and only from these.
use Rattle.std.proofs.Common.{◌≡◌, ℕ, zero, suc, ◌+◌, ◌-◌, ◌<◌, ◌≤◌, Bool, true, false, cond, List, [], ◌∷◌, ◌++◌, Option, Some, None, option_map, option_and_then, unwrap_or, refl, sym, ap, ◌∙◌, subst, arith, append_assoc, length, map}
use Rattle.std.specs.Prelude.{nat_lt}
use Rattle.std.proofs.lemmas.List.{append-nil}
use Rattle.std.specs.List.{All}
use Rattle.std.specs.Str.{bytes_eq}
use Rattle.std.proofs.lemmas.Bool.{lt-ltb}
use Rattle.std.proofs.lemmas.List.Elements.{All-cons, All-head, All-nil, All-tail}
use Rattle.std.proofs.lemmas.Option.{none-some}
use Rattle.std.proofs.lemmas.Slice.Eq.{bytes_eq-Decides}
use Rattle.serde_json.specs.Data.{Data}
use Rattle.serde_json.specs.Written.{comma_if, compact_text, items_text}
use Rattle.lei_code.specs.Texts.{Text}
use Rattle.copy_forms.specs.Json.{array_items}
use Rattle.copy_forms.specs.JsonTexts.{records_text}
use Rattle.copy_forms.specs.JsonReading.{after_front, items_from}
use Rattle.copy_forms.proofs.JsonStrings.{after_front-again, after_front-taken}

-- the texts of an array's values
pub records-text : (later : Bool) (values : List Data) → items_text later (array_items values) ≡ records_text later (map compact_text values)
records-text later [] = refl
records-text later (value ∷ values) = ap (λ l. comma_if later ++ (compact_text value ++ l)) (records-text true values)

-- a reader of items reads back the printed form of each sound item
pub record IsReader {A : Type 0} (item : List ℕ → Option (A × List ℕ)) (print : A → Text) (Sound : A → Type 0) : Type 0 where
  pub again : (a : A) (rest : List ℕ) → Sound a → item (print a ++ rest) ≡ Some (a, rest)
  pub is : (bytes : List ℕ) (a : A) (rest : List ℕ) → item bytes ≡ Some (a, rest) → bytes ≡ print a ++ rest
  pub sound : (bytes : List ℕ) (a : A) (rest : List ℕ) → item bytes ≡ Some (a, rest) → Sound a

-- the items from one on, given the bytes after its comma
items_behind : {A : Type 0} → (List ℕ → Option (A × List ℕ)) → ℕ → Option (List ℕ) → Option (List A)
items_behind {A} item n found =
    option_and_then (λ rest. option_and_then (λ read. option_map {U = List A} (λ others. read.0 ∷ others) (items_from item n true read.1)) (item rest)) found

-- the same, given what was read for the first item
pub items_after : {A : Type 0} → (List ℕ → Option (A × List ℕ)) → ℕ → Option (A × List ℕ) → Option (List A)
items_after {A} item n found = option_and_then (λ read. option_map {U = List A} (λ others. read.0 ∷ others) (items_from item n true read.1)) found

pub items-zero : {A : Type 0} (item : List ℕ → Option (A × List ℕ)) (later : Bool) (bytes : List ℕ) → items_from item zero later bytes ≡ cond (bytes_eq bytes (93 ∷ 125 ∷ [])) (Some []) None
unfolding items_from
items-zero item later bytes = refl

pub items-suc : {A : Type 0} (item : List ℕ → Option (A × List ℕ)) (n : ℕ) (later : Bool) (bytes rest : List ℕ) → after_front (comma_if later) bytes ≡ Some rest
    → items_from item (suc n) later bytes ≡ items_after item n (item rest)
unfolding items_from items_after
items-suc {A} item n later bytes rest is =
    ap (option_and_then {U = List A} (λ r. option_and_then {U = List A} (λ read. option_map {U = List A} (λ others. read.0 ∷ others) (items_from item n true read.1)) (item r))) is

pub items-no_comma : {A : Type 0} (item : List ℕ → Option (A × List ℕ)) (n : ℕ) (later : Bool) (bytes : List ℕ) → after_front (comma_if later) bytes ≡ None
    → items_from item (suc n) later bytes ≡ None
unfolding items_from
items-no_comma {A} item n later bytes is =
    ap (option_and_then {U = List A} (λ r. option_and_then {U = List A} (λ read. option_map {U = List A} (λ others. read.0 ∷ others) (items_from item n true read.1)) (item r))) is

pub after_front-some : {A : Type 0} (item : List ℕ → Option (A × List ℕ)) (n : ℕ) (read : A × List ℕ) → items_after item n (Some read) ≡ option_map {U = List A} (λ others. read.0 ∷ others) (items_from item n true read.1)
unfolding items_after
after_front-some item n read = refl

pub after_front-none : {A : Type 0} (item : List ℕ → Option (A × List ℕ)) (n : ℕ) → items_after item n None ≡ None
unfolding items_after
after_front-none item n = refl

-- the items and the end of their file
pub items_and_end : Bool → List Text → Text
items_and_end later texts = records_text later texts ++ 125 ∷ []

pub end-is : (later : Bool) (texts : List Text) → items_and_end later texts ≡ records_text later texts ++ 125 ∷ []
unfolding items_and_end
end-is later texts = refl

end-cons : (later : Bool) (text : Text) (texts : List Text) → items_and_end later (text ∷ texts) ≡ comma_if later ++ (text ++ items_and_end true texts)
unfolding items_and_end
end-cons later text texts =
    append_assoc (comma_if later) (text ++ records_text true texts) (125 ∷ []) ∙ ap (λ l. comma_if later ++ l) (append_assoc text (records_text true texts) (125 ∷ []))

end-nil : (later : Bool) → items_and_end later [] ≡ 93 ∷ 125 ∷ []
unfolding items_and_end
end-nil later = refl

pub items-again : {A : Type 0} (item : List ℕ → Option (A × List ℕ)) (print : A → Text) (Sound : A → Type 0) → IsReader item print Sound → (items : List A) (later : Bool) → All Sound items
    → items_from item (length items) later (items_and_end later (map print items)) ≡ Some items
items-again {A} item print Sound reader [] later sound =
    let same : bytes_eq (items_and_end later []) (93 ∷ 125 ∷ []) ≡ true = (bytes_eq-Decides (items_and_end later []) (93 ∷ 125 ∷ [])).1 (end-nil later) in
    items-zero item later (items_and_end later []) ∙ ap (λ b. cond b (Some []) None) same
items-again {A} item print Sound reader (a ∷ items) later sound =
    let others = items_and_end true (map print items) in
    let begins : after_front (comma_if later) (items_and_end later (map print (a ∷ items))) ≡ Some (print a ++ others) =
    ap (after_front (comma_if later)) (end-cons later (print a) (map print items)) ∙ after_front-again (comma_if later) (print a ++ others) in
    let first : item (print a ++ others) ≡ Some (a, others) = reader.again a others (All-head Sound a items sound) in
    let rest = items-again item print Sound reader items true (All-tail Sound a items sound) in
    items-suc item (length items) later (items_and_end later (map print (a ∷ items))) (print a ++ others) begins
    ∙ ap (items_after item (length items)) first ∙ after_front-some item (length items) (a, others) ∙ ap (option_map {U = List A} (λ l. a ∷ l)) rest

pub record ItemsTaken {A : Type 0} (print : A → Text) (Sound : A → Type 0) (n : ℕ) (later : Bool) (bytes : List ℕ) (items : List A) : Type 0 where
  pub is : bytes ≡ items_and_end later (map print items)
  pub count : length items ≡ n
  pub sound : All Sound items

pub items-taken : {A : Type 0} (item : List ℕ → Option (A × List ℕ)) (print : A → Text) (Sound : A → Type 0) → IsReader item print Sound
    → (n : ℕ) (later : Bool) (bytes : List ℕ) (items : List A) → items_from item n later bytes ≡ Some items → ItemsTaken print Sound n later bytes items
items-taken {A} item print Sound reader zero later bytes items is = go (bytes_eq bytes (93 ∷ 125 ∷ [])) refl (sym (items-zero item later bytes) ∙ is)
  where
    go : (b : Bool) → bytes_eq bytes (93 ∷ 125 ∷ []) ≡ b → cond {A = Option (List A)} b (Some []) None ≡ Some items → ItemsTaken print Sound zero later bytes items
    go true same found =
        let none : [] ≡ items = ap (λ o. unwrap_or o []) found in
        let P : List A → Type 0 = λ l. ItemsTaken print Sound zero later bytes l in
        subst P none (record { is = (bytes_eq-Decides bytes (93 ∷ 125 ∷ [])).0 same ∙ sym (end-nil later); count = refl; sound = All-nil Sound })
    go false same found = absurd (none-some items found)
items-taken {A} item print Sound reader (suc n) later bytes items is = go (after_front (comma_if later) bytes) refl (items-taken item print Sound reader n true)
  where
    Lower : Type 0
    Lower = (b : List ℕ) (l : List A) → items_from item n true b ≡ Some l → ItemsTaken print Sound n true b l

    others : (behind : List ℕ) (a : A) (rest : List ℕ) (found : Option (List A)) → after_front (comma_if later) bytes ≡ Some behind → item behind ≡ Some (a, rest) → items_from item n true rest ≡ found
        → option_map {U = List A} (λ l. a ∷ l) found ≡ Some items → Lower → ItemsTaken print Sound (suc n) later bytes items
    others behind a rest None front first more same lower = absurd (none-some items same)
    others behind a rest (Some l) front first more same lower =
        let taken = lower rest l more in
        let all : a ∷ l ≡ items = ap (λ o. unwrap_or o []) same in
        let P : List A → Type 0 = λ x. ItemsTaken print Sound (suc n) later bytes x in
        subst P all (record {
          is = after_front-taken (comma_if later) bytes behind front ∙ ap (λ x. comma_if later ++ x) (reader.is behind a rest first ∙ ap (λ r. print a ++ r) taken.is)
              ∙ sym (end-cons later (print a) (map print l));
          count = ap suc taken.count;
          sound = All-cons Sound a l (reader.sound behind a rest first) taken.sound;
        })

    inner : (behind : List ℕ) (found : Option (A × List ℕ)) → after_front (comma_if later) bytes ≡ Some behind → item behind ≡ found → items_after item n found ≡ Some items → Lower
        → ItemsTaken print Sound (suc n) later bytes items
    inner behind None front first same lower = absurd (none-some items (sym (after_front-none item n) ∙ same))
    inner behind (Some read) front first same lower = others behind read.0 read.1 (items_from item n true read.1) front first refl (sym (after_front-some item n read) ∙ same) lower

    go : (found : Option (List ℕ)) → after_front (comma_if later) bytes ≡ found → Lower → ItemsTaken print Sound (suc n) later bytes items
    go None front lower = absurd (none-some items (sym (items-no_comma item n later bytes front) ∙ is))
    go (Some behind) front lower = inner behind (item behind) front refl (sym (items-suc item n later bytes behind front) ∙ is) lower

-- ---- the iterations of the loop

-- the items that were read so far, followed by those that are read next
abbrev pub with_items : {A : Type 0} → List A → Option (List A) → Option (List A)
with_items front found = option_map (λ others. front ++ others) found

with_items-more : {A : Type 0} (front : List A) (a : A) (found : Option (List A)) → with_items (front ++ a ∷ []) found ≡ with_items front (option_map {U = List A} (λ others. a ∷ others) found)
with_items-more front a None = refl
with_items-more front a (Some others) = ap Some (append_assoc front (a ∷ []) others)

left-suc : (n k : ℕ) → k < n → n - k ≡ suc (n - (k + 1))
left-suc n k less = omega arith

pub items-no_place : {A : Type 0} (item : List ℕ → Option (A × List ℕ)) (front : List A) (n k : ℕ) (rest : List ℕ) (all : Option (List A))
    → with_items front (items_from item (n - k) (nat_lt 0 k) rest) ≡ all → k < n → None ≡ after_front (comma_if (nat_lt 0 k)) rest → all ≡ None
items-no_place item front n k rest all so_far less none =
    sym so_far ∙ ap (λ m. with_items front (items_from item m (nat_lt 0 k) rest)) (left-suc n k less)
    ∙ ap (with_items front) (items-no_comma item (n - (k + 1)) (nat_lt 0 k) rest (sym none))

pub items-failed : {A : Type 0} (item : List ℕ → Option (A × List ℕ)) (front : List A) (n k : ℕ) (rest place : List ℕ) (all : Option (List A))
    → with_items front (items_from item (n - k) (nat_lt 0 k) rest) ≡ all → k < n → Some place ≡ after_front (comma_if (nat_lt 0 k)) rest → item place ≡ None → all ≡ None
items-failed item front n k rest place all so_far less begins none =
    sym so_far ∙ ap (λ m. with_items front (items_from item m (nat_lt 0 k) rest)) (left-suc n k less)
    ∙ ap (with_items front) (items-suc item (n - (k + 1)) (nat_lt 0 k) rest place (sym begins) ∙ ap (items_after item (n - (k + 1))) none ∙ after_front-none item (n - (k + 1)))

pub items-step : {A : Type 0} (item : List ℕ → Option (A × List ℕ)) (front new : List A) (n k : ℕ) (rest place behind : List ℕ) (a : A) (all : Option (List A))
    → with_items front (items_from item (n - k) (nat_lt 0 k) rest) ≡ all → k < n → Some place ≡ after_front (comma_if (nat_lt 0 k)) rest → item place ≡ Some (a, behind) → new ≡ front ++ a ∷ []
    → with_items new (items_from item (n - (k + 1)) (nat_lt 0 (k + 1)) behind) ≡ all
items-step {A} item front new n k rest place behind a all so_far less begins first pushed =
    let later : nat_lt 0 (k + 1) ≡ true = lt-ltb 0 (k + 1) (omega arith) in
    let others = items_from item (n - (k + 1)) true behind in
    ap (λ l. with_items l (items_from item (n - (k + 1)) (nat_lt 0 (k + 1)) behind)) pushed
    ∙ ap (λ b. with_items (front ++ a ∷ []) (items_from item (n - (k + 1)) b behind)) later ∙ with_items-more front a others
    ∙ ap (with_items front) (sym (items-suc item (n - (k + 1)) (nat_lt 0 k) rest place (sym begins) ∙ ap (items_after item (n - (k + 1))) first ∙ after_front-some item (n - (k + 1)) (a, behind)))
    ∙ ap (λ m. with_items front (items_from item m (nat_lt 0 k) rest)) (sym (left-suc n k less)) ∙ so_far

pub items-end : {A : Type 0} (item : List ℕ → Option (A × List ℕ)) (front : List A) (n k : ℕ) (later b : Bool) (rest : List ℕ) (all : Option (List A))
    → with_items front (items_from item (n - k) later rest) ≡ all → n ≤ k → b ≡ bytes_eq rest (93 ∷ 125 ∷ []) → all ≡ cond b (Some front) None
items-end {A} item front n k later b rest all so_far past test =
    let none : n - k ≡ 0 = omega arith in
    sym so_far ∙ ap (λ m. with_items front (items_from item m later rest)) none ∙ ap (with_items front) (items-zero item later rest ∙ ap (λ t. cond t (Some []) None) (sym test)) ∙ go b
  where
    go : (t : Bool) → with_items front (cond {A = Option (List A)} t (Some []) None) ≡ cond t (Some front) None
    go true = ap Some (append-nil front)
    go false = refl
