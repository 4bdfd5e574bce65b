-- Reading a body from its tokens: what was read so far, and what the rest gives.
use Rattle.std.proofs.Common.{◌≡◌, ℕ, zero, suc, ◌-◌, ◌<◌, ◌≤◌, length, get_or, List, [], ◌∷◌, ◌++◌, map, append_assoc, Bool, true, false, ◌&&◌, Option, Some, None, option_map, option_and_then, IsSome, Less, Greater, refl, sym, ap, ◌∙◌, subst, arith, true≢false, append-nil}
use Rattle.std.specs.Ordering.{nat_cmp, match_ordering, ordering_reverse}
use Rattle.std.specs.Cmp.Lexicographic.{slice_cmp}
use Rattle.std.specs.List.{AllByRecursion, AllZip, list_all}
use Rattle.std.proofs.lemmas.List.{map-append}
use Rattle.std.specs.List.Sorted.{IsStrictlySortedBy}
use Rattle.std.specs.Str.{IsUtf8, is_utf8, bytes_eq}
use Rattle.std.proofs.lemmas.Cmp.{nat_list_cmp_total}
use Rattle.std.proofs.lemmas.Slice.Eq.{bytes_eq-Decides}
use Rattle.std.proofs.lemmas.Str.{is_utf8-from_IsUtf8}
use Rattle.json.specs.Token.{Token}
use Rattle.json.specs.Lex.{tokens}
use Rattle.json.specs.Json as json
use Rattle.json.specs.Json.{document}
use Rattle.json.specs.Find.{InItems, InMembers, NextItem}
use Rattle.json.specs.Find as found
use Rattle.json.specs.Tree.{depth, items_depth, json_tokens, members_depth}
use Rattle.json.proofs.Printed.Trees.{value-json_tokens}
use Rattle.json.proofs.Unique.Spelling.{tokens-document}
use Rattle.serde_json.specs.Data.{Data, Items, no_items, item, Members, no_members, member, string, object, array, put}
use Rattle.serde_json.specs.Find.{get_member}
use Rattle.serde_json.specs.Read.{of_json, of_items, of_members, read}
use Rattle.serde_json.proofs.Views.{get_member-put, get_member-put_other}
use Rattle.item_fields.specs.declared.fields.Kind.{Kind}
use Rattle.item_fields.specs.declared.item.RawItem.{RawItem}
use Rattle.item_fields.specs.Names.{NamesRise, names_of_fields}
use Rattle.upload_format.specs.Bodies.{is_list_name, items_under, list_name, list_of, member_names, raw_item, raw_item_of, text_members, upload_items, value_of}
use Rattle.upload_format.specs.Ordered.{AddsList, AreFields, AreListed, AreLists, AreUnder, AreValues, IsItem, IsListAt, IsListOf, IsReadAs, list_under, list_with, members_with_texts}
use Rattle.upload_format.specs.declared.ordered.ItemValue.{ItemValue}
use Rattle.upload_format.specs.declared.ordered.Lists.{Lists}
use Rattle.item_fields.specs.Items.{ready}
use Rattle.lei_records.specs.declared.item.Readied.{Readied}
use Rattle.lei_records.specs.declared.rules.Rules.{Rules}

-- ---- fields

-- A name that is less than all names of these fields is less than the last one.
last_name : (own : List ℕ) (fields : List (List ℕ × List ℕ)) (name text : List ℕ)
    → AllByRecursion (λ k. slice_cmp nat_cmp own k ≡ Less) (names_of_fields (fields ++ (name, text) ∷ [])) → slice_cmp nat_cmp own name ≡ Less
last_name own [] name text all = all.0
last_name own (field ∷ fields) name text all = last_name own fields name text all.1

pub put_behind : (fields : List (List ℕ × List ℕ)) (name text : List ℕ) → NamesRise (fields ++ (name, text) ∷ [])
    → put name (string text) (members_with_texts fields) ≡ members_with_texts (fields ++ (name, text) ∷ [])
unfolding IsStrictlySortedBy
put_behind [] name text rising = refl
put_behind (field ∷ fields) name text rising =
    let behind : slice_cmp nat_cmp field.0 name ≡ Less =
    last_name field.0 fields name text rising.0 in
    let before : slice_cmp nat_cmp name field.0 ≡ Greater = nat_list_cmp_total.antisymm name field.0 ∙ ap ordering_reverse behind in
    rw before (ap (member field.0 (string field.1)) (put_behind fields name text rising.1))

-- What was read of an item so far, and what its other members give.
pub record FieldsSoFar (ms : json.Members) (left : List Token) (fields : List (List ℕ × List ℕ)) : Type 0 where
  pub rest : json.Members
  pub at : InMembers left rest
  pub value : of_members ms no_members ≡ of_members rest (members_with_texts fields)
  pub flat : members_depth rest ≤ 0 → members_depth ms ≤ 0

is_string : (j : json.Json) (text : List ℕ) → Some text ≡ found.as_str j → j ≡ json.string text
is_string json.null text is = cc
is_string (json.boolean b) text is = cc
is_string (json.number s) text is = cc
is_string (json.string s) text is = cc
is_string (json.array js) text is = cc
is_string (json.object ms) text is = cc

-- one more field
pub fields_more : (ms : json.Members) (left new : List Token) (fields : List (List ℕ × List ℕ)) (name text : List ℕ) (j : json.Json) (rest : json.Members)
    → (so : FieldsSoFar ms left fields) → so.rest ≡ json.member name j rest → Some text ≡ found.as_str j → InMembers new rest
    → NamesRise (fields ++ (name, text) ∷ []) → FieldsSoFar ms new (fields ++ (name, text) ∷ [])
fields_more ms left new fields name text j rest so is is_text at rising =
    let here : so.rest ≡ json.member name (json.string text) rest = is ∙ ap (λ v. json.member name v rest) (is_string j text is_text) in
    record {
      rest = rest;
      at = at;
      value = so.value ∙ ap (λ r. of_members r (members_with_texts fields)) here ∙ ap (of_members rest) (put_behind fields name text rising);
      flat = λ flat. so.flat (rw here (omega (arith, flat)));
    }

-- the end of an item
pub fields_end : (ms : json.Members) (left : List Token) (fields : List (List ℕ × List ℕ)) → (so : FieldsSoFar ms left fields)
    → so.rest ≡ json.no_members → AreFields ms fields
fields_end ms left fields so is = record {
  value = so.value ∙ ap (λ r. of_members r (members_with_texts fields)) is;
  flat = so.flat (rw is (omega arith));
}

-- ---- items

text_members-texts_of : (fields : List (List ℕ × List ℕ)) → text_members (members_with_texts fields) ≡ Some fields
text_members-texts_of [] = refl
text_members-texts_of (field ∷ fields) = rw (text_members-texts_of fields) refl

-- The values of the array are these items of a kind. Each of them is an object of texts.
pub record AreItems (kind : Kind) (js : json.Items) (raws : List RawItem) : Type 0 where
  pub values : Items
  pub value : of_items js ≡ Some values
  pub listed : list_of kind values ≡ Some raws
  pub flat : items_depth js ≤ 1

-- the item of an object that has these fields
pub item_of : (kind : Kind) (j : json.Json) (ms : json.Members) (fields : List (List ℕ × List ℕ)) → j ≡ json.object ms → AreFields ms fields
    → IsItem kind j (raw_item kind fields)
item_of kind j ms fields is are = record {
  value = object (members_with_texts fields);
  is = ap of_json is ∙ ap (option_map object) are.value;
  read = rw (text_members-texts_of fields) refl;
  flat = rw is (omega (arith, are.flat));
}

-- the items of an array's values
pub items_read : (rules : Rules) (kind : Kind) (js : json.Items) (values : List ItemValue) (items : List Readied) → AreValues kind js values
    → AllZip (IsReadAs rules) values items → (raws : List RawItem) × AreItems kind js raws × (items ≡ map (ready rules) raws)
items_read rules kind json.no_items [] [] at read = ([], record { values = no_items; value = refl; listed = refl; flat = omega arith }, refl)
items_read rules kind json.no_items [] (x ∷ items) at read = absurd read
items_read rules kind json.no_items (value ∷ values) items at read = absurd at
items_read rules kind (json.item j js) [] items at read = absurd at
items_read rules kind (json.item j js) (value ∷ values) [] at read = absurd read
items_read rules kind (json.item j js) (value ∷ values) (x ∷ items) at read =
    let first = read.0 j at.1 in
    let rest = items_read rules kind js values items at.2 read.1 in
    let own : raw_item_of kind first.1.value ≡ Some first.0 = subst (λ k. raw_item_of k first.1.value ≡ Some first.0) at.0 first.1.read in (
      first.0 ∷ rest.0,
      record {
        values = item first.1.value rest.1.values;
        value = rw (first.1.is, rest.1.value) refl;
        listed = rw (own, rest.1.listed) refl;
        flat = omega (arith, first.1.flat, rest.1.flat);
      },
      ap (λ x. x ∷ items) first.2 ∙ ap (λ xs. ready rules first.0 ∷ xs) rest.2,
    )

-- ---- the values in a list

-- what was taken from the list so far, and what its other values give
pub record ValuesSoFar (kind : Kind) (start left : List Token) (old values : List ItemValue) : Type 0 where
  pub more : List ItemValue
  pub added : values ≡ old ++ more
  pub under : (js : json.Items) → InItems start js
      → (rest : json.Items) × InItems left rest × ((others : List ItemValue) → AreValues kind rest others → AreValues kind js (more ++ others))

pub values_begin : (kind : Kind) (start : List Token) (old : List ItemValue) → ValuesSoFar kind start start old old
values_begin kind start old = record {
  more = [];
  added = sym (append-nil old);
  under = λ js at. (js, at, λ others are. are);
}

-- one more value
pub values_more : (kind : Kind) (start left new : List Token) (old values : List ItemValue) (value : ItemValue) → value.kind ≡ kind
    → NextItem left (Some value.value) new → ValuesSoFar kind start left old values → ValuesSoFar kind start new old (values ++ value ∷ [])
values_more kind start left new old values value own next so = record {
  more = so.more ++ value ∷ [];
  added = ap (λ vs. vs ++ value ∷ []) so.added ∙ append_assoc old so.more (value ∷ []);
  under = λ js at.
      (let here = so.under js at in
      let found = next here.0 here.1 in (
        found.1,
        found.4,
        λ others are.
            (let with : AreValues kind here.0 (value ∷ others) = subst (λ rest. AreValues kind rest (value ∷ others)) (sym found.2) (own, found.3, are) in
            subst (AreValues kind js) (sym (append_assoc so.more (value ∷ []) others)) (here.2 (value ∷ others) with)),
      ));
}

pub values_end : (kind : Kind) (start left new : List Token) (old values : List ItemValue) → NextItem left None new → ValuesSoFar kind start left old values
    → AddsList kind (Some start) old values
values_end kind start left new old values next so = record {
  more = so.more;
  added = so.added;
  under = λ js at.
      (let here = so.under js at in
      let none : AreValues kind here.0 [] = subst (λ rest. AreValues kind rest []) (sym (next here.0 here.1)) tt in
      subst (AreValues kind js) (append-nil so.more) (here.2 [] none));
}

-- an absent list has no values
pub nothing_added : (kind : Kind) (values : List ItemValue) → AddsList kind None values values
nothing_added kind values = record { more = []; added = sym (append-nil values); under = refl }

-- the values of the three lists
pub values_listed : (found : Kind → Option (List Token)) (none first second all : List ItemValue) → none ≡ [] → AddsList Kind.Record (found Kind.Record) none first
    → AddsList Kind.Relation (found Kind.Relation) first second → AddsList Kind.Exception (found Kind.Exception) second all → AreListed found all
values_listed found none first second all is records relations exceptions = record {
  records = records.more;
  relations = relations.more;
  exceptions = exceptions.more;
  joined = exceptions.added
      ∙ ap (λ vs. vs ++ exceptions.more) (relations.added ∙ ap (λ vs. vs ++ relations.more) (records.added ∙ ap (λ vs. vs ++ records.more) is));
  records_are = records.under;
  relations_are = relations.under;
  exceptions_are = exceptions.under;
}

-- ---- lists

known_behind : (first : Bool) (test : List ℕ → Bool) (name : List ℕ) (d : Data) (ms : Members) → (first && list_all test (member_names ms)) ≡ true
    → (list_all test (member_names ms) ≡ true → list_all test (member_names (put name d ms)) ≡ true)
    → (first && list_all test (member_names (put name d ms))) ≡ true
known_behind true test name d ms all rest = rest all
known_behind false test name d ms all rest = all

known_more : (test : List ℕ → Bool) (name : List ℕ) (d : Data) (ms : Members) → test name ≡ true → list_all test (member_names ms) ≡ true
    → list_all test (member_names (put name d ms)) ≡ true
known_more test name d no_members first all = rw first refl
known_more test name d (member other e ms) first all =
    elim (slice_cmp nat_cmp name other) as (λ o. list_all test (member_names (match_ordering o (member name d (member other e ms)) (member other d ms) (member other e (put name d ms)))) ≡ true) [
      | Rattle.std.specs.declared.cmp.Ordering.TheVariants.Less ↦ rw first all
      | Rattle.std.specs.declared.cmp.Ordering.TheVariants.Equal ↦ all
      | Rattle.std.specs.declared.cmp.Ordering.TheVariants.Greater ↦ known_behind (test other) test name d ms all (known_more test name d ms first)
    ]

is_known : (kind : Kind) → is_list_name (list_name kind) ≡ true
is_known Kind.Record = refl
is_known Kind.Relation = refl
is_known Kind.Exception = refl

apart : (x y : List ℕ) → bytes_eq x y ≡ false → x ≡ y → ⊥
apart x y differ is = true≢false (sym ((bytes_eq-Decides x y).1 is) ∙ differ)

-- the same kind or another one, and what `list_with` gives for it
by_kinds : (P : Kind → Kind → Type 0) → ((kind : Kind) → P kind kind)
    → ((own kind : Kind) → (list_name own ≡ list_name kind → ⊥) → ((X : Type 0) (new old : X) → list_with own kind new old ≡ old) → P own kind)
    → (own kind : Kind) → P own kind
by_kinds P same other Kind.Record Kind.Record = same Kind.Record
by_kinds P same other Kind.Relation Kind.Relation = same Kind.Relation
by_kinds P same other Kind.Exception Kind.Exception = same Kind.Exception
by_kinds P same other Kind.Record Kind.Relation = other Kind.Record Kind.Relation (apart _ _ refl) (λ X new old. refl)
by_kinds P same other Kind.Record Kind.Exception = other Kind.Record Kind.Exception (apart _ _ refl) (λ X new old. refl)
by_kinds P same other Kind.Relation Kind.Record = other Kind.Relation Kind.Record (apart _ _ refl) (λ X new old. refl)
by_kinds P same other Kind.Relation Kind.Exception = other Kind.Relation Kind.Exception (apart _ _ refl) (λ X new old. refl)
by_kinds P same other Kind.Exception Kind.Record = other Kind.Exception Kind.Record (apart _ _ refl) (λ X new old. refl)
by_kinds P same other Kind.Exception Kind.Relation = other Kind.Exception Kind.Relation (apart _ _ refl) (λ X new old. refl)

with_same : {X : Type 0} (kind : Kind) (new old : X) → list_with kind kind new old ≡ new
with_same Kind.Record new old = refl
with_same Kind.Relation new old = refl
with_same Kind.Exception new old = refl

-- the value of the members so far, and what the other members give
pub record HasSoFar (ms rest : json.Members) (lists : Kind → Option Items) : Type 0 where
  pub values : Members
  pub value : of_members ms no_members ≡ of_members rest values
  pub known : list_all is_list_name (member_names values) ≡ true
  pub listed : (kind : Kind) → get_member (list_name kind) values ≡ option_map array (lists kind)
  pub flat : members_depth rest ≤ 2 → members_depth ms ≤ 2

pub record ListsSoFar (ms : json.Members) (left : List Token) (found : Kind → Option (List Token)) : Type 0 where
  pub rest : json.Members
  pub at : InMembers left rest
  pub lists : Kind → Option json.Items
  pub lists_at : (kind : Kind) → IsListAt (found kind) (lists kind)
  pub has : (values : Kind → Option Items) → ((kind : Kind) → IsListOf (lists kind) (values kind)) → HasSoFar ms rest values

-- no lists yet
pub no_lists : (lists : Lists) → lists.records ≡ None → lists.relationships ≡ None → lists.exceptions ≡ None → (kind : Kind) → list_under lists kind ≡ None
no_lists lists records relations exceptions Kind.Record = records
no_lists lists records relations exceptions Kind.Relation = relations
no_lists lists records relations exceptions Kind.Exception = exceptions

no_values : (values : Option Items) → IsListOf None values → values ≡ None
no_values None are = refl
no_values (Some values) are = absurd are

pub lists_begin : (ms : json.Members) (left : List Token) (found : Kind → Option (List Token)) → ((kind : Kind) → found kind ≡ None) → InMembers left ms
    → ListsSoFar ms left found
lists_begin ms left found none at = record {
  rest = ms;
  at = at;
  lists = λ kind. None;
  lists_at = λ kind. rw (none kind) tt;
  has = λ values are. record {
    values = no_members;
    value = refl;
    known = refl;
    listed = λ kind. rw (no_values (values kind) (are kind)) refl;
    flat = λ flat. flat;
  };
}

-- a list that is new was absent so far
not_yet : (list : Option json.Items) → IsListAt None list → list ≡ None
not_yet None at = refl
not_yet (Some js) at = absurd at

-- the values of a list that is there
some_values : (js : json.Items) (values : Option Items) → IsListOf (Some js) values
    → (found : Items) × (values ≡ Some found) × (of_items js ≡ Some found) × (items_depth js ≤ 1)
some_values js None are = absurd are
some_values js (Some values) are = (values, refl, are.0, are.1)

module _ (kind : Kind) (found : Kind → Option (List Token)) (lists : Kind → Option json.Items) (tokens : List Token) (js : json.Items) where
  -- the lists with one more are at their tokens
  at_more : InItems tokens js → ((own : Kind) → IsListAt (found own) (lists own)) → (own : Kind)
      → IsListAt (list_with own kind (Some tokens) (found own)) (list_with own kind (Some js) (lists own))
  at_more at all own =
      by_kinds (λ own kind. InItems tokens js → IsListAt (list_with own kind (Some tokens) (found own)) (list_with own kind (Some js) (lists own)))
      (λ kind at. rw (with_same kind (Some tokens) (found kind), with_same kind (Some js) (lists kind)) at)
      (λ own kind differ old at. rw (old _ (Some tokens) (found own), old _ (Some js) (lists own)) (all own)) own kind at

module _ (lists : Kind → Option json.Items) (values : Kind → Option Items) (js : json.Items) where
  -- the values without those of the new list
  values_before : (kind : Kind) → lists kind ≡ None → (own : Kind) → IsListOf (list_with own kind (Some js) (lists own)) (values own)
      → IsListOf (lists own) (list_with own kind None (values own))
  values_before kind none own =
      by_kinds (λ own kind. lists kind ≡ None → IsListOf (list_with own kind (Some js) (lists own)) (values own) → IsListOf (lists own) (list_with own kind None (values own)))
      (λ kind none are. rw (with_same kind None (values kind), none) tt)
      (λ own kind differ old none are. rw (old _ None (values own)) (subst (λ list. IsListOf list (values own)) (old _ (Some js) (lists own)) are)) own kind none

-- the values of the lists after one more was put
listed_more : (before : Members) (values : Kind → Option Items) (read : Items) (own kind : Kind) → values kind ≡ Some read
    → get_member (list_name own) before ≡ option_map array (list_with own kind None (values own))
    → get_member (list_name own) (put (list_name kind) (array read) before) ≡ option_map array (values own)
listed_more before values read = by_kinds
    (λ own kind. values kind ≡ Some read → get_member (list_name own) before ≡ option_map array (list_with own kind None (values own))
    → get_member (list_name own) (put (list_name kind) (array read) before) ≡ option_map array (values own))
    (λ kind is was. get_member-put (list_name kind) (array read) before ∙ sym (ap (option_map array) is))
    (λ own kind differ old is was. get_member-put_other (list_name own) (list_name kind) (array read) before differ ∙ was ∙ ap (option_map array) (old _ None (values own)))

-- one more list
pub lists_more : (ms : json.Members) (left new tokens : List Token) (found made : Kind → Option (List Token)) (kind : Kind) (name : List ℕ)
    (js : json.Items) (j : json.Json) (rest : json.Members) → (so : ListsSoFar ms left found) → so.rest ≡ json.member name j rest → j ≡ json.array js
    → InMembers new rest → name ≡ list_name kind → InItems tokens js → found kind ≡ None
    → ((own : Kind) → made own ≡ list_with own kind (Some tokens) (found own)) → ListsSoFar ms new made
lists_more ms left new tokens found made kind name js j rest so is is_array at named at_js first more =
    let here : so.rest ≡ json.member (list_name kind) (json.array js) rest =
    is ∙ ap (λ v. json.member name v rest) is_array ∙ ap (λ n. json.member n (json.array js) rest) named in
    let none : so.lists kind ≡ None = not_yet (so.lists kind) (subst (λ f. IsListAt f (so.lists kind)) first (so.lists_at kind)) in
    record {
      rest = rest;
      at = at;
      lists = λ own. list_with own kind (Some js) (so.lists own);
      lists_at = λ own. rw (more own) (at_more kind found so.lists tokens js at_js so.lists_at own);
      has = λ values are.
          (let own : IsListOf (Some js) (values kind) = subst (λ list. IsListOf list (values kind)) (with_same kind (Some js) (so.lists kind)) (are kind) in
          let read = some_values js (values kind) own in
          let before = so.has (λ own. list_with own kind None (values own)) (λ own. values_before so.lists values js kind none own (are own)) in
          let told : of_json (json.array js) ≡ Some (array read.0) = ap (option_map array) read.2 in
          record {
            values = put (list_name kind) (array read.0) before.values;
            value = before.value ∙ ap (λ r. of_members r before.values) here ∙ (rw told refl);
            known = known_more is_list_name (list_name kind) (array read.0) before.values (is_known kind) before.known;
            listed = λ own. listed_more before.values values read.0 own kind read.1 (before.listed own);
            flat = λ flat. before.flat (rw here (omega (arith, flat, read.3)));
          });
    }

pub lists_end : (ms : json.Members) (left : List Token) (found : Kind → Option (List Token)) → (so : ListsSoFar ms left found)
    → so.rest ≡ json.no_members → AreLists ms found
lists_end ms left found so is = record {
  lists = so.lists;
  at = so.lists_at;
  has = λ values are.
      (let all = so.has values are in
      record {
        values = all.values;
        value = all.value ∙ ap (λ r. of_members r all.values) is;
        known = all.known;
        listed = all.listed;
        flat = all.flat (rw is (omega arith));
      });
}

-- ---- the body

read-document : (text : List ℕ) (j : json.Json) → document text ≡ Some j → depth j ≤ 127 → read text ≡ of_json j
read-document text j is shallow =
    let all : tokens text ≡ json_tokens j ++ [] = tokens-document text j is ∙ sym (append-nil (json_tokens j)) in
    ap (λ o. option_and_then of_json (option_and_then (λ p. json.if_last p.0 p.1) o))
    (ap (json.value 127) all ∙ value-json_tokens j 127 [] shallow)

-- ---- the lists of a body

split_zip : {A B : Type 0} (R : A → B → Type 0) (xs ys : List A) (zs : List B) → AllZip R (xs ++ ys) zs
    → (us : List B) × (vs : List B) × (zs ≡ us ++ vs) × AllZip R xs us × AllZip R ys vs
split_zip R [] ys zs all = ([], zs, refl, tt, all)
split_zip R (x ∷ xs) ys [] all = absurd all
split_zip R (x ∷ xs) ys (z ∷ zs) all =
    let rest = split_zip R xs ys zs all.1 in
    (z ∷ rest.0, rest.1, ap (λ l. z ∷ l) rest.2, (all.0, rest.3), rest.4)

-- a list whose items were read
record ListRead (rules : Rules) (kind : Kind) (list : Option json.Items) (items : List Readied) : Type 0 where
  pub raws : List RawItem
  pub values : Option Items
  pub values_are : IsListOf list values
  pub listed : items_under kind (option_map array values) ≡ Some raws
  pub items_are : items ≡ map (ready rules) raws

none_read : (rules : Rules) (items : List Readied) → AllZip (IsReadAs rules) [] items → items ≡ []
none_read rules [] read = refl
none_read rules (x ∷ items) read = absurd read

list_read : (rules : Rules) (kind : Kind) (found : Option (List Token)) (list : Option json.Items) (values : List ItemValue) (items : List Readied)
    → IsListAt found list → AreUnder kind found values → AllZip (IsReadAs rules) values items → ListRead rules kind list items
list_read rules kind None None values items at under read = record {
  raws = [];
  values = None;
  values_are = tt;
  listed = refl;
  items_are = none_read rules items (subst (λ vs. AllZip (IsReadAs rules) vs items) under read);
}
list_read rules kind None (Some js) values items at under read = absurd at
list_read rules kind (Some tokens) None values items at under read = absurd at
list_read rules kind (Some tokens) (Some js) values items at under read =
    let all = items_read rules kind js values items (under js at) read in
    record {
      raws = all.0;
      values = Some all.1.values;
      values_are = (all.1.value, all.1.flat);
      listed = all.1.listed;
      items_are = all.2;
    }

abbrev of_kind : {X : Type 0} → X → X → X → Kind → X
of_kind records relations exceptions Kind.Record = records
of_kind records relations exceptions Kind.Relation = relations
of_kind records relations exceptions Kind.Exception = exceptions

of_kind-are : (lists : Kind → Option json.Items) (records relations exceptions : Option Items) → IsListOf (lists Kind.Record) records → IsListOf (lists Kind.Relation) relations
    → IsListOf (lists Kind.Exception) exceptions → (kind : Kind) → IsListOf (lists kind) (of_kind records relations exceptions kind)
of_kind-are lists records relations exceptions first second third Kind.Record = first
of_kind-are lists records relations exceptions first second third Kind.Relation = second
of_kind-are lists records relations exceptions first second third Kind.Exception = third

-- the items of three lists that were read, after the checks of their fields
lists_ready : (rules : Rules) (text : List ℕ) (ms : json.Members) (found : Kind → Option (List Token)) (first second third : List Readied)
    → IsUtf8 text → document text ≡ Some (json.object ms) → (are : AreLists ms found) → ListRead rules Kind.Record (are.lists Kind.Record) first
    → ListRead rules Kind.Relation (are.lists Kind.Relation) second → ListRead rules Kind.Exception (are.lists Kind.Exception) third
    → option_map (map (ready rules)) (option_and_then upload_items (value_of text)) ≡ Some ((first ++ second) ++ third)
unfolding value_of
lists_ready rules text ms found first second third utf8 is are records relations exceptions =
    let has = are.has (of_kind records.values relations.values exceptions.values)
    (of_kind-are are.lists records.values relations.values exceptions.values records.values_are relations.values_are exceptions.values_are) in
    let shallow : depth (json.object ms) ≤ 127 = omega (arith, has.flat) in
    rw (
      is_utf8-from_IsUtf8 text utf8,
      read-document text (json.object ms) is shallow,
      has.value,
      has.known,
      ap (items_under Kind.Record) (has.listed Kind.Record) ∙ records.listed,
      ap (items_under Kind.Relation) (has.listed Kind.Relation) ∙ relations.listed,
      ap (items_under Kind.Exception) (has.listed Kind.Exception) ∙ exceptions.listed,
      records.items_are,
      relations.items_are,
      exceptions.items_are,
      map-append (ready rules) (records.raws ++ relations.raws) exceptions.raws,
      map-append (ready rules) records.raws relations.raws,
    ) refl

-- the items of a body after the checks of their fields
pub items-ready : (rules : Rules) (text : List ℕ) (ms : json.Members) (found : Kind → Option (List Token)) (values : List ItemValue) (items : List Readied)
    → IsUtf8 text → document text ≡ Some (json.object ms) → AreLists ms found → AreListed found values → AllZip (IsReadAs rules) values items
    → option_map (map (ready rules)) (option_and_then upload_items (value_of text)) ≡ Some items
items-ready rules text ms found values items utf8 is are listed all =
    let halves = split_zip (IsReadAs rules) (listed.records ++ listed.relations) listed.exceptions items
    (subst (λ vs. AllZip (IsReadAs rules) vs items) listed.joined all) in
    let front = split_zip (IsReadAs rules) listed.records listed.relations halves.0 halves.3 in
    lists_ready rules text ms found front.0 front.1 halves.1 utf8 is are
    (list_read rules Kind.Record (found Kind.Record) (are.lists Kind.Record) listed.records front.0 (are.at Kind.Record) listed.records_are front.3)
    (list_read rules Kind.Relation (found Kind.Relation) (are.lists Kind.Relation) listed.relations front.1 (are.at Kind.Relation) listed.relations_are front.4)
    (list_read rules Kind.Exception (found Kind.Exception) (are.lists Kind.Exception) listed.exceptions halves.1 (are.at Kind.Exception) listed.exceptions_are halves.4)
    ∙ sym (ap Some (halves.2 ∙ ap (λ front. front ++ halves.1) front.2))

-- ---- what calls return

pub some_of : {X : Type 0} (o : Option X) → IsSome o → (x : X) × (o ≡ Some x)
some_of None is = cc
some_of (Some x) is = (x, refl)

-- ---- a name after those of the fields

pub rising_one : (fields : List (List ℕ × List ℕ)) (name text : List ℕ) → length fields ≡ 0 → NamesRise (fields ++ (name, text) ∷ [])
unfolding IsStrictlySortedBy
rising_one [] name text none = (tt, tt)
rising_one (field ∷ fields) name text none = (let never : ⊥ = omega (arith, none) in absurd never)

below_named : (own : List ℕ) (fields : List (List ℕ × List ℕ)) (name text : List ℕ)
    → AllByRecursion (λ k. slice_cmp nat_cmp own k ≡ Less) (names_of_fields fields) → slice_cmp nat_cmp own name ≡ Less
    → AllByRecursion (λ k. slice_cmp nat_cmp own k ≡ Less) (names_of_fields (fields ++ (name, text) ∷ []))
below_named own [] name text all last = (last, tt)
below_named own (field ∷ fields) name text all last = (all.0, below_named own fields name text all.1 last)

rising_at : (fields : List (List ℕ × List ℕ)) (name text : List ℕ) (i : ℕ) → NamesRise fields → length fields ≡ suc i
    → slice_cmp nat_cmp (get_or fields i ([], [])).0 name ≡ Less → NamesRise (fields ++ (name, text) ∷ [])
unfolding IsStrictlySortedBy
rising_at [] name text i rising count last = (let never : ⊥ = omega (arith, count) in absurd never)
rising_at (field ∷ []) name text zero rising count last = ((last, tt), (tt, tt))
rising_at (field ∷ []) name text (suc i) rising count last = (let never : ⊥ = omega (arith, count) in absurd never)
rising_at (field ∷ second ∷ fields) name text zero rising count last = (let never : ⊥ = omega (arith, count) in absurd never)
rising_at (field ∷ second ∷ fields) name text (suc i) rising count last =
    let rest = rising_at (second ∷ fields) name text i rising.1 (omega (arith, count)) last in
    let step : slice_cmp nat_cmp second.0 name ≡ Less = last_name second.0 fields name text rest.0 in
    let over : slice_cmp nat_cmp field.0 name ≡ Less = nat_list_cmp_total.trans field.0 second.0 name (rising.0).0 step in
    (((rising.0).0, below_named field.0 fields name text (rising.0).1 over), rest)

pub rising_push : (fields : List (List ℕ × List ℕ)) (name text : List ℕ) → NamesRise fields → 0 < length fields
    → slice_cmp nat_cmp (get_or fields (length fields - 1) ([], [])).0 name ≡ Less → NamesRise (fields ++ (name, text) ∷ [])
rising_push fields name text rising some last = rising_at fields name text (length fields - 1) rising (omega (arith, some)) last
