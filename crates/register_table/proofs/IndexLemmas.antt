-- Indexes after something was noted.
use Rattle.std.specs.Prelude.{◌≡◌, ℕ, Bool, true, false, ◌&&◌, cond, List, Option, Some, None, OnErr, OnOk, Result, Ok, Err, is_some, option_and_then}
use Rattle.std.specs.BTreeMap.{BTreeMap, IsEmpty, Updates, UpdatesBy, get, get_by_text}
use Rattle.std.specs.Borrow.{Bor}
use Rattle.std.specs.Cmp.{tied_then}
use Rattle.std.specs.Cmp.Lexicographic.{slice_cmp}
use Rattle.std.specs.Ordering.{is_eq, nat_cmp, ordering_then}
use Rattle.std.specs.Str.{bytes_eq}
use Rattle.std.specs.declared.string.String.{String}
use Rattle.std.specs.String.{string_bytes, string_cmp}
use Rattle.std.specs.declared.cmp.Ordering.{Ordering}
use Rattle.std.proofs.Common.{refl, rules, sym, subst, ap, ◌∙◌}
use Rattle.std.proofs.lemmas.Map.Text.{btree_map_updates_text, is_eq-slice_cmp}
use Rattle.lei_shapes.specs.declared.lists.RelationType.{RelationType}
use Rattle.lei_shapes.specs.Lists.{relation_type_text}
use Rattle.lei_records.specs.Cells.{holds, lei_in}
use Rattle.lei_records.specs.Relations.{end_in, is_active, is_active_of, is_same_type, kind_in, start_in}
use Rattle.lei_records.specs.Rows.{Row}
use Rattle.authority_rules.proofs.HolderLemmas.{both_true, bytes_itself, bytes_same, some_apart}
use Rattle.register_table.specs.Indexes.{after_dropping, after_freeing, end_under}

alike : {X : Type 0} (b : Bool) (o : X) → cond b o o ≡ o
alike true o = refl
alike false o = refl

-- ---- by authority and id

pub text_at-empty : {Y X : Type 0} (map : BTreeMap (String Y) X) → IsEmpty map → (q : List ℕ) → get_by_text map q ≡ None
text_at-empty map none q = search (rules, none)

module _ {Y X : Type 0} where
  -- under the same text
  pub text_at-update : (old new : BTreeMap (String Y) X) (text own : List ℕ) (x : Option X) → text ≡ own
      → UpdatesBy string_cmp (λ k. slice_cmp nat_cmp text (string_bytes k)) old new x
      → (q : List ℕ) → get_by_text new q ≡ cond (bytes_eq own q) x (get_by_text old q)
  text_at-update old new text own x same updates q =
      btree_map_updates_text text old new x updates q ∙ ap (λ t. cond (bytes_eq t q) x (get_by_text old q)) same

abbrev pub Ids : Type 0 → Type 0
Ids Y = BTreeMap (String Y) (Option (List ℕ))

abbrev pub lei_under : {Y Z : Type 0} → BTreeMap (String Z) (Ids Y) → List ℕ → List ℕ → Option (Option (List ℕ))
lei_under map a i = option_and_then (λ ids. get_by_text ids i) (get_by_text map a)

module _ {Y Z : Type 0} where
  module _ (old new : BTreeMap (String Z) (Ids Y)) (authority : List ℕ) (was : Option (Ids Y)) (ids : Ids Y)
      (before : get_by_text old authority ≡ was)
      (updates : (a : List ℕ) → get_by_text new a ≡ cond (bytes_eq authority a) (Some ids) (get_by_text old a)) where
    -- what is under an id of an authority was changed
    pub lei_under-changed : (id : List ℕ) (change : Option (Option (List ℕ)) → Option (Option (List ℕ)))
        → ((i : List ℕ) → get_by_text ids i ≡ cond (bytes_eq id i) (change (option_and_then (λ ids. get_by_text ids i) was)) (option_and_then (λ ids. get_by_text ids i) was))
        → (a i : List ℕ) → lei_under new a i ≡ cond (bytes_eq authority a && bytes_eq id i) (change (lei_under old a i)) (lei_under old a i)
    lei_under-changed id change changed a i =
        ap (option_and_then (λ ids. get_by_text ids i)) (updates a)
        ∙ elim (bytes_eq authority a) as (λ b. bytes_eq authority a ≡ b
        → option_and_then (λ ids. get_by_text ids i) (cond b (Some ids) (get_by_text old a)) ≡ cond (b && bytes_eq id i) (change (lei_under old a i)) (lei_under old a i)) [
          | true ↦ λ t. changed i ∙ ap (λ o. cond (bytes_eq id i) (change (option_and_then (λ ids. get_by_text ids i) o)) (option_and_then (λ ids. get_by_text ids i) o))
              (sym before ∙ ap (get_by_text old) (bytes_same authority a t))
          | false ↦ λ _. refl
        ] refl

    -- nothing was changed
    pub lei_under-same : ((i : List ℕ) → get_by_text ids i ≡ option_and_then (λ ids. get_by_text ids i) was) → (a i : List ℕ) → lei_under new a i ≡ lei_under old a i
    lei_under-same same a i =
        ap (option_and_then (λ ids. get_by_text ids i)) (updates a)
        ∙ elim (bytes_eq authority a) as (λ b. bytes_eq authority a ≡ b → option_and_then (λ ids. get_by_text ids i) (cond b (Some ids) (get_by_text old a)) ≡ lei_under old a i) [
          | true ↦ λ t. same i ∙ ap (option_and_then (λ ids. get_by_text ids i)) (sym before ∙ ap (get_by_text old) (bytes_same authority a t))
          | false ↦ λ _. refl
        ] refl

    -- no id is left
    pub none_left : IsEmpty ids → (i : List ℕ) → lei_under new authority i ≡ None
    none_left empty i =
        ap (option_and_then (λ ids. get_by_text ids i)) (updates authority ∙ ap (λ b. cond b (Some ids) (get_by_text old authority)) (bytes_itself authority))
        ∙ text_at-empty ids empty i

  -- nothing is under an authority that isn't there
  pub none_there : (map : BTreeMap (String Z) (Ids Y)) (authority id : List ℕ) (change : Option (Option (List ℕ)) → Option (Option (List ℕ)))
      → get_by_text map authority ≡ None → change None ≡ None
      → (a i : List ℕ) → lei_under map a i ≡ cond (bytes_eq authority a && bytes_eq id i) (change (lei_under map a i)) (lei_under map a i)
  none_there map authority id change none still a i =
      elim (bytes_eq authority a) as (λ b. bytes_eq authority a ≡ b → lei_under map a i ≡ cond (b && bytes_eq id i) (change (lei_under map a i)) (lei_under map a i)) [
        | true ↦ λ t.
            let gone : lei_under map a i ≡ None = ap (option_and_then (λ ids. get_by_text ids i)) (ap (get_by_text map) (sym (bytes_same authority a t)) ∙ none) in
            subst (λ o. o ≡ cond (bytes_eq id i) (change o) o) (sym gone) (sym (ap (λ o. cond (bytes_eq id i) o None) still ∙ alike (bytes_eq id i) None))
        | false ↦ λ _. refl
      ] refl

  -- an authority without ids is removed
  pub same_without : (old new : BTreeMap (String Z) (Ids Y)) (authority : List ℕ) → ((i : List ℕ) → lei_under old authority i ≡ None)
      → ((a : List ℕ) → get_by_text new a ≡ cond (bytes_eq authority a) None (get_by_text old a)) → (a i : List ℕ) → lei_under new a i ≡ lei_under old a i
  same_without old new authority none updates a i =
      ap (option_and_then (λ ids. get_by_text ids i)) (updates a)
      ∙ elim (bytes_eq authority a) as (λ b. bytes_eq authority a ≡ b → option_and_then (λ ids. get_by_text ids i) (cond b None (get_by_text old a)) ≡ lei_under old a i) [
        | true ↦ λ t. sym (ap (λ q. lei_under old q i) (sym (bytes_same authority a t)) ∙ none i)
        | false ↦ λ _. refl
      ] refl

-- ---- what is under a key that is freed or dropped

abbrev pub Noted : Type 0
Noted = Option (Option (List ℕ))

abbrev pub one_in : Noted → Option (List ℕ)
one_in = option_and_then (λ noted. noted)

pub freed_there : (o : Noted) (x : Option (List ℕ)) → o ≡ Some x → after_freeing o ≡ Some None
freed_there o x is = ap after_freeing is

-- a key that the index has is freed
pub freed_when : (b : Bool) (o : Noted) (x : Option (List ℕ)) → (b ≡ true → o ≡ Some x) → cond b (Some None) o ≡ cond b (after_freeing o) o
freed_when true o x is = sym (freed_there o x (is refl))
freed_when false o x is = refl

pub dropped_none : (o : Noted) → one_in o ≡ None → after_dropping o ≡ None
dropped_none None is = refl
dropped_none (Some None) is = refl
dropped_none (Some (Some lei)) is = absurd (some_apart lei is)

-- a key without an LEI is dropped
pub dropped_when : (b : Bool) (o : Noted) → (b ≡ true → one_in o ≡ None) → cond b None o ≡ cond b (after_dropping o) o
dropped_when true o none = sym (dropped_none o (none refl))
dropped_when false o none = refl

pub dropped_some : (o : Noted) (lei : List ℕ) → one_in o ≡ Some lei → after_dropping o ≡ o
dropped_some None lei is = refl
dropped_some (Some None) lei is = absurd (some_apart lei (sym is))
dropped_some (Some (Some other)) lei is = refl

-- an LEI under the key is still there
pub dropped_one : (o : Noted) → one_in (after_dropping o) ≡ one_in o
dropped_one None = refl
dropped_one (Some None) = refl
dropped_one (Some (Some lei)) = refl

pub freed_one : (o : Noted) → one_in (after_freeing o) ≡ None
freed_one None = refl
freed_one (Some x) = refl

pub freed_stays : (o : Noted) → is_some o ≡ true → is_some (after_freeing o) ≡ true
freed_stays None is = is
freed_stays (Some x) is = refl

-- ---- the key that a record holds

one_of : (b : Bool) (lei : List ℕ) (o : Noted) → one_in (cond b (Some (Some lei)) o) ≡ cond b (Some lei) (one_in o)
one_of true lei o = refl
one_of false lei o = refl

abbrev pub Noting : Type 0
Noting = List ℕ → List ℕ → Noted

-- the key that a record holds was noted with its LEI
pub held_noted : (row : Row) (key : List ℕ × List ℕ) (lei : List ℕ) (old new : Noting) → ((a i : List ℕ) → holds a i row ≡ (bytes_eq key.0 a && bytes_eq key.1 i)) → lei ≡ lei_in row
    → ((a i : List ℕ) → new a i ≡ cond (bytes_eq key.0 a && bytes_eq key.1 i) (Some (Some lei)) (old a i))
    → (a i : List ℕ) → one_in (new a i) ≡ cond (holds a i row) (Some (lei_in row)) (one_in (old a i))
held_noted row key lei old new held same noted a i =
    ap one_in (noted a i) ∙ (one_of (bytes_eq key.0 a && bytes_eq key.1 i) lei (old a i) ∙ (λ j. cond (sym (held a i) j) (Some (same j)) (one_in (old a i))))

-- a record that holds no key leaves what was noted unchanged
pub unheld : (row : Row) (o : List ℕ → List ℕ → Option (List ℕ)) → ((a i : List ℕ) → holds a i row ≡ false) → (a i : List ℕ) → o a i ≡ cond (holds a i row) (Some (lei_in row)) (o a i)
unheld row o never a i = sym (ap (λ b. cond b (Some (lei_in row)) (o a i)) (never a i))

some_put : (b : Bool) (x : Option (List ℕ)) (o : Noted) → is_some o ≡ true → is_some (cond b (Some x) o) ≡ true
some_put true x o is = refl
some_put false x o is = is

-- a key that the index had is noted again, or stays
pub noted_stays : {X E C : Type 0} (result : Result X E) (test : C → Bool) (x : C → Option (List ℕ)) (old new : C → Noted)
    → OnOk result ((c : C) → new c ≡ cond (test c) (Some (x c)) (old c)) → OnErr result ((c : C) → new c ≡ old c)
    → (c : C) → is_some (old c) ≡ true → is_some (new c) ≡ true
noted_stays (Ok y) test x old new put same c is = ap is_some (put c) ∙ some_put (test c) (x c) (old c) is
noted_stays (Err e) test x old new put same c is = ap is_some (same c) ∙ is

-- ---- by start and type

pub active-idle : (row : Row) (start : List ℕ) (kind : RelationType) → is_active row ≡ false → is_active_of start kind row ≡ false
unfolding is_active_of
active-idle row start kind idle = ap (λ b. b && (bytes_eq (start_in row) start && is_same_type (kind_in row) kind)) idle

pub active-own : (row : Row) (start : List ℕ) (kind : RelationType) → is_active row ≡ true
    → is_active_of start kind row ≡ (bytes_eq (start_in row) start && bytes_eq (relation_type_text (kind_in row)) (relation_type_text kind))
unfolding is_active_of
active-own row start kind active = ap (λ b. b && (bytes_eq (start_in row) start && is_same_type (kind_in row) kind)) active

tied_texts : (a b c d : List ℕ) → is_eq (ordering_then (slice_cmp nat_cmp a b) (slice_cmp nat_cmp c d)) ≡ (bytes_eq a b && bytes_eq c d)
tied_texts a b c d =
    sym (tied_then (slice_cmp nat_cmp a b) (slice_cmp nat_cmp c d)) ∙ (λ i. is_eq-slice_cmp a b i && is_eq-slice_cmp c d i)

abbrev pub pair_cmp : List ℕ × Bor (List ℕ) → List ℕ × Bor (List ℕ) → Ordering
pair_cmp a b = ordering_then (slice_cmp nat_cmp a.0 b.0) (slice_cmp nat_cmp a.1.now b.1.now)

-- under one start and one text
pub end_under-update : (old new : BTreeMap (List ℕ × Bor (List ℕ)) (Option (List ℕ))) (key : List ℕ × Bor (List ℕ)) (x : Noted) → Updates pair_cmp old new key x
    → (start text : List ℕ) → end_under new start text ≡ cond (bytes_eq key.0 start && bytes_eq key.1.now text) x (end_under old start text)
end_under-update old new key x updates start text =
    updates.0 (start, record key.1 { now = text }) ∙ ap (λ b. cond b x (end_under old start text)) (tied_texts key.0 start key.1.now text)

module _ (old new : BTreeMap (List ℕ × Bor (List ℕ)) (Option (List ℕ))) (key : List ℕ × Bor (List ℕ)) (row : Row) (end : List ℕ)
    (starts : key.0 ≡ start_in row) (texts : key.1.now ≡ relation_type_text (kind_in row)) (ends : end ≡ end_in row) (active : is_active row ≡ true) where
  pub end_under-insert : Updates pair_cmp old new key (Some (Some end)) → (start : List ℕ) (kind : RelationType)
      → end_under new start (relation_type_text kind) ≡ cond (is_active_of start kind row) (Some (Some (end_in row))) (end_under old start (relation_type_text kind))
  end_under-insert updates start kind =
      let text = relation_type_text kind in
      end_under-update old new key (Some (Some end)) updates start text
      ∙ ((λ i. cond (bytes_eq (starts i) start && bytes_eq (texts i) text) (Some (Some (ends i))) (end_under old start text))
      ∙ ap (λ b. cond b (Some (Some (end_in row))) (end_under old start text)) (sym (active-own row start kind active)))

  -- the end of an active relationship was noted
  pub end_noted : Updates pair_cmp old new key (Some (Some end)) → (start : List ℕ) (kind : RelationType)
      → one_in (end_under new start (relation_type_text kind)) ≡ cond (is_active_of start kind row) (Some (end_in row)) (one_in (end_under old start (relation_type_text kind)))
  end_noted updates start kind = ap one_in (end_under-insert updates start kind) ∙ one_of (is_active_of start kind row) (end_in row) (end_under old start (relation_type_text kind))

  -- and the index still has each start and type that it had
  pub end_stays : Updates pair_cmp old new key (Some (Some end)) → (start : List ℕ) (kind : RelationType)
      → is_some (end_under old start (relation_type_text kind)) ≡ true → is_some (end_under new start (relation_type_text kind)) ≡ true
  end_stays updates start kind is =
      ap is_some (end_under-insert updates start kind) ∙ some_put (is_active_of start kind row) (Some (end_in row)) (end_under old start (relation_type_text kind)) is

  -- the relationship is the active one of its own start and type
  pub own_end : is_active_of (start_in row) (kind_in row) row ≡ true
  own_end = active-own row (start_in row) (kind_in row) active ∙ both_true _ _ (bytes_itself (start_in row)) (bytes_itself (relation_type_text (kind_in row)))

  pub no_end : get pair_cmp old key ≡ None → end_under old (start_in row) (relation_type_text (kind_in row)) ≡ None
  no_end none = (λ i. end_under old (sym starts i) (sym texts i)) ∙ none

pub idle_same : (row : Row) (o : List ℕ → RelationType → Option (List ℕ)) → is_active row ≡ false
    → (start : List ℕ) (kind : RelationType) → o start kind ≡ cond (is_active_of start kind row) (Some (end_in row)) (o start kind)
idle_same row o idle start kind = sym (ap (λ b. cond b (Some (end_in row)) (o start kind)) (active-idle row start kind idle))
