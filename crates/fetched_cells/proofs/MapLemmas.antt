-- Maps with LEIs or texts as keys, after an insertion.
use Rattle.std.specs.Prelude.{◌≡◌, ℕ, List, Bool, true, false, ◌&&◌, cond, Option, Some, None, option_and_then}
use Rattle.std.specs.BTreeMap.{BTreeMap, IsEmpty, Updates, UpdatesBy, get, get_by_text}
use Rattle.std.specs.Borrow.{Bor}
use Rattle.std.specs.Cmp.{tied_then}
use Rattle.std.specs.Cmp.Lexicographic.{slice_cmp}
use Rattle.std.specs.declared.cmp.Ordering.{Ordering}
use Rattle.std.specs.declared.string.String.{String}
use Rattle.std.specs.Ordering.{is_eq, nat_cmp, ordering_then}
use Rattle.std.specs.Str.{bytes_eq}
use Rattle.std.specs.String.{string_bytes, string_cmp}
use Rattle.std.proofs.Common.{refl, rules, sym, ap, ◌∙◌}
use Rattle.std.proofs.lemmas.Map.Text.{btree_map_updates_text, is_eq-slice_cmp}
use Rattle.std.proofs.lemmas.Slice.Eq.{bytes_eq-Decides}
use Rattle.lei_records.specs.declared.view.Seen.{Seen}
use Rattle.fetched_cells.specs.Maps.{between_at, code_at, or_missing, seen_pair_at, value_at_texts}

pub bytes_same : (a b : List ℕ) → bytes_eq a b ≡ true → a ≡ b
bytes_same a b is = (bytes_eq-Decides a b).0 is

pub bytes_itself : (a : List ℕ) → bytes_eq a a ≡ true
bytes_itself a = (bytes_eq-Decides a a).1 refl

-- ---- by an LEI, or by LEIs with a text

or_missing-put : {X : Type 0} (b : Bool) (found : Seen X) (old : Option (Seen X)) → or_missing (cond b (Some found) old) ≡ cond b found (or_missing old)
or_missing-put true found old = refl
or_missing-put false found old = refl

-- what a lookup finds after an insertion, by a test that equals the comparison of the keys
found-put : {X : Type 0} (now old : Option (Seen X)) (tied same : Bool) (found : Seen X) → now ≡ cond tied (Some found) old → tied ≡ same
    → or_missing now ≡ cond same found (or_missing old)
found-put now old tied same found updates is =
    ap or_missing (updates ∙ ap (λ b. cond b (Some found) old) is) ∙ or_missing-put same found old

pub code_at-insert : {X : Type 0} (old new : BTreeMap (List ℕ) (Seen X)) (lei : List ℕ) (found : Seen X) → Updates (slice_cmp nat_cmp) old new lei (Some found)
    → (q : List ℕ) → code_at new q ≡ cond (bytes_eq lei q) found (code_at old q)
code_at-insert old new lei found updates q =
    found-put (get (slice_cmp nat_cmp) new q) (get (slice_cmp nat_cmp) old q) (is_eq (slice_cmp nat_cmp lei q)) (bytes_eq lei q) found
    (updates.0 q) (is_eq-slice_cmp lei q)

tied_texts : (a b c d : List ℕ) → is_eq (ordering_then (slice_cmp nat_cmp a b) (slice_cmp nat_cmp c d)) ≡ (bytes_eq a b && bytes_eq c d)
tied_texts a b c d =
    sym (tied_then (slice_cmp nat_cmp a b) (slice_cmp nat_cmp c d)) ∙ (λ i. is_eq-slice_cmp a b i && is_eq-slice_cmp c d i)

abbrev pub pair_cmp : List ℕ × Bor (List ℕ) → List ℕ × Bor (List ℕ) → Ordering
pair_cmp a b = ordering_then (slice_cmp nat_cmp a.0 b.0) (slice_cmp nat_cmp a.1.now b.1.now)

pub seen_pair_at-insert : {X : Type 0} (old new : BTreeMap (List ℕ × Bor (List ℕ)) (Seen X)) (key : List ℕ × Bor (List ℕ)) (text : List ℕ) (found : Seen X)
    → key.1.now ≡ text → Updates pair_cmp old new key (Some found)
    → (q t : List ℕ) → seen_pair_at new q t ≡ cond (bytes_eq key.0 q && bytes_eq text t) found (seen_pair_at old q t)
seen_pair_at-insert old new key text found texts updates q t =
    let at : List ℕ × Bor (List ℕ) = (q, record key.1 { now = t }) in
    found-put (get pair_cmp new at) (get pair_cmp old at) (is_eq (pair_cmp key at)) (bytes_eq key.0 q && bytes_eq text t) found
    (updates.0 at) (tied_texts key.0 q key.1.now t ∙ ap (λ w. bytes_eq key.0 q && bytes_eq w t) texts)

abbrev pub between_cmp : List ℕ × Bor (List ℕ) × List ℕ → List ℕ × Bor (List ℕ) × List ℕ → Ordering
between_cmp a b = ordering_then (ordering_then (slice_cmp nat_cmp a.0 b.0) (slice_cmp nat_cmp a.1.now b.1.now)) (slice_cmp nat_cmp a.2 b.2)

pub between_at-insert : {X : Type 0} (old new : BTreeMap (List ℕ × Bor (List ℕ) × List ℕ) (Seen X)) (key : List ℕ × Bor (List ℕ) × List ℕ) (text : List ℕ) (found : Seen X)
    → key.1.now ≡ text → Updates between_cmp old new key (Some found)
    → (s t e : List ℕ) → between_at new s t e ≡ cond ((bytes_eq key.0 s && bytes_eq text t) && bytes_eq key.2 e) found (between_at old s t e)
between_at-insert old new key text found texts updates s t e =
    let at : List ℕ × Bor (List ℕ) × List ℕ = (s, record key.1 { now = t }, e) in
    found-put (get between_cmp new at) (get between_cmp old at) (is_eq (between_cmp key at)) ((bytes_eq key.0 s && bytes_eq text t) && bytes_eq key.2 e) found
    (updates.0 at)
    (sym (tied_then _ (slice_cmp nat_cmp key.2 e))
    ∙ ((λ i. tied_texts key.0 s key.1.now t i && is_eq-slice_cmp key.2 e i) ∙ ap (λ w. (bytes_eq key.0 s && bytes_eq w t) && bytes_eq key.2 e) texts))

-- ---- by two texts

pub text_at-empty : {Y X : Type 0} (map : BTreeMap (String Y) X) → IsEmpty map → (q : List ℕ) → get_by_text map q ≡ None
text_at-empty map none q = search (rules, none)

module _ {Y X : Type 0} where
  -- with the same text as key
  pub text_at-update : (old new : BTreeMap (String Y) X) (text own : List ℕ) (x : X) → text ≡ own
      → UpdatesBy string_cmp (λ k. slice_cmp nat_cmp text (string_bytes k)) old new (Some x)
      → (q : List ℕ) → get_by_text new q ≡ cond (bytes_eq own q) (Some x) (get_by_text old q)
  text_at-update old new text own x same updates q =
      btree_map_updates_text text old new (Some x) updates q ∙ ap (λ t. cond (bytes_eq t q) (Some x) (get_by_text old q)) same

abbrev pub Ids : Type 0 → Type 0
Ids Y = BTreeMap (String Y) (Seen (List ℕ))

abbrev pub id_in : {Y : Type 0} → Option (Ids Y) → List ℕ → Option (Seen (List ℕ))
id_in ids id = option_and_then (λ ids. get_by_text ids id) ids

module _ {Y Z : Type 0} where
  -- an authority has its ids as before, and one more
  pub texts_at-insert : (old new : BTreeMap (String Z) (Ids Y)) (was : Option (Ids Y)) (more : Ids Y) (authority id : List ℕ) (found : Seen (List ℕ))
      → get_by_text old authority ≡ was
      → ((i : List ℕ) → get_by_text more i ≡ cond (bytes_eq id i) (Some found) (id_in was i))
      → ((a : List ℕ) → get_by_text new a ≡ cond (bytes_eq authority a) (Some more) (get_by_text old a))
      → (a i : List ℕ) → value_at_texts new a i ≡ cond (bytes_eq authority a && bytes_eq id i) (Some found) (value_at_texts old a i)
  texts_at-insert old new was more authority id found is with_id with_ids a i =
      ap (λ ids. id_in ids i) (with_ids a)
      ∙ elim (bytes_eq authority a) as (λ b. bytes_eq authority a ≡ b
      → id_in (cond b (Some more) (get_by_text old a)) i ≡ cond (b && bytes_eq id i) (Some found) (value_at_texts old a i)) [
        | true ↦ λ t. with_id i ∙ ap (cond (bytes_eq id i) (Some found))
            (ap (λ ids. id_in ids i) (sym is) ∙ ap (λ x. value_at_texts old x i) (bytes_same authority a t))
        | false ↦ λ _. refl
      ] refl

  -- an authority has its ids as before
  pub texts_at-same : (old new : BTreeMap (String Z) (Ids Y)) (was : Option (Ids Y)) (ids : Ids Y) (authority : List ℕ)
      → get_by_text old authority ≡ was
      → ((i : List ℕ) → get_by_text ids i ≡ id_in was i)
      → ((a : List ℕ) → get_by_text new a ≡ cond (bytes_eq authority a) (Some ids) (get_by_text old a))
      → (a i : List ℕ) → value_at_texts new a i ≡ value_at_texts old a i
  texts_at-same old new was ids authority is same with_ids a i =
      ap (λ ids. id_in ids i) (with_ids a)
      ∙ elim (bytes_eq authority a) as (λ b. bytes_eq authority a ≡ b → id_in (cond b (Some ids) (get_by_text old a)) i ≡ value_at_texts old a i) [
        | true ↦ λ t. same i ∙ (ap (λ ids. id_in ids i) (sym is) ∙ ap (λ x. value_at_texts old x i) (bytes_same authority a t))
        | false ↦ λ _. refl
      ] refl
