-- Maps that are keyed by LEIs and by texts, after an insertion.
use Rattle.std.specs.Prelude.{◌≡◌, ℕ, List, Bool, true, false, ◌&&◌, cond, Option, Some, None, option_and_then}
use Rattle.std.specs.BTreeMap.{BTreeMap, IsEmpty, Updates, UpdatesBy, get}
use Rattle.std.specs.Cmp.{tied_then}
use Rattle.std.specs.Borrow.{Bor}
use Rattle.std.specs.Cmp.Lexicographic.{slice_cmp}
use Rattle.std.specs.Option.{option_copied}
use Rattle.std.specs.Ordering.{is_eq, nat_cmp, ordering_then}
use Rattle.std.specs.declared.cmp.Ordering.{Ordering}
use Rattle.std.specs.Str.{bytes_eq}
use Rattle.std.proofs.Common.{refl, rules, sym, ap, ◌∙◌}
use Rattle.std.proofs.lemmas.Map.Text.{is_eq-slice_cmp, btree_map_updates_str}
use Rattle.std.specs.Cmp.Lexicographic.{nat_list_eq_equiv}
use Rattle.authority_rules.proofs.HolderLemmas.{bytes_same}
use Rattle.lei_shapes.specs.declared.lists.RelationType.{RelationType}
use Rattle.lei_shapes.specs.Lists.{relation_type_text}
use Rattle.lei_records.specs.Relations.{end_in, kind_in, start_in}
use Rattle.lei_records.specs.Rows.{Row}
use Rattle.register_judge.specs.Overlays.{Ids, LongTakers, Records, Relations, id_at, ids_at, is_between, long_taker_at, pair_at, relation_at, record_at}

copied : (b : Bool) (row : Bor Row) (old : Option (Bor Row)) → option_copied (cond b (Some row) old) ≡ cond b (Some row.now) (option_copied old)
copied true row old = refl
copied false row old = refl

pub record_at-insert : (old new : Records) (lei own : List ℕ) (row : Bor Row) → lei ≡ own → Updates (slice_cmp nat_cmp) old new lei (Some row)
    → (q : List ℕ) → record_at new q ≡ cond (bytes_eq q own) (Some row.now) (record_at old q)
record_at-insert old new lei own row same updates q =
    ap option_copied (updates.0 q)
    ∙ (ap (λ b. option_copied (cond b (Some row) (get (slice_cmp nat_cmp) old q))) (is_eq-slice_cmp lei q ∙ (nat_list_eq_equiv.symm lei q ∙ ap (bytes_eq q) same))
    ∙ copied (bytes_eq q own) row (get (slice_cmp nat_cmp) old q))

-- the ids under an authority, after those of one authority are removed or inserted
pub ids_at-update : (old new : LongTakers) (authority : List ℕ) (ids : Option Ids)
    → UpdatesBy (λ x y. slice_cmp nat_cmp x.now y.now) (λ k. slice_cmp nat_cmp authority k.now) old new ids
    → (a : List ℕ) → ids_at new a ≡ cond (bytes_eq authority a) ids (ids_at old a)
ids_at-update old new authority ids updates a = btree_map_updates_str authority old new ids updates a

pub id_at-update : (old new : Ids) (id : List ℕ) (lei : Option (List ℕ))
    → UpdatesBy (λ x y. slice_cmp nat_cmp x.now y.now) (λ k. slice_cmp nat_cmp id k.now) old new lei
    → (i : List ℕ) → id_at new i ≡ cond (bytes_eq id i) lei (id_at old i)
id_at-update old new id lei updates i = btree_map_updates_str id old new lei updates i

pub id_at-empty : (ids : Ids) → IsEmpty ids → (i : List ℕ) → id_at ids i ≡ None
id_at-empty ids none i = search (rules, none)

-- the record that took a key, after one was noted under an authority that had ids or none
pub long_taker_at-insert : (old new : LongTakers) (was : Option Ids) (more : Ids) (authority id lei : List ℕ)
    → ids_at old authority ≡ was
    → ((i : List ℕ) → id_at more i ≡ cond (bytes_eq id i) (Some lei) (option_and_then (λ ids. id_at ids i) was))
    → ((a : List ℕ) → ids_at new a ≡ cond (bytes_eq authority a) (Some more) (ids_at old a))
    → (a i : List ℕ) → long_taker_at new a i ≡ cond (bytes_eq authority a && bytes_eq id i) (Some lei) (long_taker_at old a i)
long_taker_at-insert old new was more authority id lei is with_id with_ids a i =
    ap (option_and_then (λ ids. id_at ids i)) (with_ids a)
    ∙ elim (bytes_eq authority a) as (λ b. bytes_eq authority a ≡ b
    → option_and_then (λ ids. id_at ids i) (cond b (Some more) (ids_at old a)) ≡ cond (b && bytes_eq id i) (Some lei) (long_taker_at old a i)) [
      | true ↦ λ t. with_id i ∙ ap (cond (bytes_eq id i) (Some lei))
          (ap (option_and_then (λ ids. id_at ids i)) (sym is) ∙ ap (λ x. long_taker_at old x i) (bytes_same authority a t))
      | false ↦ λ _. refl
    ] refl

-- ---- keys of several texts

tied_texts : (a b c d : List ℕ) → is_eq (ordering_then (slice_cmp nat_cmp a b) (slice_cmp nat_cmp c d)) ≡ (bytes_eq a b && bytes_eq c d)
tied_texts a b c d =
    sym (tied_then (slice_cmp nat_cmp a b) (slice_cmp nat_cmp c d)) ∙ (λ i. is_eq-slice_cmp a b i && is_eq-slice_cmp c d i)

abbrev pub pair_cmp : List ℕ × Bor (List ℕ) → List ℕ × Bor (List ℕ) → Ordering
pair_cmp a b = ordering_then (slice_cmp nat_cmp a.0 b.0) (slice_cmp nat_cmp a.1.now b.1.now)

-- what is found under an LEI and a text after an insertion
pub pair_at-insert : {X : Type 0} (old new : BTreeMap (List ℕ × Bor (List ℕ)) X) (key : List ℕ × Bor (List ℕ)) (lei text : List ℕ) (x : X)
    → key.0 ≡ lei → key.1.now ≡ text → Updates pair_cmp old new key (Some x)
    → (q t : List ℕ) → pair_at new q t ≡ cond (bytes_eq lei q && bytes_eq text t) (Some x) (pair_at old q t)
pair_at-insert old new key lei text x leis texts updates q t =
    updates.0 (q, record key.1 { now = t })
    ∙ ap (λ b. cond b (Some x) (pair_at old q t)) (tied_texts key.0 q key.1.now t ∙ (λ i. bytes_eq (leis i) q && bytes_eq (texts i) t))

abbrev pub between_cmp : List ℕ × Bor (List ℕ) × List ℕ → List ℕ × Bor (List ℕ) × List ℕ → Ordering
between_cmp a b = ordering_then (ordering_then (slice_cmp nat_cmp a.0 b.0) (slice_cmp nat_cmp a.1.now b.1.now)) (slice_cmp nat_cmp a.2 b.2)

-- the accepted relationship of a key, after one was put
pub relation_at-insert : (old new : Relations) (key : List ℕ × Bor (List ℕ) × List ℕ) (row : Bor Row)
    → key.0 ≡ start_in row.now → key.1.now ≡ relation_type_text (kind_in row.now) → key.2 ≡ end_in row.now → Updates between_cmp old new key (Some row)
    → (start : List ℕ) (kind : RelationType) (end : List ℕ) → relation_at new start kind end ≡ cond (is_between start kind end row.now) (Some row.now) (relation_at old start kind end)
relation_at-insert old new key row starts types ends updates start kind end =
    let q : List ℕ × Bor (List ℕ) × List ℕ = (start, record key.1 { now = relation_type_text kind }, end) in
    let tied : is_eq (between_cmp key q) ≡ is_between start kind end row.now =
    sym (tied_then _ (slice_cmp nat_cmp key.2 end))
    ∙ ((λ i. tied_texts key.0 start key.1.now (relation_type_text kind) i && is_eq-slice_cmp key.2 end i)
    ∙ (λ i. (bytes_eq (starts i) start && bytes_eq (types i) (relation_type_text kind)) && bytes_eq (ends i) end)) in
    ap option_copied (updates.0 q)
    ∙ (ap (λ b. option_copied (cond b (Some row) (get between_cmp old q))) tied ∙ copied (is_between start kind end row.now) row (get between_cmp old q))
