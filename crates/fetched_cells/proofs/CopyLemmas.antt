-- The cells of a view after one of them was copied from another view.
use Rattle.std.specs.Prelude.{◌≡◌, ◌⊎◌, ℕ, List, [], ◌∷◌, ◌++◌, Bool, true, false, ◌&&◌, cond, IsTrue, ⊤}
use Rattle.std.specs.List.{Contains}
use Rattle.std.specs.Str.{bytes_eq}
use mathlib.Core.Logic.{inl, inr}
use Rattle.std.proofs.Common.{refl, rules, sym, ap, subst, ◌∙◌}
use Rattle.std.proofs.lemmas.List.Elements.{Contains-append_left, Contains-push, Contains-push_cases}
use Rattle.lei_shapes.specs.declared.lists.ExceptionCategory.{ExceptionCategory}
use Rattle.lei_shapes.specs.declared.lists.RelationType.{RelationType}
use Rattle.lei_shapes.specs.Lists.{exception_category_of, exception_category_text, relation_type_of, relation_type_text}
use Rattle.lei_shapes.proofs.ListLemmas.{texts_apart}
use Rattle.lei_shapes.proofs.ValueTexts.{exception_category_of-text, relation_type_of-text}
use Rattle.lei_records.specs.declared.view.CellKey.{CellKey}
use Rattle.lei_records.specs.declared.view.RecCell.{RecCell}
use Rattle.lei_records.specs.declared.view.RelCell.{RelCell}
use Rattle.lei_records.specs.declared.view.Seen.{Seen}
use Rattle.lei_records.specs.Cells.{Cells}
use Rattle.lei_records.specs.Exceptions.{is_same_category}
use Rattle.lei_records.specs.Relations.{is_same_type}
use Rattle.relation_rules.specs.Needs.{is_lacking, lacks}
use Rattle.fetched_cells.specs.Fetching.{HasJust, SameAt}
use Rattle.fetched_cells.specs.Filling.{IsCopied}
use Rattle.fetched_cells.specs.Maps.{with_active_end, with_exception, with_holder, with_record, with_relation}
use Rattle.fetched_cells.proofs.MapLemmas.{bytes_itself, bytes_same}

-- ---- tests of keys

both : (a b : Bool) → (a && b) ≡ true → (a ≡ true) × (b ≡ true)
both true b is = (refl, is)
both false b is = cc

each : (a b : Bool) → a ≡ true → b ≡ true → (a && b) ≡ true
each a b first second = ap (λ t. t && b) first ∙ second

-- the test holds, or the cell is as before
either : {X G : Type 0} (test : Bool) (found before : X) → (test ≡ true → G) → G ⊎ (cond test found before ≡ before)
either true found before same = inl (same refl)
either false found before same = inr refl

found : {X : Type 0} (test : Bool) (x y : X) → test ≡ true → cond test x y ≡ x
found test x y is = ap (λ b. cond b x y) is

type_same : (a b : RelationType) → is_same_type a b ≡ true → a ≡ b
type_same a b is =
    texts_apart relation_type_text relation_type_of relation_type_of-text a b (bytes_same (relation_type_text a) (relation_type_text b) is)

category_same : (a b : ExceptionCategory) → is_same_category a b ≡ true → a ≡ b
category_same a b is =
    texts_apart exception_category_text exception_category_of exception_category_of-text a b (bytes_same (exception_category_text a) (exception_category_text b) is)

-- ---- a cell that was copied, by its kind

module _ (whole old : Cells) where
  record_elsewhere : (lei : List ℕ) (seen : Seen RecCell) (other : CellKey) → (other ≡ CellKey.Rec lei) ⊎ SameAt (with_record old lei seen) old other
  record_elsewhere lei seen (CellKey.Rec q) = either (bytes_eq lei q) seen (old.record_cell q) (λ t. ap CellKey.Rec (sym (bytes_same lei q t)))
  record_elsewhere lei seen (CellKey.Rel s k e) = inr refl
  record_elsewhere lei seen (CellKey.Exc q c) = inr refl
  record_elsewhere lei seen (CellKey.Key a i) = inr refl
  record_elsewhere lei seen (CellKey.Act s k) = inr refl

  record_copied : (lei : List ℕ) → IsCopied whole old (with_record old lei (whole.record_cell lei)) (CellKey.Rec lei)
  record_copied lei = record {
    here = found (bytes_eq lei lei) (whole.record_cell lei) (old.record_cell lei) (bytes_itself lei);
    elsewhere = record_elsewhere lei (whole.record_cell lei);
  }

  relation_elsewhere : (start : List ℕ) (kind : RelationType) (end : List ℕ) (seen : Seen RelCell) (other : CellKey)
      → (other ≡ CellKey.Rel start kind end) ⊎ SameAt (with_relation old start kind end seen) old other
  relation_elsewhere start kind end seen (CellKey.Rec q) = inr refl
  relation_elsewhere start kind end seen (CellKey.Rel s k e) =
      either ((bytes_eq start s && is_same_type kind k) && bytes_eq end e) seen (old.relation s k e) (λ t.
      let outer = both (bytes_eq start s && is_same_type kind k) (bytes_eq end e) t in
      let inner = both (bytes_eq start s) (is_same_type kind k) outer.0 in
      let starts = sym (bytes_same start s inner.0) in
      let kinds = sym (type_same kind k inner.1) in
      let ends = sym (bytes_same end e outer.1) in
      λ i. CellKey.Rel (starts i) (kinds i) (ends i))
  relation_elsewhere start kind end seen (CellKey.Exc q c) = inr refl
  relation_elsewhere start kind end seen (CellKey.Key a i) = inr refl
  relation_elsewhere start kind end seen (CellKey.Act s k) = inr refl

  relation_copied : (start : List ℕ) (kind : RelationType) (end : List ℕ)
      → IsCopied whole old (with_relation old start kind end (whole.relation start kind end)) (CellKey.Rel start kind end)
  relation_copied start kind end = record {
    here = found ((bytes_eq start start && is_same_type kind kind) && bytes_eq end end) (whole.relation start kind end) (old.relation start kind end)
        (each (bytes_eq start start && is_same_type kind kind) (bytes_eq end end)
        (each (bytes_eq start start) (is_same_type kind kind) (bytes_itself start) (bytes_itself (relation_type_text kind))) (bytes_itself end));
    elsewhere = relation_elsewhere start kind end (whole.relation start kind end);
  }

  end_elsewhere : (start : List ℕ) (kind : RelationType) (seen : Seen (List ℕ)) (other : CellKey)
      → (other ≡ CellKey.Act start kind) ⊎ SameAt (with_active_end old start kind seen) old other
  end_elsewhere start kind seen (CellKey.Rec q) = inr refl
  end_elsewhere start kind seen (CellKey.Rel s k e) = inr refl
  end_elsewhere start kind seen (CellKey.Exc q c) = inr refl
  end_elsewhere start kind seen (CellKey.Key a i) = inr refl
  end_elsewhere start kind seen (CellKey.Act s k) =
      either (bytes_eq start s && is_same_type kind k) seen (old.active s k) (λ t.
      let parts = both (bytes_eq start s) (is_same_type kind k) t in
      let starts = sym (bytes_same start s parts.0) in
      let kinds = sym (type_same kind k parts.1) in
      λ i. CellKey.Act (starts i) (kinds i))

  end_copied : (start : List ℕ) (kind : RelationType) → IsCopied whole old (with_active_end old start kind (whole.active start kind)) (CellKey.Act start kind)
  end_copied start kind = record {
    here = found (bytes_eq start start && is_same_type kind kind) (whole.active start kind) (old.active start kind)
        (each (bytes_eq start start) (is_same_type kind kind) (bytes_itself start) (bytes_itself (relation_type_text kind)));
    elsewhere = end_elsewhere start kind (whole.active start kind);
  }

  exception_elsewhere : (lei : List ℕ) (category : ExceptionCategory) (seen : Seen ⊤) (other : CellKey)
      → (other ≡ CellKey.Exc lei category) ⊎ SameAt (with_exception old lei category seen) old other
  exception_elsewhere lei category seen (CellKey.Rec q) = inr refl
  exception_elsewhere lei category seen (CellKey.Rel s k e) = inr refl
  exception_elsewhere lei category seen (CellKey.Exc q c) =
      either (bytes_eq lei q && is_same_category category c) seen (old.exception q c) (λ t.
      let parts = both (bytes_eq lei q) (is_same_category category c) t in
      let leis = sym (bytes_same lei q parts.0) in
      let categories = sym (category_same category c parts.1) in
      λ i. CellKey.Exc (leis i) (categories i))
  exception_elsewhere lei category seen (CellKey.Key a i) = inr refl
  exception_elsewhere lei category seen (CellKey.Act s k) = inr refl

  exception_copied : (lei : List ℕ) (category : ExceptionCategory)
      → IsCopied whole old (with_exception old lei category (whole.exception lei category)) (CellKey.Exc lei category)
  exception_copied lei category = record {
    here = found (bytes_eq lei lei && is_same_category category category) (whole.exception lei category) (old.exception lei category)
        (each (bytes_eq lei lei) (is_same_category category category) (bytes_itself lei) (bytes_itself (exception_category_text category)));
    elsewhere = exception_elsewhere lei category (whole.exception lei category);
  }

  holder_elsewhere : (authority id : List ℕ) (seen : Seen (List ℕ)) (other : CellKey)
      → (other ≡ CellKey.Key authority id) ⊎ SameAt (with_holder old authority id seen) old other
  holder_elsewhere authority id seen (CellKey.Rec q) = inr refl
  holder_elsewhere authority id seen (CellKey.Rel s k e) = inr refl
  holder_elsewhere authority id seen (CellKey.Exc q c) = inr refl
  holder_elsewhere authority id seen (CellKey.Key a i) =
      either (bytes_eq authority a && bytes_eq id i) seen (old.holder a i) (λ t.
      let parts = both (bytes_eq authority a) (bytes_eq id i) t in
      let authorities = sym (bytes_same authority a parts.0) in
      let ids = sym (bytes_same id i parts.1) in
      λ j. CellKey.Key (authorities j) (ids j))
  holder_elsewhere authority id seen (CellKey.Act s k) = inr refl

  holder_copied : (authority id : List ℕ) → IsCopied whole old (with_holder old authority id (whole.holder authority id)) (CellKey.Key authority id)
  holder_copied authority id = record {
    here = found (bytes_eq authority authority && bytes_eq id id) (whole.holder authority id) (old.holder authority id)
        (each (bytes_eq authority authority) (bytes_eq id id) (bytes_itself authority) (bytes_itself id));
    elsewhere = holder_elsewhere authority id (whole.holder authority id);
  }

  -- ---- the same with equations for the key, for what was found and for the cells afterwards

  module _ (new : Cells) (key : CellKey) where
    pub copied_record : (lei : List ℕ) (seen : Seen RecCell) → key ≡ CellKey.Rec lei → seen ≡ whole.record_cell lei
        → new ≡ with_record old lei seen → IsCopied whole old new key
    copied_record lei seen keys from is =
        subst (IsCopied whole old new) (sym keys)
        (subst (λ (cells : Cells). IsCopied whole old cells (CellKey.Rec lei)) (sym (is ∙ ap (with_record old lei) from)) (record_copied lei))

    pub copied_relation : (start : List ℕ) (kind : RelationType) (end : List ℕ) (seen : Seen RelCell) → key ≡ CellKey.Rel start kind end
        → seen ≡ whole.relation start kind end → new ≡ with_relation old start kind end seen → IsCopied whole old new key
    copied_relation start kind end seen keys from is =
        subst (IsCopied whole old new) (sym keys)
        (subst (λ (cells : Cells). IsCopied whole old cells (CellKey.Rel start kind end)) (sym (is ∙ ap (with_relation old start kind end) from)) (relation_copied start kind end))

    pub copied_end : (start : List ℕ) (kind : RelationType) (seen : Seen (List ℕ)) → key ≡ CellKey.Act start kind
        → seen ≡ whole.active start kind → new ≡ with_active_end old start kind seen → IsCopied whole old new key
    copied_end start kind seen keys from is =
        subst (IsCopied whole old new) (sym keys)
        (subst (λ (cells : Cells). IsCopied whole old cells (CellKey.Act start kind)) (sym (is ∙ ap (with_active_end old start kind) from)) (end_copied start kind))

    pub copied_exception : (lei : List ℕ) (category : ExceptionCategory) (seen : Seen ⊤) → key ≡ CellKey.Exc lei category
        → seen ≡ whole.exception lei category → new ≡ with_exception old lei category seen → IsCopied whole old new key
    copied_exception lei category seen keys from is =
        subst (IsCopied whole old new) (sym keys)
        (subst (λ (cells : Cells). IsCopied whole old cells (CellKey.Exc lei category)) (sym (is ∙ ap (with_exception old lei category) from)) (exception_copied lei category))

    pub copied_holder : (authority id : List ℕ) (seen : Seen (List ℕ)) → key ≡ CellKey.Key authority id
        → seen ≡ whole.holder authority id → new ≡ with_holder old authority id seen → IsCopied whole old new key
    copied_holder authority id seen keys from is =
        subst (IsCopied whole old new) (sym keys)
        (subst (λ (cells : Cells). IsCopied whole old cells (CellKey.Key authority id)) (sym (is ∙ ap (with_holder old authority id) from)) (holder_copied authority id))

-- ---- one more cell

same_then : (a b c : Cells) (key : CellKey) → SameAt a b key → SameAt b c key → SameAt a c key
same_then a b c (CellKey.Rec lei) first second = first ∙ second
same_then a b c (CellKey.Rel s k e) first second = first ∙ second
same_then a b c (CellKey.Exc lei category) first second = first ∙ second
same_then a b c (CellKey.Key authority id) first second = first ∙ second
same_then a b c (CellKey.Act s k) first second = first ∙ second

lacks-same : (a b : Cells) (key : CellKey) → SameAt a b key → lacks a key ≡ lacks b key
lacks-same a b (CellKey.Rec lei) same = ap is_lacking same
lacks-same a b (CellKey.Rel s k e) same = ap is_lacking same
lacks-same a b (CellKey.Exc lei category) same = ap is_lacking same
lacks-same a b (CellKey.Key authority id) same = ap is_lacking same
lacks-same a b (CellKey.Act s k) same = ap is_lacking same

module _ (whole old new : Cells) (keys : List CellKey) (key : CellKey) (before : HasJust old whole keys) (copied : IsCopied whole old new key) where
  has_other : (other : CellKey) → Contains keys other → (other ≡ key) ⊎ SameAt new old other → SameAt new whole other
  has_other other at (inl same) = subst (SameAt new whole) (sym same) copied.here
  has_other other at (inr same) = same_then new old whole other same (before.has other at)

  has_each : (other : CellKey) → Contains keys other ⊎ (key ≡ other) → SameAt new whole other
  has_each other (inl at) = has_other other at (copied.elsewhere other)
  has_each other (inr same) = subst (SameAt new whole) same copied.here

  lacks_other : (other : CellKey) → (Contains (keys ++ key ∷ []) other → ⊥) → (other ≡ key) ⊎ SameAt new old other → IsTrue (lacks new other)
  lacks_other other never (inl same) = absurd (never (subst (Contains (keys ++ key ∷ [])) (sym same) (Contains-push keys key)))
  lacks_other other never (inr same) =
      lacks-same new old other same ∙ before.just other (λ at. never (Contains-append_left keys (key ∷ []) other at))

  -- a view that had exactly some cells has exactly these and the copied one
  pub has_just-more : HasJust new whole (keys ++ key ∷ [])
  has_just-more = record {
    has = λ other at. has_each other (Contains-push_cases keys key other at);
    just = λ other never. lacks_other other never (copied.elsewhere other);
  }

none_at : (key : CellKey) → Contains [] key → ⊥
none_at key at = search rules

-- a view that lacks all cells has exactly no cells
pub has_none : (part whole : Cells) → ((key : CellKey) → IsTrue (lacks part key)) → HasJust part whole []
has_none part whole lacking = record { has = λ key at. absurd (none_at key at); just = λ key never. lacking key }
