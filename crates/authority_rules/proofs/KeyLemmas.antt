-- Keys of rows: their order, and that two are equal if their parts are.
use Rattle.std.specs.Prelude.{◌≡◌, ℕ, true, ◌&&◌, List, [], ◌∷◌}
use Rattle.std.specs.Cmp.{tied_itself, tied_then}
use Rattle.std.specs.Cmp.Lexicographic.{nat_list_eq_equiv, slice_cmp}
use Rattle.std.specs.FinMap.{IsAntisymmetric, slice_cmp-IsAntisymmetric, nat_cmp-IsAntisymmetric}
use Rattle.std.specs.Ordering.{eq_by_cmp, is_eq, nat_cmp}
use Rattle.std.specs.Str.{bytes_eq}
use Rattle.std.specs.declared.cmp.Ordering.TheVariants.{Equal}
use Rattle.std.proofs.Common.{sym, ap, ◌∙◌}
use Rattle.std.proofs.Math.Bool.{and-true, and_assoc}
use Rattle.std.proofs.lemmas.Map.Text.{is_eq-slice_cmp}
use Rattle.lei_shapes.specs.declared.lists.ExceptionCategory.{ExceptionCategory}
use Rattle.lei_shapes.specs.declared.lists.RelationType.{RelationType}
use Rattle.lei_shapes.specs.Lists.{exception_category_text, relation_type_text}
use Rattle.lei_records.specs.Cells.{lei_in}
use Rattle.lei_records.specs.Exceptions.{exception_category_in, is_same_category, subject_in}
use Rattle.lei_records.specs.Relations.{end_in, is_same_type, kind_in, start_in}
use Rattle.lei_records.specs.Rows.{Row}
use Rattle.lei_records.specs.Tables.{KeyTexts, exception_key, exception_key_in, key_cmp, record_key, relation_key, relation_key_in}
use Rattle.authority_rules.proofs.HolderLemmas.{keys_total}

pub keys_antisymmetric : IsAntisymmetric key_cmp
keys_antisymmetric = slice_cmp-IsAntisymmetric (slice_cmp-IsAntisymmetric nat_cmp-IsAntisymmetric)

-- a key is equal to itself
pub key_itself : (key : KeyTexts) → eq_by_cmp key_cmp key key ≡ true
key_itself key = ap is_eq (tied_itself keys_total key)

-- ---- keys of one, two and three texts

texts_tied : (a b : List ℕ) → is_eq (slice_cmp nat_cmp a b) ≡ bytes_eq b a
texts_tied a b = is_eq-slice_cmp a b ∙ nat_list_eq_equiv.symm a b

one_text : (a b : List ℕ) → eq_by_cmp key_cmp (a ∷ []) (b ∷ []) ≡ bytes_eq b a
one_text a b = sym (tied_then (slice_cmp nat_cmp a b) Equal) ∙ (and-true (is_eq (slice_cmp nat_cmp a b)) ∙ texts_tied a b)

more_texts : (a b : List ℕ) (front rest : KeyTexts) → eq_by_cmp key_cmp (a ∷ front) (b ∷ rest) ≡ (bytes_eq b a && eq_by_cmp key_cmp front rest)
more_texts a b front rest =
    sym (tied_then (slice_cmp nat_cmp a b) (key_cmp front rest)) ∙ ap (λ t. t && eq_by_cmp key_cmp front rest) (texts_tied a b)

-- ---- the key of a row

-- a record has the key of an LEI exactly if it has the LEI
pub tied-record_key : (lei : List ℕ) (row : Row) → eq_by_cmp key_cmp (record_key lei) (record_key (lei_in row)) ≡ bytes_eq (lei_in row) lei
tied-record_key lei row = one_text lei (lei_in row)

-- a relationship has that of a start, a type and an end exactly if it has the three
pub tied-relation_key : (start : List ℕ) (kind : RelationType) (end : List ℕ) (row : Row)
    → eq_by_cmp key_cmp (relation_key start kind end) (relation_key_in row)
    ≡ ((bytes_eq (start_in row) start && is_same_type (kind_in row) kind) && bytes_eq (end_in row) end)
tied-relation_key start kind end row =
    let text = relation_type_text kind in
    let own = relation_type_text (kind_in row) in
    more_texts start (start_in row) (text ∷ end ∷ []) (own ∷ end_in row ∷ [])
    ∙ (ap (λ t. bytes_eq (start_in row) start && t)
    (more_texts text own (end ∷ []) (end_in row ∷ []) ∙ ap (λ t. bytes_eq own text && t) (one_text end (end_in row)))
    ∙ sym (and_assoc (bytes_eq (start_in row) start) (bytes_eq own text) (bytes_eq (end_in row) end)))

-- an exception has that of an LEI and a category exactly if it has the two
pub tied-exception_key : (lei : List ℕ) (category : ExceptionCategory) (row : Row)
    → eq_by_cmp key_cmp (exception_key lei category) (exception_key_in row)
    ≡ (bytes_eq (subject_in row) lei && is_same_category (exception_category_in row) category)
tied-exception_key lei category row =
    let text = exception_category_text category in
    let own = exception_category_text (exception_category_in row) in
    more_texts lei (subject_in row) (text ∷ []) (own ∷ []) ∙ ap (λ t. bytes_eq (subject_in row) lei && t) (one_text text own)
