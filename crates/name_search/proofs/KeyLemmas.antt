-- The keys of rows of `lei`.
use Rattle.std.proofs.Common.{◌≡◌, List, [], ◌∷◌, length, take, refl, sym, ap, ◌∙◌, arith}
use Rattle.std.specs.Cmp.Lexicographic.{slice_cmp}
use Rattle.std.specs.Ordering.{nat_cmp, ordering_then}
use Rattle.std.specs.declared.cmp.Ordering.{Ordering}
use Rattle.lei_code.specs.Texts.{Text}
use Rattle.lei_records.specs.Rows.{text_at}
use Rattle.lei_records.specs.Tables.{key_cmp}
use Rattle.register_words.specs.declared.sheets.Sheet.{Sheet}
use Rattle.copy_csv.specs.Rows.{IsRowOfSheet}
use Rattle.copy_csv.specs.Sheets.{IsSheetRow, SheetRow, key, key_len, width}
use Rattle.name_search.specs.NameTables.{Name, key_and_name}

-- a row of `lei` has 32 texts
pub texts_of_row : (row : SheetRow) → IsSheetRow row → row.sheet ≡ Sheet.Lei → length row.texts ≡ 32
texts_of_row row is lei = is.full ∙ ap width lei

key_by : (sheet : Sheet) (texts : List Text) → length texts ≡ 32 → sheet ≡ Sheet.Lei → take (key_len sheet) texts ≡ text_at texts 1 ∷ []
key_by sheet [] full lei = absurd (omega arith)
key_by sheet (text ∷ texts) full lei = ap (λ s. take (key_len s) (text ∷ texts)) lei

-- the key of a row of `lei` is its first text
pub key_is : (row : SheetRow) → IsSheetRow row → row.sheet ≡ Sheet.Lei → key row ≡ text_at row.texts 1 ∷ []
key_is row is lei = key_by row.sheet row.texts (texts_of_row row is lei) lei

pub then_nothing : (o : Ordering) → ordering_then o Ordering.Equal ≡ o
then_nothing Ordering.Less = refl
then_nothing Ordering.Equal = refl
then_nothing Ordering.Greater = refl

-- so keys compare as these texts do
pub key_order : (row other : SheetRow) (name : Name) (o : Ordering) → IsSheetRow row → row.sheet ≡ Sheet.Lei → IsRowOfSheet Sheet.Lei other → name ≡ key_and_name other
    → o ≡ slice_cmp nat_cmp (text_at row.texts 1) name.0 → o ≡ key_cmp (key row) (key other)
key_order row other name o is lei is_other is_named order =
    order ∙ ap (λ (n : Name). slice_cmp nat_cmp (text_at row.texts 1) n.0) is_named
    ∙ sym (then_nothing (slice_cmp nat_cmp (text_at row.texts 1) (text_at other.texts 1)))
    ∙ sym (ap (λ k. key_cmp k (key other)) (key_is row is lei) ∙ ap (key_cmp (text_at row.texts 1 ∷ [])) (key_is other is_other.0 is_other.1))
