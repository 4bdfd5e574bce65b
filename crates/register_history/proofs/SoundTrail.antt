-- The publications of a legal history are a sound trail.
use Rattle.std.proofs.Common.{◌≡◌, ℕ, ◌≤◌, ◌&&◌, ◌++◌, List, [], ◌∷◌, length, filter, map, Bool, true, false, cond, Option, Some, None, unwrap_or, refl, sym, subst, ◌∙◌}
use Rattle.std.specs.FinMap.{entries, entries_sorted, get, get-entries}
use Rattle.std.specs.List.{All, AllByRecursion, list_all}
use Rattle.std.specs.Str.{IsUtf8, is_utf8}
use Rattle.std.proofs.lemmas.List.Elements.{All-append, All-cons, All-nil}
use Rattle.std.proofs.lemmas.Str.{IsUtf8-from_ascii, is_utf8-from_IsUtf8}
use Rattle.lei_code.specs.Code.{IsValid}
use Rattle.lei_values.specs.declared.entry.KeptEntry.{KeptEntry}
use Rattle.lei_shapes.specs.declared.lists.ExceptionCategory.{ExceptionCategory}
use Rattle.lei_shapes.specs.declared.lists.RelationType.{RelationType}
use Rattle.lei_shapes.specs.Lists.{exception_category_text, relation_type_text}
use Rattle.lei_records.specs.Rows.{Row}
use Rattle.lei_shapes.specs.Moment.{IsMoment}
use Rattle.lei_records.specs.Tables.{IsSoundTable, KeyTexts, Table}
use Rattle.lei_records.specs.declared.view.RowKey.{RowKey}
use Rattle.register_words.specs.declared.sheets.Sheet.{Sheet}
use Rattle.copy_csv.specs.Rows.{AreRows, IsRowOfSheet}
use Rattle.copy_csv.specs.Sheets.{row_of_texts, width}
use Rattle.copy_forms.specs.Trails as trails
use Rattle.copy_forms.specs.Trails.{FollowOn, IsKeyOf, nothing_published}
use Rattle.golden_shelf.specs.Keys.{is_key_of, key_texts, sheet_of_key}
use Rattle.golden_shelf.specs.Shelves.{latest_or_nothing}
use Rattle.register_table.specs.Held.{Cell, Held, cell_key, row_in}
use Rattle.register_table.specs.Touched.{touched}
use Rattle.upload_ledger.specs.History.{History, is_publication, last_entry}
use Rattle.register_words.specs.declared.limits.Limits.{Limits}
use Rattle.register_history.specs.Kept.{IsKey}
use Rattle.register_history.specs.Legal.{Legal, LegalAfter, last_rules}
use Rattle.register_history.specs.Standing.{AreRowCells}
use Rattle.register_history.specs.Publications.{is_published, key_within, keys_touched, last_published, publication_by, published_rows, sheet_rows, trail, trail_after}
use Rattle.register_history.specs.Register.{after, held_after}
use Rattle.register_history.specs.State.{OfficeState, office_of}
use Rattle.register_history.proofs.Histories.{Legal-push, follows-within}
use Rattle.upload_format.proofs.JsonTexts.{If}
use Rattle.register_history.proofs.Stored.{held-stands}
use Rattle.register_history.proofs.NextIssue.{IsFoundIn, keys_among, of-sheet, stays-published, touched-each, within-key}
use Rattle.register_history.proofs.PlaceLemmas.{category_is_ascii, lei_ascii, type_is_ascii}
use Rattle.register_history.proofs.PlainRows.{never-narrows, rows-plain}
use Rattle.register_history.proofs.PublishedRows.{each-found, rows-rise, rows_listed}
use Rattle.register_history.proofs.Registers.{after-fit}
use Rattle.register_history.proofs.SentTexts.{AreUtf8, held-texts}
use Rattle.register_history.proofs.TrailGrowth.{trail-made, trail-same}
use Rattle.register_history.proofs.UntouchedKeys.{cell_at, table-cell}

joined : (a b : Bool) → a ≡ true → b ≡ true → (a && b) ≡ true
joined true b p q = q
joined false b p q = p

-- ---- rows

all-utf8 : (texts : List (List ℕ)) → AllByRecursion IsUtf8 texts → list_all is_utf8 texts ≡ true
all-utf8 [] are = refl
all-utf8 (text ∷ texts) are = joined (is_utf8 text) (list_all is_utf8 texts) (is_utf8-from_IsUtf8 text are.0) (all-utf8 texts are.1)

held-utf8 : (limits : Limits) (history : History) (sheet : Sheet) (k : KeyTexts) (row : Row) → get (sheet_rows (after limits history) sheet) k ≡ Some row → AreUtf8 row
held-utf8 limits history sheet k row at = by (get (held_after limits history) (cell_at sheet k)) refl (sym (table-cell limits history sheet k) ∙ at)
  where
    by : (found : Option Cell) → get (held_after limits history) (cell_at sheet k) ≡ found → row_in found ≡ Some row → AreUtf8 row
    by None is none = cc
    by (Some cell) is same = subst (If AreUtf8) same (held-texts limits history (cell_at sheet k) cell is)

row-full : (table : Table) (sheet : Sheet) (k : KeyTexts) (row : Row) → IsSoundTable table → get (sheet_rows table sheet) k ≡ Some row → length row ≡ width sheet
row-full table Sheet.Lei k row sound at = (sound.rows k row at).places
row-full table Sheet.Rr k row sound at = (sound.relation_rows k row at).places
row-full table Sheet.Repex k row sound at = (sound.exception_rows k row at).places

held-row : (limits : Limits) (history : History) (sheet : Sheet) (k : KeyTexts) (row : Row) → get (sheet_rows (after limits history) sheet) k ≡ Some row
    → IsRowOfSheet sheet (row_of_texts sheet row)
held-row limits history sheet k row at = (
  record {
    full = row-full (after limits history) sheet k row (after-fit limits history).sound at;
    utf8 = all-utf8 row (held-utf8 limits history sheet k row at);
  },
  refl,
)

all-listed : (sheet : Sheet) (es : List (KeyTexts × Row)) → AllByRecursion (λ e. IsRowOfSheet sheet (row_of_texts sheet e.1)) es → All (IsRowOfSheet sheet) (rows_listed sheet es)
all-listed sheet [] are = All-nil (IsRowOfSheet sheet)
all-listed sheet (e ∷ es) are = by (is_published sheet e.1) (all-listed sheet es are.1)
  where
    rest : List Row
    rest = filter (is_published sheet) (map (λ (e : KeyTexts × Row). e.1) es)

    by : (b : Bool) → All (IsRowOfSheet sheet) (rows_listed sheet es) → All (IsRowOfSheet sheet) (map (row_of_texts sheet) (cond b (e.1 ∷ rest) rest))
    by true later = All-cons (IsRowOfSheet sheet) (row_of_texts sheet e.1) (rows_listed sheet es) are.0 later
    by false later = later

-- the rows of a publication
pub rows-are : (limits : Limits) (history : History) (sheet : Sheet) → AreRows sheet (published_rows (after limits history) sheet)
rows-are limits history sheet =
    let held = sheet_rows (after limits history) sheet in
    record {
      each = all-listed sheet (entries held) (each-found (λ k row. IsRowOfSheet sheet (row_of_texts sheet row)) (entries held) (entries_sorted held)
          (λ k row found. held-row limits history sheet k row (get-entries held k ∙ found)));
      rising = rows-rise (after limits history) sheet (after-fit limits history).sound;
    }

-- ---- keys

lei-utf8 : (lei : List ℕ) → IsValid lei → is_utf8 lei ≡ true
lei-utf8 lei valid = is_utf8-from_IsUtf8 lei (IsUtf8-from_ascii lei (lei_ascii lei valid))

type-utf8 : (kind : RelationType) → is_utf8 (relation_type_text kind) ≡ true
type-utf8 kind = is_utf8-from_IsUtf8 (relation_type_text kind) (IsUtf8-from_ascii (relation_type_text kind) (type_is_ascii kind))

category-utf8 : (category : ExceptionCategory) → is_utf8 (exception_category_text category) ≡ true
category-utf8 category =
    is_utf8-from_IsUtf8 (exception_category_text category) (IsUtf8-from_ascii (exception_category_text category) (category_is_ascii category))

-- a key whose LEIs are valid belongs to its sheet
pub key-is : (k : RowKey) → IsKey k → IsKeyOf (sheet_of_key k) (key_texts k)
key-is (RowKey.Rec lei) is = record { full = refl; utf8 = joined (is_utf8 lei) true (lei-utf8 lei is) refl }
key-is (RowKey.Rel start kind end) is = record {
  full = refl;
  utf8 = joined (is_utf8 start) _ (lei-utf8 start is.0)
      (joined (is_utf8 (relation_type_text kind)) _ (type-utf8 kind) (joined (is_utf8 end) true (lei-utf8 end is.1) refl));
}
key-is (RowKey.Exc lei category) is = record {
  full = refl;
  utf8 = joined (is_utf8 lei) _ (lei-utf8 lei is) (joined (is_utf8 (exception_category_text category)) true (category-utf8 category) refl);
}

within-keys : (sheet : Sheet) (k : RowKey) → IsKey k → All (IsKeyOf sheet) (key_within sheet (cell_key k))
within-keys sheet k is = subst (All (IsKeyOf sheet)) (sym (within-key sheet k)) (by (is_key_of sheet k) refl)
  where
    by : (b : Bool) → is_key_of sheet k ≡ b → All (IsKeyOf sheet) (cond b (key_texts k ∷ []) [])
    by true own = All-cons (IsKeyOf sheet) (key_texts k) [] (subst (λ s. IsKeyOf s (key_texts k)) (of-sheet sheet k own) (key-is k is)) (All-nil (IsKeyOf sheet))
    by false other = All-nil (IsKeyOf sheet)

keys-listed : (number : ℕ) (held : Held) (sheet : Sheet) (es : List (KeyTexts × Cell)) → AreRowCells number held → AllByRecursion (IsFoundIn held) es
    → All (IsKeyOf sheet) (keys_among sheet es)
keys-listed number held sheet [] all found = All-nil (IsKeyOf sheet)
keys-listed number held sheet (e ∷ es) all found =
    let stands = all e.0 e.1 found.0 in
    All-append (IsKeyOf sheet) (key_within sheet e.0) (keys_among sheet es)
    (subst (λ q. All (IsKeyOf sheet) (key_within sheet q)) (sym stands.under) (within-keys sheet stands.row_key stands.is_key))
    (keys-listed number held sheet es all found.1)

-- the keys of a publication
keys-are : (limits : Limits) (history : History) (sheet : Sheet) → Legal (office_of limits history)
    → All (IsKeyOf sheet) (keys_touched (last_published history) (length history) (held_after limits history) sheet)
keys-are limits history sheet legal =
    keys-listed (length history) (held_after limits history) sheet (touched (last_published history) (length history) (held_after limits history))
    (held-stands limits history legal) (touched-each (last_published history) (length history) (held_after limits history))

-- ---- each publication follows the previous one

publication-next : (limits : Limits) (history : History) (e : KeptEntry) → Legal (office_of limits history) → IsMoment e.moment → last_rules (last_entry history) ≤ e.rules
    → trails.IsNextPublication (latest_or_nothing (trail (office_of limits history))) (publication_by limits history e)
publication-next limits history e legal is rising = record {
  moment_is = is;
  rows_are = rows-are limits history;
  keys_are = λ sheet. keys-are limits history sheet legal;
  kept = λ sheet k never. stays-published limits history sheet k legal never;
  widens = never-narrows limits history e.rules legal rising;
  plain = rows-plain limits history e.rules legal rising;
}

follow-from : (limits : Limits) (before rest : History) → Legal (office_of limits before) → LegalAfter limits before rest
    → FollowOn (latest_or_nothing (trail (office_of limits before))) (trail_after limits before rest)
follow-from limits before [] legal next = tt
follow-from limits before (e ∷ rest) legal next =
    by (is_publication e) refl (follow-from limits (before ++ e ∷ []) rest (Legal-push limits before e legal next.0) next.1)
  where
    by : (b : Bool) → is_publication e ≡ b → FollowOn (latest_or_nothing (trail (office_of limits (before ++ e ∷ [])))) (trail_after limits (before ++ e ∷ []) rest)
        → FollowOn (latest_or_nothing (trail (office_of limits before))) (cond b (publication_by limits before e ∷ []) [] ++ trail_after limits (before ++ e ∷ []) rest)
    by true is later = (
      publication-next limits before e legal next.0.3 (follows-within before e.rules next.0.4).rising,
      subst (λ o. FollowOn (unwrap_or o nothing_published) (trail_after limits (before ++ e ∷ []) rest)) (trail-made limits before e is) later,
    )
    by false is later = subst (λ t. FollowOn (latest_or_nothing t) (trail_after limits (before ++ e ∷ []) rest)) (trail-same limits before e is) later

pub legal-sound : (office : OfficeState) → Legal office → trails.IsSoundTrail (trail office)
unfolding Legal trail
legal-sound office legal = follow-from office.limits [] office.history tt legal
