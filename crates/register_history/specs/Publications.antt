-- Publications: the golden copies that a history made, one after another. This project's profile.
use Rattle.std.specs.Prelude.{◌≡◌, ℕ, nat_le, nat_lt, List, [], ◌∷◌, ◌++◌, length, map, flat_map, filter, Bool, true, false, not, if◌then◌else◌}
use Rattle.std.specs.FinMap.{values}
use Rattle.std.specs.Str.{bytes_eq}
use Rattle.lei_code.specs.Texts.{Text}
use Rattle.lei_values.specs.KeptTables.{entry_number}
use Rattle.lei_values.specs.declared.entry.KeptEntry.{KeptEntry}
use Rattle.lei_shapes.specs.declared.lists.RelationRegistration.{RelationRegistration}
use Rattle.lei_records.specs.Relations.{registration_in}
use Rattle.lei_records.specs.Rows.{Row}
use Rattle.lei_records.specs.Tables.{KeyTexts, Rows, Table}
use Rattle.copy_csv.specs.Sheets.{SheetRow, row_of_texts}
use Rattle.register_words.specs.declared.sheets.Sheet.{Sheet}
use Rattle.copy_forms.specs.Trails.{Publication, Trail, is_key_among}
use Rattle.register_table.specs.Held.{Held, cell_key, exception_kind, record_kind, relation_kind}
use Rattle.register_table.specs.Touched.{touched}
use Rattle.register_table.specs.Undos.{WriteList}
use Rattle.upload_ledger.specs.History.{History, is_publication, last_entry, publications}
use Rattle.register_words.specs.declared.limits.Limits.{Limits}
use Rattle.register_history.specs.Register.{after, entry_writes, held_after}
use Rattle.register_history.specs.State.{OfficeState}

-- ---- the rows that are published

-- the rows of a table that belong to a sheet, under their keys and in the order of the keys
abbrev pub sheet_rows : Table → Sheet → Rows
sheet_rows table Sheet.Lei = table.records
sheet_rows table Sheet.Rr = table.relations
sheet_rows table Sheet.Repex = table.exceptions

-- the registration of a relationship is annulled
abbrev pub is_annulled_relation : RelationRegistration → Bool
is_annulled_relation RelationRegistration.Issued = false
is_annulled_relation RelationRegistration.Published = false
is_annulled_relation RelationRegistration.Lapsed = false
is_annulled_relation RelationRegistration.Retired = false
is_annulled_relation RelationRegistration.Annulled = true

-- each row is published, except a relationship whose registration is annulled
abbrev pub is_published : Sheet → Row → Bool
is_published Sheet.Lei row = true
is_published Sheet.Rr row = not (is_annulled_relation (registration_in row))
is_published Sheet.Repex row = true

-- the rows of a sheet that are published from a table, in the order of their keys
abbrev pub published_rows : Table → Sheet → List SheetRow
published_rows table sheet = map (row_of_texts sheet) (filter (is_published sheet) (values (sheet_rows table sheet)))

-- ---- the keys that were touched

-- the kind of the cells whose rows belong to a sheet
abbrev pub cell_kind : Sheet → Text
cell_kind Sheet.Lei = record_kind
cell_kind Sheet.Rr = relation_kind
cell_kind Sheet.Repex = exception_kind

-- the key of a cell's row, if the row belongs to this sheet
abbrev pub key_within : Sheet → KeyTexts → List KeyTexts
key_within sheet [] = []
key_within sheet (kind ∷ key) = if bytes_eq kind (cell_kind sheet) then key ∷ [] else []

-- the keys of a sheet touched by entries whose numbers are greater than the first number and at most the second
abbrev pub keys_touched : ℕ → ℕ → Held → Sheet → List KeyTexts
keys_touched after upto held sheet = flat_map (λ cell. key_within sheet cell.0) (touched after upto held)

-- the keys of a sheet under which these writes put or remove a row
abbrev pub keys_written : Sheet → WriteList → List KeyTexts
keys_written sheet writes = flat_map (λ write. key_within sheet (cell_key write.0)) writes

-- the keys of a sheet, of the accepted items of an entry's upload, judged on the table that these entries leave
abbrev pub keys_accepted : Limits → History → KeptEntry → Sheet → List KeyTexts
keys_accepted limits before e sheet = keys_written sheet (entry_writes limits (after limits before) e)

-- The same for all entries of the rest whose number is greater, each judged on those before it.
abbrev pub keys_accepted_since : ℕ → Limits → History → History → Sheet → List KeyTexts
keys_accepted_since number limits before [] sheet = []
keys_accepted_since number limits before (e ∷ rest) sheet =
    (if nat_lt number e.seq then keys_accepted limits before e sheet else [])
    ++ keys_accepted_since number limits (before ++ e ∷ []) rest sheet

-- ---- the publications of a history

-- the number of the entry that made the latest publication, or 0 if there is none
abbrev pub last_published : History → ℕ
last_published history = entry_number (last_entry (publications history))

-- the files of a publication are wide, if they may be, if its entry has the third rules or later ones
abbrev pub are_wide_rules : ℕ → Bool
are_wide_rules rules = nat_le 3 rules

-- The publication that an entry makes after these. It has the moment of the entry, and tells whether its files are
-- wide. It has the rows of the register that the entries before leave, and the keys that were touched after the
-- previous publication.
abbrev pub publication_by : Limits → History → KeptEntry → Publication
publication_by limits before e = record {
  moment = e.moment;
  wide = are_wide_rules e.rules;
  rows = published_rows (after limits before);
  touched = keys_touched (last_published before) (length before) (held_after limits before);
}

-- what an entry publishes after these: a publication if it is of this kind, and otherwise nothing
abbrev pub published_by : Limits → History → KeptEntry → Trail
published_by limits before e = if is_publication e then publication_by limits before e ∷ [] else []

-- what the rest of a history publishes after the entries before it
abbrev pub trail_after : Limits → History → History → Trail
trail_after limits before [] = []
trail_after limits before (e ∷ rest) = published_by limits before e
    ++ trail_after limits (before ++ e ∷ []) rest

-- the publications of a history, the first of which has the number 1
unfoldable pub trail : OfficeState → Trail
trail office = trail_after office.limits [] office.history

-- A publication counts a key as touched exactly if an item of that key was accepted between the previous publication
-- and its own entry.
abbrev pub TouchedKeysWereAccepted : OfficeState → Type 0
TouchedKeysWereAccepted office =
    (before rest : History) (e : KeptEntry) (sheet : Sheet) (k : KeyTexts)
    → office.history ≡ before ++ e ∷ rest
    → is_key_among k ((publication_by office.limits before e).touched sheet)
    ≡ is_key_among k (keys_accepted_since (last_published before) office.limits [] before sheet)
