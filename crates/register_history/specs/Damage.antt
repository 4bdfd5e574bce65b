-- Damage: the first difference between what a keeper has and what the replay of its entries makes. This project's
-- profile.
use Rattle.std.specs.Prelude.{◌≡◌, ◌≢◌, ◌⊎◌, ℕ, ◌+◌, ◌*◌, ℤ, ◌<◌, List, [], ◌∷◌, ◌++◌, length, map, codes, decimal, Bool, ◌&&◌, ◌==◌, nat_le, nat_lt, is_none, if◌then◌else◌, Option, Some, None, option_map}
use Rattle.std.specs.Fmt.{signed_decimal}
use Rattle.lei_code.specs.Fault.{fault_of}
use Rattle.lei_code.specs.Texts.{Text}
use Rattle.lei_shapes.specs.Clock.{moment_text}
use Rattle.lei_shapes.specs.Moment.{is_moment}
use Rattle.lei_values.specs.KeptTables.{IsEntryNumber, KeptTables, cells_between}
use Rattle.lei_values.specs.declared.entry.KeptEntry.{KeptEntry}
use Rattle.lei_values.specs.declared.cell.KeptCell.{KeptCell}
use Rattle.lei_records.specs.Tables.{KeyTexts}
use Rattle.register_words.specs.declared.sheets.Sheet.{Sheet}
use Rattle.copy_csv.specs.Sheets.{row_of_texts}
use Rattle.copy_forms.specs.Json.{json_record}
use Rattle.register_table.specs.Held.{Cell, Held}
use Rattle.register_table.specs.Touched.{touched}
use Rattle.upload_ledger.specs.History.{History, is_accreditation, is_publication, is_upload}
use Rattle.register_words.specs.declared.limits.Limits.{Limits}
use Rattle.register_history.specs.declared.damage.Damage.{Damage}
use Rattle.register_words.specs.declared.request.Request.{Request}
use Rattle.register_words.specs.declared.request.Request.TheVariants.{Accredit, Publish, Upload}
use Rattle.register_history.specs.Kept.{AreTablesOf, with_spaces}
use Rattle.register_history.specs.Legal.{IsNext, Legal, rules_may_follow}
use Rattle.register_words.specs.Words.{number_limit}
use Rattle.register_history.specs.Register.{held_after}
use Rattle.register_history.specs.Replies.{Outcome, adds, outcome_by, stays}
use Rattle.register_history.specs.State.{OfficeState, office_of}
use Rattle.register_words.specs.Refusals.{reply_words}

-- ---- how an entry is reported

-- a kind by its word, or by its number if it has no word
abbrev pub kind_word : ℕ → Text
kind_word kind = if kind == 1 then codes "ACCREDIT"
    else (if kind == 2 then codes "UPLOAD" else (if kind == 3 then codes "PUBLISH" else decimal kind))

-- a text, and `-` for an empty one
abbrev pub or_dash : Text → Text
or_dash text = if length text == 0 then codes "-" else text

-- a moment in its printed form, and seconds outside the range of moments as a number
abbrev pub moment_word : ℤ → Text
moment_word seconds = if is_moment seconds then moment_text seconds else signed_decimal seconds

-- An entry in one line: its number, its kind, its office, its own number, its moment, its rules and its answer,
-- separated by single spaces.
unfoldable pub entry_line : KeptEntry → Text
entry_line e = with_spaces (decimal e.seq ∷ kind_word e.kind ∷ or_dash e.office ∷ decimal e.number
    ∷ moment_word e.moment
    ∷ decimal e.rules ∷ e.answer ∷ [])

-- ---- what the replay makes of a stored entry

-- the text is an LEI
abbrev pub is_lei : Text → Bool
is_lei text = is_none (fault_of text)

-- the number is one that an upload or a publication may have
abbrev pub is_number : ℕ → Bool
is_number number = nat_le 1 number && nat_le number number_limit

-- an accreditation names an LEI, and has neither a number nor a body
abbrev pub stored_accreditation : KeptEntry → Option Request
stored_accreditation e =
    if is_lei e.office && e.number == 0 && length e.body == 0 then Some (Accredit e.office) else None

-- an upload names an LEI, and has a number that an upload may have
abbrev pub stored_upload : KeptEntry → Option Request
stored_upload e = if is_lei e.office && is_number e.number
    then Some (Upload (record { office = e.office; number = e.number; body = e.body })) else None

-- a publication has a number that it may have, and neither an office nor a body
abbrev pub stored_publication : KeptEntry → Option Request
stored_publication e =
    if length e.office == 0 && is_number e.number && length e.body == 0 then Some (Publish e.number) else None

-- the request that an entry of this kind was made for
abbrev pub request_in : KeptEntry → Option Request
request_in e = if is_accreditation e then stored_accreditation e
    else (if is_upload e then stored_upload e else (if is_publication e then stored_publication e else None))

-- The request that a stored entry was made for. There is none if its values aren't those of a request, or if its moment
-- isn't a moment. Nor is there one if its rules may not follow those of the entry before it.
unfoldable pub stored_request : History → KeptEntry → Option Request
stored_request before e = if is_moment e.moment && rules_may_follow before e.rules then request_in e else None

-- the entry that results from a request, in a line, or the text of the reply if there is no entry
abbrev pub expected_text : Outcome → Text
expected_text (adds made) = entry_line made
expected_text (stays reply) = reply_words reply

-- the same for the request that a stored entry was made for, by the entry's rules at its moment
abbrev pub request_text : OfficeState → KeptEntry → Option Request → Text
request_text office e None = codes "NOT_AN_ENTRY"
request_text office e (Some request) = expected_text (outcome_by e.rules office request e.moment)

-- what the replay makes of a stored entry
abbrev pub replayed_text : OfficeState → KeptEntry → Text
replayed_text office e = request_text office e (stored_request office.history e)

-- ---- the first entry that differs

-- a stored entry that isn't what the replay makes
abbrev pub not_next : OfficeState → KeptEntry → Damage
not_next office e = record { entry = e.seq; kept = entry_line e; replayed = replayed_text office e }

-- no entry with this number is stored
abbrev pub missing_entry : ℕ → Damage
missing_entry number = record { entry = number; kept = codes "none"; replayed = codes "NOT_AN_ENTRY" }

-- The entry that is stored in place of the one with this number isn't what the replay makes, or has another number. If
-- it has another number, none with this number is stored.
abbrev pub EntryDiffers : OfficeState → ℕ → KeptEntry → Damage → Type 0
EntryDiffers office number e damage =
    ((e.seq ≡ number) × (IsNext office e → ⊥) × (damage ≡ not_next office e))
    ⊎ ((e.seq ≢ number) × (damage ≡ missing_entry number))

-- The first entry that differs: those before it are a legal history, and it isn't the next entry of that history.
pub record IsEntryDamage (limits : Limits) (entries : History) (damage : Damage) : Type 0 where
  pub before : History
  pub next : KeptEntry
  pub rest : History
  pub are : entries ≡ before ++ next ∷ rest
  pub legal : Legal (office_of limits before)
  pub differs : EntryDiffers (office_of limits before) (length before + 1) next damage

-- ---- how a cell is reported

-- the number of a cell's kind, which is a text of one byte
abbrev pub kind_number_in : Text → ℕ
kind_number_in [] = 0
kind_number_in (kind ∷ text) = kind

-- the sheet with the rows of this kind
abbrev pub sheet_at : ℕ → Sheet
sheet_at kind = if kind == 1 then Sheet.Lei else (if kind == 2 then Sheet.Rr else Sheet.Repex)

-- a cell of the register, as it is kept
abbrev pub cell_to_keep : KeyTexts × Cell → KeptCell
cell_to_keep ([], cell) = record { kind = 0; name = []; touched = cell.entry; row = None }
cell_to_keep (kind ∷ texts, cell) = record {
  kind = kind_number_in kind;
  name = with_spaces texts;
  touched = cell.entry;
  row = option_map (λ row. json_record (row_of_texts (sheet_at (kind_number_in kind)) row)) cell.row;
}

-- the text of a row, and `-` for none
abbrev pub row_word : Option Text → Text
row_word None = codes "-"
row_word (Some row) = row

-- A cell in one line: the number of its kind, its name, the number of the entry that touched it last, and its row.
-- Single spaces separate them.
unfoldable pub cell_line : KeptCell → Text
cell_line cell = with_spaces (decimal cell.kind ∷ cell.name ∷ decimal cell.touched ∷ row_word cell.row ∷ [])

-- ---- the first cell that differs

-- Cells are compared in pages by the entry that touched them last. The first page has those of the first 16 entries,
-- the second those of the next 16, and so on up to the last entry. Then come those that no entry touched.
abbrev pub page_bounds : ℕ → ℕ → ℕ × ℕ
page_bounds last page = if nat_lt (16 * page) last
    then (16 * page, if nat_le (16 * page + 16) last then 16 * page + 16 else last)
    else (last, 18_446_744_073_709_551_615)

-- the kept cells of a page, in the order of kinds and names
abbrev pub kept_page : KeptTables → ℕ × ℕ → List KeptCell
kept_page tables bounds = cells_between bounds.0 bounds.1 tables

-- those of the register, in the same order
abbrev pub made_page : Held → ℕ × ℕ → List KeptCell
made_page held bounds = map cell_to_keep (touched bounds.0 bounds.1 held)

-- a cell in its line, or `none` if there is none
abbrev pub cell_or_none : Option KeptCell → Text
cell_or_none None = codes "none"
cell_or_none (Some cell) = cell_line cell

-- a kept cell that isn't the register's cell in its place, if there is one
abbrev pub not_made : KeptCell → Option KeptCell → Damage
not_made kept made = record { entry = kept.touched; kept = cell_line kept; replayed = cell_or_none made }

-- a cell of the register that isn't kept, and after which no cell is kept
abbrev pub not_kept : KeptCell → Damage
not_kept made = record { entry = made.touched; kept = codes "none"; replayed = cell_line made }

-- the first of the kept cells and the first of the register's cells differ
abbrev pub CellDiffers : List KeptCell → List KeptCell → Damage → Type 0
CellDiffers [] [] damage = ⊥
CellDiffers [] (made ∷ others) damage = damage ≡ not_kept made
CellDiffers (kept ∷ rest) [] damage = damage ≡ not_made kept None
CellDiffers (kept ∷ rest) (made ∷ others) damage = (kept ≢ made) × (damage ≡ not_made kept (Some made))

-- The first place at which two lists of cells differ.
pub record DifferFirst (kept made : List KeptCell) (damage : Damage) : Type 0 where
  pub front : List KeptCell
  pub kept_rest : List KeptCell
  pub made_rest : List KeptCell
  pub kept_is : kept ≡ front ++ kept_rest
  pub made_is : made ≡ front ++ made_rest
  pub differs : CellDiffers kept_rest made_rest damage

-- The first cell that differs from those of a register after this many entries. The pages before its own have the same
-- cells, and so has its own page up to that cell.
pub record IsCellDamage (last : ℕ) (held : Held) (tables : KeptTables) (damage : Damage) : Type 0 where
  pub page : ℕ
  pub earlier : (k : ℕ) → k < page
      → kept_page tables (page_bounds last k) ≡ made_page held (page_bounds last k)
  pub differs : DifferFirst (kept_page tables (page_bounds last page))
      (made_page held (page_bounds last page)) damage

-- ---- damage

-- The first difference is the first entry that differs. If the entries are a legal history, it is the first cell that
-- differs from those of the register after it.
abbrev pub IsDamage : Limits → KeptTables → Damage → Type 0
IsDamage limits tables damage = IsEntryDamage limits tables.entries damage
    ⊎ (Legal (office_of limits tables.entries)
    × IsCellDamage (length tables.entries) (held_after limits tables.entries) tables damage)

-- The tables are those of a legal history under these limits.
abbrev pub AreOfHistory : Limits → KeptTables → Type 0
AreOfHistory limits tables = Legal (office_of limits tables.entries)
    × AreTablesOf (office_of limits tables.entries) tables

-- What has damage isn't what a history leaves.
abbrev pub DamageExcludes : Limits → KeptTables → Type 0
DamageExcludes limits tables = (damage : Damage) → IsDamage limits tables damage
    → AreOfHistory limits tables → ⊥

-- If an entry is the first difference, the two texts that report it differ.
abbrev pub EntryTextsDiffer : Limits → History → Type 0
EntryTextsDiffer limits entries = (damage : Damage) → IsEntryDamage limits entries damage
    → damage.kept ≢ damage.replayed

-- A store has one first difference: no two different damages are its first difference.
abbrev pub DamageIsOne : Limits → KeptTables → Type 0
DamageIsOne limits tables = (one other : Damage) → IsDamage limits tables one
    → IsDamage limits tables other → one ≡ other

-- Take the line of a cell that an entry touched. If the cell's kind and name are known, the line shows the number of
-- that entry and the word of the row.
abbrev pub LineTellsCell : KeptCell → KeptCell → Type 0
LineTellsCell one other = one.kind ≡ other.kind → one.name ≡ other.name → IsEntryNumber one.touched
    → IsEntryNumber other.touched → cell_line one ≡ cell_line other
    → (one.touched ≡ other.touched) × (row_word one.row ≡ row_word other.row)
