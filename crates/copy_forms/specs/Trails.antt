-- Trails: publications in order, with the keys that were touched between them.
use Rattle.std.specs.Prelude.{◌≡◌, ◌≤◌, ◌-◌, ℕ, ℤ, List, [], ◌∷◌, ◌++◌, map, take, drop, length, flat_map, ◌&&◌, Bool, false, true, Option, None, Some, ⊤, IsTrue, codes, pos, replicate}
use Rattle.std.specs.FinMap.{from_entries, get, keys}
use Rattle.std.specs.List.{All, list_all, list_any, slice_get}
use Rattle.std.specs.Ordering.{eq_by_cmp}
use Rattle.std.specs.Str.{is_utf8}
use Rattle.lei_code.specs.Texts.{Text}
use Rattle.lei_shapes.specs.Moment.{IsMoment}
use Rattle.lei_records.specs.Tables.{KeyTexts, key_cmp}
use Rattle.copy_csv.specs.declared.heads.Head.{Head}
use Rattle.copy_csv.specs.declared.rows.Change.{Change}
use Rattle.register_words.specs.declared.sheets.Form.{Form}
use Rattle.register_words.specs.declared.sheets.Sheet.{Sheet}
use Rattle.copy_forms.specs.Files.{copy, delta, may_be_wide}
use Rattle.copy_forms.specs.Patching.{IsPatched, rows_by_key}
use Rattle.copy_csv.specs.Rows.{AreRows}
use Rattle.copy_csv.specs.Sheets.{SheetRow, fits, key_len, row_of_texts, width}

-- A publication: its moment, whether its files are wide if they may be, and its rows of each sheet. It also has the
-- keys that were touched since the publication before it.
pub record Publication : Type 0 where
  pub moment : ℤ
  pub wide : Bool
  pub rows : Sheet → List SheetRow
  pub touched : Sheet → List KeyTexts

-- Publications in order; the first one has the number 1.
abbrev pub Trail : Type 0
Trail = List Publication

-- ---- keys

-- The row of a key, if there is one.
abbrev pub row_under : List SheetRow → KeyTexts → Option SheetRow
row_under rows k = get (rows_by_key rows) k

-- Whether the key is one of these.
abbrev pub is_key_among : KeyTexts → List KeyTexts → Bool
is_key_among k keys = list_any (eq_by_cmp key_cmp k) keys

-- The keys in order, each once.
abbrev pub keys_in_order : List KeyTexts → List KeyTexts
keys_in_order touched = keys (from_entries {R = key_cmp} (map (λ k. (k, k)) touched))

-- A key of a sheet: as many texts as the keys of its rows have, each UTF-8.
pub record IsKeyOf (sheet : Sheet) (k : KeyTexts) : Type 0 where
  pub full : length k ≡ key_len sheet
  pub utf8 : IsTrue (list_all is_utf8 k)

-- ---- sound trails

-- A publication follows another one. Its rows are rows of the sheet whose keys rise. A key that wasn't touched has the
-- same row as before, or still has none. It is wide if the one before it is. If it isn't wide, its rows of `lei` have
-- nothing for the columns that only a wide file has.
pub record IsNextPublication (before next : Publication) : Type 0 where
  pub moment_is : IsMoment next.moment
  pub rows_are : (sheet : Sheet) → AreRows sheet (next.rows sheet)
  pub keys_are : (sheet : Sheet) → All (IsKeyOf sheet) (next.touched sheet)
  pub kept : (sheet : Sheet) (k : KeyTexts) → is_key_among k (next.touched sheet) ≡ false
      → row_under (next.rows sheet) k ≡ row_under (before.rows sheet) k
  pub widens : before.wide ≡ true → next.wide ≡ true
  pub plain : next.wide ≡ false → All (λ row. IsTrue (fits false row)) (next.rows Sheet.Lei)

-- Each publication follows the one before it.
abbrev pub FollowOn : Publication → Trail → Type 0
FollowOn before [] = ⊤
FollowOn before (next ∷ later) = IsNextPublication before next × FollowOn next later

-- What precedes the first publication: a narrow one with no rows. Its moment has no meaning.
abbrev pub nothing_published : Publication
nothing_published = record { moment = pos 0; wide = false; rows = λ sheet. []; touched = λ sheet. [] }

-- A trail is sound if each publication follows the one before it.
abbrev pub IsSoundTrail : Trail → Type 0
IsSoundTrail trail = FollowOn nothing_published trail

-- ---- copies and deltas of a trail

-- The head of the copy of a publication with this number.
abbrev pub copy_head : ℕ → Publication → Head
copy_head number publication = record { moment = publication.moment; publication = number; from = 0 }

-- The head of the delta to a publication from another one.
abbrev pub delta_head : ℕ → ℕ → Publication → Head
delta_head from number publication = record { moment = publication.moment; publication = number; from = from }

-- Whether the files of a publication of this sheet and form are wide.
abbrev pub is_wide_in : Publication → Sheet → Form → Bool
is_wide_in publication sheet form = publication.wide && may_be_wide sheet form

-- The copy of a publication, in its width.
abbrev pub copy_of : ℕ → Publication → Sheet → Form → Text
copy_of number publication sheet form =
    copy sheet form (is_wide_in publication sheet form) (copy_head number publication)
    (publication.rows sheet)

-- The row of a dropped key: the key, followed by empty texts.
abbrev pub dropped_row : Sheet → KeyTexts → SheetRow
dropped_row sheet k = row_of_texts sheet (k ++ replicate (width sheet - key_len sheet) (codes ""))

-- What a delta says about a key, given the row that the key has now.
abbrev pub change_to : Sheet → KeyTexts → Option SheetRow → Change
change_to sheet k (Some row) = Change.Put row
change_to sheet k None = Change.Drop (dropped_row sheet k)

-- The same, given all the rows that there are now.
abbrev pub change_at_key : Sheet → List SheetRow → KeyTexts → Change
change_at_key sheet rows k = change_to sheet k (row_under rows k)

-- The keys of a sheet that were touched by these publications.
abbrev pub touched_in : Sheet → List Publication → List KeyTexts
touched_in sheet later = flat_map (λ publication. publication.touched sheet) later

-- The publications of a trail after the one with the number `from`, up to the one with the number `number`.
abbrev pub between : Trail → ℕ → ℕ → List Publication
between trail from number = take (number - from) (drop from trail)

-- The changes of the delta between two publications: the keys that were touched after the first one, up to the second
-- one. Each key comes once and in order, with its row in the second one, if it has one.
abbrev pub changes_between : Trail → ℕ → ℕ → Publication → Sheet → List Change
changes_between trail from number publication sheet =
    map (change_at_key sheet (publication.rows sheet)) (keys_in_order (touched_in sheet (between trail from number)))

-- The delta between two publications, in the width of the later one.
abbrev pub delta_between : Trail → ℕ → ℕ → Publication → Sheet → Form → Text
delta_between trail from number publication sheet form =
    delta sheet form (is_wide_in publication sheet form) (delta_head from number publication)
    (changes_between trail from number publication sheet)

-- The publication with this number, counted from 1.
abbrev pub publication_at : Trail → ℕ → Option Publication
publication_at trail number = slice_get trail (number - 1)

-- In the trail, take the copy of a publication and the delta from it to the same or a later one. The copy patched by
-- the delta is the copy of that one, byte for byte.
abbrev pub DeltasLeadOn : Trail → Type 0
DeltasLeadOn trail =
    (p q : ℕ) (base latest : Publication) → 1 ≤ p → p ≤ q → publication_at trail p ≡ Some base
    → publication_at trail q ≡ Some latest
    → (sheet : Sheet) (form : Form)
    → IsPatched (copy_of p base sheet form) (delta_between trail p q latest sheet form)
    (copy_of q latest sheet form) sheet form

-- In the trail, take the copy of a publication. Also take a delta from the same or an earlier one to the same or a
-- later one. The copy patched by the delta is the copy of the one that the delta leads to, byte for byte.
abbrev pub DeltasLeadOnFromBetween : Trail → Type 0
DeltasLeadOnFromBetween trail =
    (p q r : ℕ) (copied latest : Publication) → 1 ≤ p → p ≤ q → q ≤ r
    → publication_at trail q ≡ Some copied → publication_at trail r ≡ Some latest
    → (sheet : Sheet) (form : Form)
    → IsPatched (copy_of q copied sheet form) (delta_between trail p r latest sheet form)
    (copy_of r latest sheet form) sheet form
