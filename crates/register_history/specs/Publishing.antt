-- What a publication changes: the keys that were touched since the previous one, each with the row that is published.
use Rattle.std.specs.Prelude.{◌≡◌, ℕ, List, length, map, if◌then◌else◌, Option, Some, None}
use Rattle.lei_records.specs.declared.item.Item.{Item}
use Rattle.lei_records.specs.declared.view.RowKey.{RowKey}
use Rattle.lei_records.specs.Relations.{registration_in}
use Rattle.register_words.specs.declared.sheets.Sheet.{Sheet}
use Rattle.copy_csv.specs.Sheets.{SheetRow, row_of_texts}
use Rattle.golden_shelf.specs.Changes.{KeyChanges}
use Rattle.register_table.specs.Cells.{AreOwnItems}
use Rattle.register_table.specs.Held.{Held}
use Rattle.register_table.specs.Touched.{cell_under_key, touched}
use Rattle.register_table.specs.declared.touched.Touched.{Touched}
use Rattle.upload_ledger.specs.History.{History}
use Rattle.register_words.specs.declared.limits.Limits.{Limits}
use Rattle.register_history.specs.Publications.{is_annulled_relation, last_published}
use Rattle.register_history.specs.Register.{held_after}

-- The row that is published of what is held under a key. There is none if nothing is held, or if the registration of a
-- relationship is annulled.
abbrev pub row_published : Option Item → Option SheetRow
row_published None = None
row_published (Some (Item.Record row)) = Some (row_of_texts Sheet.Lei row)
row_published (Some (Item.Relation row)) = if is_annulled_relation (registration_in row) then None else Some
    (row_of_texts Sheet.Rr row)
row_published (Some (Item.Exception item)) = Some (row_of_texts Sheet.Repex item.0)

-- a touched key, with the row that is published under it
abbrev pub row_change_of : Touched → RowKey × Option SheetRow
row_change_of told = (told.key, row_published told.item)

-- These are the keys last touched by entries whose numbers are greater than one number and at most another. They are in
-- the order of the register's cells, each with the row that is published for it, or with none.
pub record AreChangesSince (after upto : ℕ) (held : Held) (changes : KeyChanges) : Type 0 where
  pub told : List Touched
  pub touched : map cell_under_key told ≡ touched after upto held
  pub own : AreOwnItems told
  pub are : changes ≡ map row_change_of told

-- What the next publication changes: the keys that were touched after the entry of the previous publication.
abbrev pub AreNextChanges : Limits → History → KeyChanges → Type 0
AreNextChanges limits history changes =
    AreChangesSince (last_published history) (length history) (held_after limits history) changes
