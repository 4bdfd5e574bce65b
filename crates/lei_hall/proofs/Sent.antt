-- An office may move to another thread if its keeper may, and so threads may share a hall over it. This is shown part
-- by part, from the lowest up: a search through all parts at once runs out of steps.
use denote.RattleType.{RattleType}
use denote.Param.Send.{IsSend, IsSync, sendable}
use Rattle.std.proofs.Crossing.{crosses}
use Rattle.std.proofs.MapsCrossing as maps
use Rattle.lei_keeper.specs.declared.keeper.Keeper as keeper
use Rattle.lei_records.specs.contracts.record.Record as Record
use Rattle.lei_records.specs.contracts.relation.Relation as Relation
use Rattle.lei_records.specs.contracts.exception.ExceptionItem as Exception
use Rattle.lei_records.specs.contracts.item.Item as Item
use Rattle.lei_records.specs.contracts.view.RowKey as RowKey
use Rattle.copy_forms.specs.contracts.shared_item.Printed as Printed
use Rattle.copy_forms.specs.contracts.shared_item.SharedItem as SharedItem
use Rattle.register_table.specs.contracts.slots.Slot as Cell
use Rattle.register_table.specs.contracts.cells.CellMap as CellMap
use Rattle.register_table.specs.contracts.authority_key_index.AuthorityKeyIndex as Index
use Rattle.register_table.specs.contracts.ends.Ends as Ends
use Rattle.register_table.specs.contracts.parts.Parts as Parts
use Rattle.register_table.specs.contracts.parts.Note as Note
use Rattle.register_table.specs.contracts.table.Table as Table
use Rattle.upload_ledger.specs.contracts.ledger.Ledger as Ledger
use Rattle.golden_shelf.specs.contracts.shelf.Shelf as Shelf
use Rattle.upload_format.specs.contracts.reading.Reader as Reader
use Rattle.register_state.specs.contracts.books.Books as Books
use Rattle.register_state.specs.contracts.register.Register as Register
use Rattle.lei_office.specs.contracts.office.Office as Office
use Rattle.lei_hall.specs.contracts.slot.Slot as Slot

-- ---- an item that is shared

record_send : IsSend Record.the_field.row
record_send = search (maps.crosses, crosses, sendable) depth 60 fits 100000

relation_send : IsSend Relation.the_field.row
relation_send = search (maps.crosses, crosses, sendable) depth 60 fits 100000

exception_send : IsSend Exception.the_field.row
exception_send = search (maps.crosses, crosses, sendable) depth 60 fits 100000

item_send : IsSend Item.the_field.row
item_send = search (record_send, relation_send, exception_send, sendable) depth 60 fits 100000

record_sync : IsSync Record.the_field.row
record_sync = search (maps.crosses, crosses, sendable) depth 60 fits 100000

relation_sync : IsSync Relation.the_field.row
relation_sync = search (maps.crosses, crosses, sendable) depth 60 fits 100000

exception_sync : IsSync Exception.the_field.row
exception_sync = search (maps.crosses, crosses, sendable) depth 60 fits 100000

item_sync : IsSync Item.the_field.row
item_sync = search (record_sync, relation_sync, exception_sync, sendable) depth 60 fits 100000

printed_send : IsSend Printed.the_field.row
printed_send = search (item_send, crosses, sendable) depth 60 fits 100000

printed_sync : IsSync Printed.the_field.row
printed_sync = search (item_sync, crosses, sendable) depth 60 fits 100000

shared_send : IsSend SharedItem.the_field.row
shared_send = search (printed_send, printed_sync, crosses, sendable) depth 60 fits 100000

-- ---- the table

key_send : IsSend RowKey.the_field.row
key_send = search sendable depth 60 fits 100000

cell_send : IsSend Cell.the_field.row
cell_send = search (shared_send, sendable) depth 60 fits 100000

cells_send : IsSend CellMap.the_field.row
cells_send = search (cell_send, maps.crosses, crosses, sendable) depth 60 fits 100000

index_send : IsSend Index.the_field.row
index_send = search (maps.crosses, crosses, sendable) depth 60 fits 100000

ends_send : IsSend Ends.the_field.row
ends_send = search (maps.crosses, crosses, sendable) depth 60 fits 100000

parts_send : IsSend Parts.the_field.row
parts_send = search (cells_send, index_send, ends_send, sendable) depth 60 fits 100000

note_send : IsSend Note.the_field.row
note_send = search (cell_send, key_send, sendable) depth 60 fits 100000

table_send : IsSend Table.the_field.row
table_send = search (parts_send, note_send, crosses, sendable) depth 60 fits 100000

-- ---- the register

ledger_send : IsSend Ledger.the_field.row
ledger_send = search (maps.crosses, crosses, sendable) depth 60 fits 100000

shelf_send : IsSend Shelf.the_field.row
shelf_send = search (maps.crosses, crosses, sendable) depth 60 fits 100000

reader_send : IsSend Reader.the_field.row
reader_send = search (maps.crosses, crosses, sendable) depth 60 fits 100000

books_send : IsSend Books.the_field.row
books_send = search (ledger_send, table_send, crosses, sendable) depth 60 fits 100000

register_send : IsSend Register.the_field.row
register_send = search (books_send, shelf_send, reader_send, sendable) depth 60 fits 100000

-- ---- the office, and the hall over it

module _ (K : RattleType) (g : keeper.Ghosts K.Denot) where
  pub office_send : IsSend K → IsSend (Office.the_field K g).row
  office_send k = search (register_send, sendable) depth 60 fits 100000

  pub slot_send : IsSend K → IsSend (Slot.the_field K g).row
  slot_send k = search (office_send, crosses, sendable) depth 60 fits 100000
