-- What an index has of a golden copy of `lei`, and how a delta changes it: this project's profile.
use Rattle.std.specs.Prelude.{◌≡◌, ◌≢◌, ℕ, Bool, List, Option, Some, map, true, false, option_map, ⊤}
use Rattle.lei_code.specs.Texts.{Text}
use Rattle.lei_records.specs.Rows.{text_at}
use Rattle.copy_csv.specs.declared.heads.DeltaRead.{DeltaRead}
use Rattle.copy_csv.specs.declared.heads.Head.{Head}
use Rattle.register_words.specs.declared.sheets.Sheet.{Sheet}
use Rattle.copy_csv.specs.Rows.{AreRows}
use Rattle.copy_csv.specs.Sheets.{SheetRow}
use Rattle.name_search.specs.declared.faults.TakeFault.{TakeFault}
use Rattle.name_search.specs.declared.faults.TakeFault.TheVariants as faults

-- The key of a row of `lei`, which is its LEI, and its legal name.
abbrev pub Name : Type 0
Name = Text × Text

-- They are the first and the second text of the row.
abbrev pub key_and_name : SheetRow → Name
key_and_name row = (text_at row.texts 1, text_at row.texts 2)

-- What an index has of a copy: the number of its publication, and its width. Of each row it has the key and the name,
-- in the order of the rows. The publication's number is known only in JSON.
pub record NameTable : Type 0 where
  pub publication : Option ℕ
  pub wide : Bool
  pub names : List Name

-- The table has the names of these rows, which are rows of `lei` with rising keys.
pub record IsNameTable (rows : List SheetRow) (table : NameTable) : Type 0 where
  pub rows_are : AreRows Sheet.Lei rows
  pub names_are : table.names ≡ map key_and_name rows

-- The number of the publication of a copy or a delta, which is known only in JSON.
abbrev pub number_in : Option Head → Option ℕ
number_in head = option_map (λ head. head.publication) head

-- The number of the publication that a delta starts from, which is known only in JSON.
abbrev pub delta_base : DeltaRead → Option ℕ
delta_base delta = option_map (λ head. head.from) delta.head

-- The delta starts from the copy's publication. In CSV no numbers are known, and nothing is required.
abbrev pub GoesFromTable : NameTable → DeltaRead → Type 0
GoesFromTable table delta = table.publication ≡ delta_base delta

-- The copy takes the delta: it starts from the copy's publication, and a wide copy takes no narrow delta.
pub record MayTakeDelta (table : NameTable) (delta : DeltaRead) : Type 0 where
  pub goes_from : GoesFromTable table delta
  pub newer : table.wide ≡ true → delta.wide ≡ true

-- Why a copy doesn't take a delta. Either the delta starts from another publication, and the fault has the numbers of
-- both. Or it starts from this one and is narrow, and the copy is wide. Nothing is said about `NoMemory`.
abbrev pub IsTakeFault : NameTable → DeltaRead → TakeFault → Type 0
IsTakeFault table delta (faults.WrongBase publication from) =
    (table.publication ≡ Some publication) × (delta_base delta ≡ Some from) × (publication ≢ from)
IsTakeFault table delta faults.OlderDelta =
    GoesFromTable table delta × (table.wide ≡ true) × (delta.wide ≡ false)
IsTakeFault table delta faults.NoMemory = ⊤
