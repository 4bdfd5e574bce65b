-- Rows and changes, merged in the order of their keys.
use Rattle.std.specs.Prelude.{◌≡◌, ◌-◌, ℕ, Bool, List, [], ◌∷◌, ◌++◌, drop, flat_map, if◌then◌else◌, take}
use Rattle.std.specs.FinMap.Entries.{by_order}
use Rattle.lei_records.specs.Tables.{key_cmp}
use Rattle.copy_csv.specs.declared.rows.Change.{Change}
use Rattle.copy_csv.specs.Rows.{changed_key}
use Rattle.copy_csv.specs.Sheets.{SheetRow, key}

-- The row that a change puts, if it puts one.
abbrev pub put_by : Change → List SheetRow
put_by (Change.Put row) = row ∷ []
put_by (Change.Drop row) = []

-- A row among changes. What changes with lesser keys put comes before the row. What a change with the row's key puts
-- replaces the row. The other changes are left to the rows after it.
abbrev pub row_among_changes : SheetRow → (List Change → List SheetRow) → List Change → List SheetRow
row_among_changes row others [] = row ∷ others []
row_among_changes row others (change ∷ changes) =
    by_order (key_cmp (changed_key change) (key row))
    (put_by change ++ row_among_changes row others changes)
    (put_by change ++ others changes)
    (row ∷ others (change ∷ changes))

-- Rows merged with changes: each row is placed among the changes that are left by the rows before it.
abbrev pub rows_with_changes : List SheetRow → List Change → List SheetRow
rows_with_changes [] changes = flat_map put_by changes
rows_with_changes (row ∷ rows) changes = row_among_changes row (rows_with_changes rows) changes

-- What the changes from the index `at` up to, but without, the index `next` put.
abbrev pub put_between : List Change → ℕ → ℕ → List SheetRow
put_between changes at next = flat_map put_by (take (next - at) (drop at changes))

-- A row is placed among the changes from `at` on, and those from `next` on are left to the rows after it. Whatever
-- these rows are, merging the row and them with the changes gives three parts. First comes what the changes before
-- `next` put, then the row if it stays. Last come the rows after it, merged with the changes that are left.
abbrev pub IsPlaceAmong : List Change → SheetRow → ℕ → ℕ → Bool → Type 0
IsPlaceAmong changes row at next stays =
    (more : List SheetRow)
    → put_between changes at next ++ ((if stays then row ∷ [] else []) ++ rows_with_changes more (drop next changes))
    ≡ rows_with_changes (row ∷ more) (drop at changes)

-- A row was passed, whatever rows follow it. Merge the following rows with the changes from `next` on, and put the
-- result after the new output. That is the same as the merge of the row and those rows with the changes from `at` on,
-- put after the old output.
abbrev pub PassesRow : {X : Type 0} → (SheetRow → List X) → List Change → SheetRow → ℕ → List X → ℕ
    → List X → Type 0
PassesRow print changes row at old next new =
    (more : List SheetRow)
    → new ++ flat_map print (rows_with_changes more (drop next changes))
    ≡ old ++ flat_map print (rows_with_changes (row ∷ more) (drop at changes))
