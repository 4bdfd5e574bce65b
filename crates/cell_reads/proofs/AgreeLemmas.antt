-- What holds for each cell that was read.
use Rattle.std.specs.Prelude.{◌≡◌, ◌<◌, ◌≤◌, ℕ, List, length, All}
use Rattle.std.proofs.Common.{sym, subst, get_or, take}
use Rattle.std.proofs.lemmas.List.{take_all}
use Rattle.std.proofs.lemmas.List.Elements.{All-contains, Contains-get_or}
use Rattle.lei_records.specs.declared.view.CellKey.{CellKey}
use Rattle.lei_records.specs.declared.view.CellSeen.{CellSeen}
use Rattle.lei_records.specs.Cells.{Cells}
use Rattle.cell_reads.specs.Notes.{IsListedKey}
use Rattle.cell_reads.specs.Reads.{AnswersReads, HasCell, Listed}

-- the view has what was read from the cell
abbrev pub HasRead : Cells → CellKey × CellSeen → Type 0
HasRead cells read = HasCell cells read.0 read.1

pub answers-all : (cells : Cells) (reads : Listed) → All (HasRead cells) reads → AnswersReads reads cells
answers-all cells reads all key found at = All-contains (HasRead cells) reads (key, found) all at

pub all-answered : (cells : Cells) (reads : Listed) → AnswersReads reads cells → All (HasRead cells) reads
all-answered cells reads answers k d less = answers (get_or reads k d).0 (get_or reads k d).1 (Contains-get_or reads k d less)

-- what holds for the first n holds for all, if there are at most n
pub all-taken : {X : Type 0} (P : X → Type 0) (xs : List X) (n : ℕ) → length xs ≤ n → All P (take n xs) → All P xs
all-taken P xs n past all = subst (All P) (take_all n xs past) all

-- the cell with this key is listed at this index
pub listed-at : (reads : Listed) (place : ℕ) (key : CellKey) (read : CellKey × CellSeen) → place < length reads → read ≡ get_or reads place read
    → read.0 ≡ key → IsListedKey reads key
listed-at reads place key read less at is = subst (IsListedKey reads) is (read.1, (place, less, sym at))
