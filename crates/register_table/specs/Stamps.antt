-- Stamps: the keys that were touched, in the order of the numbers of the entries that touched them.
use Rattle.std.specs.Prelude.{◌≡◌, ℕ, ◌≤◌, ◌<◌, List, Some, length, slice_index_or}
use Rattle.std.specs.FinMap.{get}
use Rattle.std.specs.List.Sorted.{IsNonDecreasingBy}
use Rattle.lei_records.specs.Tables.{KeyTexts}
use Rattle.register_table.specs.declared.stamps.Stamp.{Stamp}
use Rattle.register_table.specs.Held.{Cell, Held, cell_key}

-- The numbers of stamps never decrease.
abbrev pub StampsDontFall : List Stamp → Type 0
StampsDontFall stamps = IsNonDecreasingBy (λ stamp. stamp.entry) stamps

-- A stamp has this number and this key.
abbrev pub IsStampOf : ℕ → KeyTexts → Stamp → Type 0
IsStampOf entry key stamp = (stamp.entry ≡ entry) × (cell_key stamp.key ≡ key)

-- No stamp from this position on has this number and this key.
abbrev pub NoneFrom : ℕ → List Stamp → ℕ → KeyTexts → Type 0
NoneFrom place stamps entry key =
    (k : ℕ) (d : Stamp) → place ≤ k → k < length stamps → IsStampOf entry key (slice_index_or stamps k d) → ⊥

-- Some stamp has this number and this key.
abbrev pub HasStamp : List Stamp → ℕ → KeyTexts → Type 0
HasStamp stamps entry key = NoneFrom 0 stamps entry key → ⊥

-- Each cell has a stamp with its number and its key. There may be others.
abbrev pub AreStamped : List Stamp → Held → Type 0
AreStamped stamps held = (key : KeyTexts) (cell : Cell) → get held key ≡ Some cell
    → HasStamp stamps cell.entry key
