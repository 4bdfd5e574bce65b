-- What the parts of an opening find.
use Rattle.std.specs.Prelude.{◌≡◌, ◌≤◌, ◌+◌, ℕ, List, [], ◌∷◌, ◌++◌, length, Option, Some, None, IfSome}
use Rattle.lei_code.specs.Texts.{Text}
use Rattle.lei_values.specs.KeptTables.{KeptTables}
use Rattle.lei_values.specs.declared.entry.KeptEntry.{KeptEntry}
use Rattle.lei_values.specs.declared.cell.KeptCell.{KeptCell}
use Rattle.upload_ledger.specs.History.{History}
use Rattle.register_words.specs.Refusals.{reply_words}
use Rattle.register_words.specs.declared.limits.Limits.{Limits}
use Rattle.register_history.specs.declared.damage.Damage.{Damage}
use Rattle.register_history.specs.Damage.{DifferFirst, EntryDiffers, IsCellDamage, IsDamage, IsEntryDamage, entry_line, missing_entry, replayed_text}
use Rattle.register_history.specs.Kept.{AreCellsOf, Keeps}
use Rattle.register_history.specs.Legal.{IsNext, Legal}
use Rattle.register_history.specs.Register.{held_after}
use Rattle.register_history.specs.State.{OfficeState, office_of}
use Rattle.register_state.specs.Books.{office_with_entry}
use Rattle.register_state.specs.declared.decision.Decision.{Decision}
use Rattle.register_state.specs.declared.decision.Decision.TheVariants.{Adds, Stays}
use Rattle.lei_office.specs.declared.opening.Found.{Found}
use Rattle.lei_office.specs.declared.opening.Found.TheVariants.{Damaged, Sound}

-- The text that reports what is decided instead of a stored entry: the words of a reply, or the line of another entry.
abbrev pub decision_text : Decision → Text
decision_text (Stays reply) = reply_words reply
decision_text (Adds e list) = entry_line e

-- A stored entry was replayed. If the replay makes the same entry, it now follows the others. Otherwise this is the
-- text of what the replay makes instead.
abbrev pub Replays : OfficeState → KeptEntry → OfficeState → Option Text → Type 0
Replays before e after None = IsNext before e × (after ≡ office_with_entry before e)
Replays before e after (Some text) = (IsNext before e → ⊥) × (text ≡ replayed_text before e)

-- The difference at the next number. The page has no more entries, although it should reach the number `upto`, or its
-- next entry differs.
abbrev pub NextDiffers : OfficeState → ℕ → ℕ → History → Damage → Type 0
NextDiffers office number upto [] damage = (number ≤ upto) × (damage ≡ missing_entry number)
NextDiffers office number upto (e ∷ rest) damage = EntryDiffers office number e damage

-- The damage is at the first stored entry of a page that doesn't continue a legal history. This history starts with the
-- entries before the page, and should go up to a number.
pub record IsPageDamage (limits : Limits) (before page : History) (upto : ℕ) (damage : Damage) : Type 0 where
  pub front : History
  pub rest : History
  pub are : page ≡ front ++ rest
  pub legal : Legal (office_of limits (before ++ front))
  pub differs : NextDiffers (office_of limits (before ++ front)) (length (before ++ front) + 1)
      upto rest damage

-- The stored entries of a page were replayed. All of them continue a legal history up to the number, or the first that
-- differs was found.
abbrev pub PageReplays : OfficeState → History → ℕ → OfficeState → Option Damage → Type 0
PageReplays before page upto after None =
    (after ≡ office_of before.limits (before.history ++ page)) × (upto ≤ length after.history) × Legal after
PageReplays before page upto after (Some damage) = IsPageDamage before.limits before.history page upto damage

-- The same for all stored entries under these limits, if the keeper tells them.
abbrev pub AllReplay : Limits → Option KeptTables → OfficeState → Option Damage → Type 0
AllReplay limits told after None =
    IfSome told (λ tables. tables.entries ≡ after.history) × (after.limits ≡ limits) × Legal after
AllReplay limits told after (Some damage) = IfSome told (λ tables. IsEntryDamage limits tables.entries damage)

-- Two lists of cells are the same, or this is the first difference.
abbrev pub Compares : List KeptCell → List KeptCell → Option Damage → Type 0
Compares kept made None = kept ≡ made
Compares kept made (Some damage) = DifferFirst kept made damage

-- A store was read. Its entries are a legal history under these limits, and any tables that the keeper tells are those
-- of this history. Or this is damage of the tables that the keeper tells.
abbrev pub IsStoreRead : Limits → Option KeptTables → OfficeState → Option Damage → Type 0
IsStoreRead limits told office None = (office.limits ≡ limits) × Legal office × Keeps told office
IsStoreRead limits told office (Some damage) = IfSome told (λ tables. IsDamage limits tables damage)

-- What a store was found to have: the register of its entries, or damage.
abbrev pub IsFoundInStore : Limits → Option KeptTables → Found → Type 0
IsFoundInStore limits told (Sound register) = IsStoreRead limits told register None
IsFoundInStore limits told (Damaged damage) = IfSome told (λ tables. IsDamage limits tables damage)

-- All pages of cells are the same, so that any cells that the keeper tells are those of the register. Or the first
-- difference was found.
abbrev pub AllCompare : OfficeState → Option KeptTables → Option Damage → Type 0
AllCompare office told None =
    IfSome told (λ tables. AreCellsOf (held_after office.limits office.history) tables.cells)
AllCompare office told (Some damage) = IfSome told (λ tables.
    IsCellDamage (length office.history) (held_after office.limits office.history) tables damage)
