-- Commands that have no store.
use Rattle.std.proofs.Common.{◌≡◌, ◌≤◌, ◌⊎◌, ℕ, inl, inr, arith}
use Rattle.file_commands.specs.TwoFiles.{DoesWithFiles, Files, Rule}
use Rattle.file_commands.specs.Mirroring.{Mirrors}
use Rattle.file_commands.specs.Searching.{Searches}
use Rattle.file_commands.specs.Sides.{Sides}
use Rattle.register_words.specs.declared.sheets.Form.{Form}
use Rattle.file_commands.proofs.Mirrored.{mirror_status}
use Rattle.file_commands.proofs.Searched.{search_status}
use Rattle.file_commands.proofs.TwoFilesRead.{files_status}
use Rattle.line_service.specs.Ends.{IsUnopened}

-- a status of a command that has no store
not_unopened : (status : ℕ) → (status ≤ 4) ⊎ (status ≡ 6) ⊎ (status ≡ 8) → IsUnopened status → ⊥
not_unopened status which unopened = elim which [
  | inl low ↦ elim unopened [
    | inl five ↦ omega (arith, low, five)
    | inr seven ↦ omega (arith, low, seven)
  ]
  | inr (inl six) ↦ elim unopened [
    | inl five ↦ omega (arith, six, five)
    | inr seven ↦ omega (arith, six, seven)
  ]
  | inr (inr eight) ↦ elim unopened [
    | inl five ↦ omega (arith, eight, five)
    | inr seven ↦ omega (arith, eight, seven)
  ]
]

-- a command over two files doesn't end with a status of a store that isn't opened
pub files_unopened : (rule : Rule) (before after : Files) (status : ℕ) → DoesWithFiles rule before after status → IsUnopened status → ⊥
files_unopened rule before after status does = not_unopened status (files_status rule before after status does)

-- nor does a search
pub search_unopened : (form : Form) (before after : Files) (status : ℕ) → Searches form before after status → IsUnopened status → ⊥
search_unopened form before after status searches = not_unopened status (search_status form before after status searches)

-- nor does a mirror
pub mirror_unopened : (before after : Sides) (status : ℕ) → Mirrors before after status → IsUnopened status → ⊥
mirror_unopened before after status mirrors = not_unopened status (mirror_status before after status mirrors)
