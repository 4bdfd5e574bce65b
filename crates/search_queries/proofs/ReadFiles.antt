-- What is known of copies and deltas of `lei` that were read.
use Rattle.std.proofs.Common.{◌≡◌, ℕ, pos, refl, ap, arith}
use Rattle.std.specs.Prelude.{is_some}
use Rattle.lei_shapes.specs.Moment.{IsMoment}
use Rattle.lei_code.specs.Texts.{Text}
use Rattle.register_words.specs.declared.sheets.Form.{Form}
use Rattle.register_words.specs.declared.sheets.Sheet.{Sheet}
use Rattle.copy_csv.specs.Rows.{AreChanges, AreRows, IsCopyHead, IsDeltaHead}
use Rattle.copy_csv.specs.declared.heads.CopyRead.{CopyRead}
use Rattle.copy_csv.specs.declared.heads.DeltaRead.{DeltaRead}
use Rattle.copy_csv.specs.declared.heads.Head.{Head}
use Rattle.copy_forms.specs.Files.{IsCopyRead, IsDelta, IsDeltaRead}
use Rattle.name_search.specs.NameTables.{number_in}
use Rattle.search_queries.specs.Searchers.{has_number}
use Rattle.search_queries.specs.Searches.{IsNoLeiDelta}

-- a head that any copy and any delta in CSV may have
some_head : ℕ → Head
some_head from = record { moment = pos 0; publication = 1; from = from }

is_moment : IsMoment (pos 0)
is_moment = omega arith

some_copy_head : IsCopyHead (some_head 0)
unfolding some_head
some_copy_head = record { moment = is_moment; publication = (omega arith, omega arith); from = refl }

some_delta_head : IsDeltaHead (some_head 1)
unfolding some_head
some_delta_head =
    record { moment = is_moment; publication = (omega arith, omega arith); from = (omega arith, omega arith) }

pub copy_rows : (bytes : Text) (form : Form) (read : CopyRead) → IsCopyRead bytes Sheet.Lei form read
    → AreRows Sheet.Lei read.rows
copy_rows bytes Form.Csv read is = (is.1 (some_head 0) some_copy_head).rows_are
copy_rows bytes Form.Json read is = is.2.rows_are

pub delta_changes : (bytes : Text) (form : Form) (read : DeltaRead) → IsDeltaRead bytes Sheet.Lei form read
    → AreChanges Sheet.Lei read.changes
delta_changes bytes Form.Csv read is = (is.1 (some_head 1) some_delta_head).changes_are
delta_changes bytes Form.Json read is = is.2.changes_are

-- there is a head exactly if the form is JSON
pub copy_numbered : (bytes : Text) (form : Form) (read : CopyRead) → IsCopyRead bytes Sheet.Lei form read
    → is_some (number_in read.head) ≡ has_number form
copy_numbered bytes Form.Csv read is = ap (λ head. is_some (number_in head)) is.0
copy_numbered bytes Form.Json read is = ap (λ head. is_some (number_in head)) is.1

pub delta_headed : (bytes : Text) (form : Form) (read : DeltaRead) → IsDeltaRead bytes Sheet.Lei form read
    → is_some read.head ≡ has_number form
delta_headed bytes Form.Csv read is = ap is_some is.0
delta_headed bytes Form.Json read is = ap is_some is.1

pub delta_numbered : (bytes : Text) (form : Form) (read : DeltaRead) → IsDeltaRead bytes Sheet.Lei form read
    → is_some (number_in read.head) ≡ has_number form
delta_numbered bytes Form.Csv read is = ap (λ head. is_some (number_in head)) is.0
delta_numbered bytes Form.Json read is = ap (λ head. is_some (number_in head)) is.1

-- in CSV the bytes are the delta under some head
pub some_delta : (bytes : Text) (read : DeltaRead) → IsDeltaRead bytes Sheet.Lei Form.Csv read
    → (head : Head) × IsDelta bytes Sheet.Lei Form.Csv head read.wide read.changes
some_delta bytes read is = (some_head 1, is.1 (some_head 1) some_delta_head)

-- what was read as a delta is one
pub no_delta : (form : Form) (bytes : Text) (read : DeltaRead) → IsNoLeiDelta form bytes
    → IsDeltaRead bytes Sheet.Lei form read → ⊥
no_delta Form.Csv bytes read none is =
    let some = some_delta bytes read is in none some.0 read.wide read.changes some.1
no_delta Form.Json bytes read none is = none is.0 read.wide read.changes is.2
