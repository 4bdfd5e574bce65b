use Rattle.std.proofs.Common.{ap, rules}
use Rattle.sqlite_value.specs.Order.{Row, column}
use Rattle.keeper_sqlite.proofs.RowLemmas.{five_columns}
use Rattle.keeper_sqlite.proofs.rows.cell_of.Goals as goal

pub returns-in_err-name_in-clause-err : goal.returns-in_err-name_in-clause-err
returns-in_err-name_in-clause-err c = λ failed it.
    c.name_in.ensures.err (search rules) it.cell.name (ap (λ (r : Row). column r 1) it.is)
    (ap (λ (r : Row). column r 2) it.is)

pub returns-clause-ok : goal.returns-clause-ok
returns-clause-ok c =
    five_columns c.args.row.now _ _ _ _ _ (search rules) c.in_ok-below_at.ensures.ok c.in_ok-name_in.ensures.lei
    c.in_ok-name_in.ensures.rest c.in_ok-u64_at.ensures.ok c.in_ok-blob_or_null_at.ensures.ok
