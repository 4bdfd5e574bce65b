use Rattle.std.proofs.Common.{[], ◌++◌, ap}
use Rattle.std.specs.Prelude.{if◌then◌else◌}
use Rattle.copy_csv.specs.Csv.{row_line}
use Rattle.copy_forms.proofs.Passing.{passes-printed, stands-so}
use Rattle.delta_apply.proofs.csv.put_next.Goals as goal

pub returns-clause-put : goal.returns-clause-put
returns-clause-put c =
    passes-printed (row_line c.args.wide) c.args.changes.now c.args.row.now c.args.at c.place_row-left.result.0 c.place_row-left.result.1 c.args.out.now.items
    (c.put_all.new.out.items ++ (if c.place_row-left.result.1 then row_line c.args.wide c.args.row.now else []))
    (stands-so c.args.changes.now c.args.row.now c.args.at c.place_row-left.result.0 c.place_row-left.result.1 c.place_row-left.ensures.stands)
    (ap (λ l. l ++ (if c.place_row-left.result.1 then row_line c.args.wide c.args.row.now else [])) c.in_ok-put_all.ensures)
