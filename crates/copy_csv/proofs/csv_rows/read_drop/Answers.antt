use Rattle.std.proofs.Common.{Option, sym, subst, ◌∙◌}
use Rattle.copy_csv.specs.Csv.{row_line}
use Rattle.copy_csv.specs.Rows.{IsRowIn}
use Rattle.copy_csv.specs.Sheets.{SheetRow}
use Rattle.copy_csv.specs.Taking.{ReadsNext}
use Rattle.copy_csv.proofs.LineLemmas.{drop-others}
use Rattle.copy_csv.proofs.csv_rows.read_drop.Goals as goal

pub returns-else-is_key_alone-clause-read : goal.returns-else-is_key_alone-clause-read
returns-else-is_key_alone-clause-read c =
    let F : Option SheetRow → Type 0 = λ row. ReadsNext (row_line c.args.wide) (IsRowIn c.args.sheet c.args.wide) c.args.reader.now row c.read_row.new.reader in
    drop-others c.args.sheet c.args.wide c.in-Some.row c.args.reader.now c.read_row.new.reader (subst F c.in-Some.is c.in_ok-row.ensures.read)
    (sym c.is_key_alone.ensures ∙ c.if-is_key_alone.false) c.read_row.new.reader
