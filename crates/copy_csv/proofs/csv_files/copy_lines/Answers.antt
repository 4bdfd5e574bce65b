use Rattle.std.proofs.Common.{◌∙◌}
use Rattle.copy_csv.specs.Sheets.{names_shown}
use Rattle.copy_csv.specs.Taking.{read_lines}
use Rattle.copy_csv.proofs.FileLemmas.{copy_names, lines-found}
use Rattle.copy_csv.proofs.csv_files.copy_lines.Goals as goal

pub returns : goal.returns
returns c =
    lines-found names_shown copy_names c.args.sheet c.args.bytes.now c.deref.result.now c.deref-2.result.now
    (c.deref.ensures.value ∙ c.in_ok-narrow.ensures) (c.deref-2.ensures.value ∙ c.in_ok-wide.ensures)
    (read_lines c.lines_after_head.result) c.lines_after_head.ensures
