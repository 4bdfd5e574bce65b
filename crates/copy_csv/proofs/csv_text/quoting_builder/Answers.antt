use Rattle.std.proofs.Common.{true, ap, ◌∙◌}
use Rattle.csv.specs.Writing.{with_flexible, with_style}
use Rattle.csv.specs.declared.writer.QuoteStyle.TheVariants as style
use Rattle.copy_csv.proofs.csv_text.quoting_builder.Goals as goal

pub returns : goal.returns
returns c = c.flexible.ensures ∙ ap (λ b. with_flexible b true) (c.quote_style.ensures ∙ ap (λ b. with_style b style.Always) c.new.ensures)
