use Rattle.std.proofs.Common.{◌++◌, length, take, drop, sym, ap, ◌∙◌, refl}
use Rattle.std.proofs.lemmas.List.{drop-drop}
use Rattle.copy_csv.proofs.CsvLemmas.{skips_none, skips_some}
use Rattle.copy_csv.proofs.csv_read.Reader.skip_all.Goals as goal

pub returns-then-ne : goal.returns-then-ne
returns-then-ne c = (
  refl,
  skips_none c.args.self.now c.args.bytes.now c.split_at.result.0.now
      (c.split_at.ensures.front ∙ ap (take (length c.args.bytes.now)) c.rest-2.ensures) (sym c.ne.ensures ∙ c.if-ne.true),
)

pub returns : goal.returns
returns c = skips_some c.args.self.now c.args.bytes.now c.split_at.result.0.now
    (c.split_at.ensures.front ∙ ap (take (length c.args.bytes.now)) c.rest-2.ensures) (sym c.ne.ensures ∙ c.if-ne.false)
    ∙ ap (λ l. c.args.bytes.now ++ l) (ap (drop (length c.args.bytes.now)) (sym c.self.view_is)
    ∙ drop-drop (length c.args.bytes.now) c.self.inside.at c.self.inside.bytes.now)
