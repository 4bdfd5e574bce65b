use Rattle.std.proofs.Common.{ap, rules, sym, ◌∙◌}
use Rattle.sqlite_value.specs.declared.value.Value.TheVariants.{Blob}
use Rattle.keeper_sqlite.proofs.RowLemmas.{eight_columns}
use Rattle.keeper_sqlite.proofs.rows.entry_of.Goals as goal

pub returns-clause-ok : goal.returns-clause-ok
returns-clause-ok c =
    eight_columns c.args.row.now _ _ _ _ _ _ _ _ (search rules) c.in_ok-u64_at.ensures.ok
    c.in_ok-below_at.ensures.ok
    c.in_ok-text_at.ensures.ok c.in_ok-below_at-2.ensures.ok (search rules) c.in_ok-below_at-3.ensures.ok
    (c.in_ok-blob_at.ensures.ok ∙ ap Blob (sym c.in_ok-copy_of.ensures))
    (c.in_ok-blob_at-2.ensures.ok ∙ ap Blob (sym c.in_ok-copy_of-2.ensures))
