use Rattle.std.proofs.Common.{◌++◌, ap, ◌∙◌}
use Rattle.copy_csv.proofs.FileLemmas.{delta-head}
use Rattle.copy_csv.proofs.csv_files.delta_head.Goals as goal

pub returns : goal.returns
returns c = delta-head c.args.wide c.args.sheet c.new-head.result.items c.extend_from_slice.new.self.items c.put_names.new.out.items
    c.new-head.ensures.items (c.in_ok-extend_from_slice.ensures.items ∙ ap (λ l. c.new-head.result.items ++ l) c.as_bytes.ensures.value)
    c.in_ok-put_names.ensures
