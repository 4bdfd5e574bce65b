use Rattle.std.proofs.Common.{◌≡◌, ◌++◌, ℕ, List, sym, ap, subst, ◌∙◌}
use Rattle.copy_csv.specs.Csv.{csv_line}
use Rattle.copy_csv.specs.Sheets.{names_shown}
use Rattle.delta_apply.specs.Walks.{AreLinesPatched}
use Rattle.delta_apply.proofs.Putting.{lines-patched}
use Rattle.delta_apply.proofs.csv.patch_lines.Goals as goal

pub returns-in-Ok-clause-found : goal.returns-in-Ok-clause-found
returns-in-Ok-clause-found c =
    let first : c.extend_from_slice.new.self.items ≡ csv_line (names_shown c.args.delta.now.wide c.args.sheet) =
    c.in_ok-extend_from_slice.ensures.items ∙ ap (λ l. l ++ c.deref.result.now) c.in_ok-out.ensures.items ∙ c.deref.ensures.value ∙ c.in_ok-head.ensures in
    subst (λ (l : List ℕ). AreLinesPatched c.args.sheet c.args.base_wide c.args.delta.now.wide c.args.lines.now c.args.delta.now.changes l) (sym c.from.ensures)
    (lines-patched c.args.sheet c.args.base_wide c.args.delta.now.wide c.args.lines.now c.args.delta.now.changes c.extend_from_slice.new.self.items
    c.put_patched.new.out.items first c.requires.changes c.in-Ok.ensures.found)
