use Rattle.std.proofs.Common.{rules, ap, refl, ◌∙◌, ◌++◌, ◌∷◌, []}
use Rattle.group_reports.specs.Links.{GroupTable}
use Rattle.group_reports.proofs.GroupLemmas.{lone_lines, lone_members}
use Rattle.group_reports.proofs.ReportLemmas.{report_of_parts}
use Rattle.group_reports.proofs.texts.lone_text.Goals as goal

pub returns : goal.returns
returns c =
    let links = c.args.links.now.links in
    let who = c.args.who.now in
    let table : GroupTable = record { names = c.args.names.now; links = links } in
    c.from.ensures
    ∙ report_of_parts table who c.put_root.new.out.items c.put_root.new.out.items c.put_members_line.new.out.items
    c.put_disagreements.new.out.items [] 0 (who ∷ []) (search rules) (search rules) c.in_ok-put_members_line.ensures
    (c.in_ok-put_disagreements.ensures ∙ ap (λ l. c.put_members_line.new.out.items ++ l) (lone_lines links who c.requires))
    (lone_members links who c.requires) refl refl
