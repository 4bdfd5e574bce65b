use Rattle.std.proofs.Common.{map}
use Rattle.group_reports.specs.Places.{at}
use Rattle.group_reports.proofs.ReportLemmas.{counted_lines}
use Rattle.group_reports.proofs.reports.put_disagreements.Goals as goal

pub returns : goal.returns
returns c =
    counted_lines c.args.links.now.links (map (at c.args.links.now.leis) c.args.places.now) c.args.out.now.items c.put_disagreeing.new.out.items
    c.put_line.new.out.items c.format.result.now c.in_ok-count.count c.in_ok-count.ensures.out c.in_ok-count.ensures.count c.format.ensures.text
    c.in_ok-put_line.ensures
