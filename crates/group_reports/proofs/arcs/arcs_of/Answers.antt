use Rattle.std.proofs.Common.{rules, ◌<◌, length, subst, sym}
use Rattle.std.specs.List.{All}
use Rattle.std.proofs.lemmas.List.Elements.{All-push}
use Rattle.group_reports.specs.Arcs.{HasPlacesBelow}
use Rattle.group_reports.proofs.ArcLemmas.{links_push, row_end, row_start}
use Rattle.group_reports.proofs.arcs.arcs_of.Goals as goal

pub arc_of-requires-clause-start : goal.arc_of-requires-clause-start
arc_of-requires-clause-start c =
    let within : c.loop-row.row-index < length c.args.rows.now = search rules in
    row_start c.args.rows.now c.args.places.now c.loop-row.row-index c.row-item.result within c.row-item.is c.requires.places

pub arc_of-requires-clause-end : goal.arc_of-requires-clause-end
arc_of-requires-clause-end c =
    let within : c.loop-row.row-index < length c.args.rows.now = search rules in
    row_end c.args.rows.now c.args.places.now c.loop-row.row-index c.row-item.result within c.row-item.is c.requires.places

pub loop-row-preserved : goal.loop-row-preserved
loop-row-preserved c =
    let within : c.loop-row.row-index < length c.args.rows.now = search rules in
    record {
      links = links_push c.args.places.now c.args.rows.now c.loop-row.row-index c.row-item.result c.loop-row.made.items c.push.new.self.items
          c.arc_of.result within c.row-item.is c.loop-row.invariant.links c.in_ok-push.ensures.items c.arc_of.ensures.link;
      within = subst (All (HasPlacesBelow (length c.args.places.now))) (sym c.in_ok-push.ensures.items)
          (All-push (HasPlacesBelow (length c.args.places.now)) c.loop-row.made.items c.arc_of.result c.loop-row.invariant.within c.arc_of.ensures.within);
    }
