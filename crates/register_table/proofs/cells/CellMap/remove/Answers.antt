use Rattle.std.proofs.Common.{arith, refl, sym, subst}
use Rattle.std.specs.BTreeMap.{is_at}
use Rattle.register_table.specs.Cells.{AreOwnCells, held_in}
use Rattle.register_table.proofs.CellLemmas.{can_rise, counts_out, get-out, held_in-remove, own-lookup, own-remove, text_cmp}
use Rattle.register_table.proofs.cells.CellMap.remove.Goals as goal

pub change-requires : goal.change-requires
change-requires c = can_rise c.self.inside.map.entries c.self.inside.counts c.self.invariant.1 (omega (arith, c.len-cells.ensures.small, c.len-cells.ensures.len))

pub invariant_of-self : goal.invariant_of-self
invariant_of-self c =
    let old = c.self.inside.map.entries in
    let new = c.remove-out.new.self.entries in
    let key = c.args.key.now in (
      subst AreOwnCells (sym c.remove-out.ensures.entries) (own-remove (is_at (text_cmp (record { key = key }))) old c.self.invariant.0),
      counts_out old new key c.remove-out.result c.has_item.result c.self.inside.counts c.change.new.self c.self.invariant.1
          (held_in-remove old new key c.remove-out.ensures.updates.0 (held_in old) refl) (get-out (held_in old) old key c.remove-out.result refl c.remove-out.ensures.value)
          c.has_item.ensures c.change.ensures,
    )

pub returns-clause-cells : goal.returns-clause-cells
returns-clause-cells c = held_in-remove c.self.inside.map.entries c.remove-out.new.self.entries c.args.key.now c.remove-out.ensures.updates.0 c.args.self.now c.self.view_is

pub returns-clause-out : goal.returns-clause-out
returns-clause-out c = get-out c.args.self.now c.self.inside.map.entries c.args.key.now c.remove-out.result c.self.view_is c.remove-out.ensures.value

pub returns-clause-own : goal.returns-clause-own
returns-clause-own c = own-lookup c.args.key.now c.self.inside.map.entries c.remove-out.result c.self.invariant.0 (sym c.remove-out.ensures.value)
