use Rattle.std.proofs.Common.{arith, refl, sym, subst}
use Rattle.register_table.specs.Cells.{AreOwnCells, held_in}
use Rattle.register_table.proofs.CellLemmas.{can_rise, counts_put, get-none, get-out, held_in-insert, own-insert, own-lookup}
use Rattle.register_table.proofs.cells.CellMap.insert.Goals as goal

pub change-requires : goal.change-requires
change-requires c = can_rise c.self.inside.map.entries c.self.inside.counts c.self.invariant.1 (omega (arith, c.len-cells.ensures.small, c.len-cells.ensures.len))

pub invariant_of-self : goal.invariant_of-self
invariant_of-self c =
    let old = c.self.inside.map.entries in
    let new = c.insert.new.self.entries in
    let key = c.args.key.now in (
      subst AreOwnCells (sym c.in-Ok.ensures.entries) (own-insert (record { key = key }) c.args.slot old c.requires.own c.self.invariant.0),
      counts_put old new key c.args.slot c.in-Ok.out c.has_item.result c.is_some-is.result c.self.inside.counts c.change.new.self c.self.invariant.1
          (held_in-insert (held_in old) old new key c.args.slot refl c.in-Ok.ensures.entries) (get-out (held_in old) old key c.in-Ok.out refl c.in-Ok.ensures.old)
          c.has_item.ensures c.is_some-is.ensures c.change.ensures,
    )

pub returns-in-Ok-clause-cells : goal.returns-in-Ok-clause-cells
returns-in-Ok-clause-cells c =
    held_in-insert c.args.self.now c.self.inside.map.entries c.insert.new.self.entries c.args.key.now c.args.slot c.self.view_is c.in-Ok.ensures.entries

pub returns-in-Ok-clause-out : goal.returns-in-Ok-clause-out
returns-in-Ok-clause-out c = get-out c.args.self.now c.self.inside.map.entries c.args.key.now c.in-Ok.out c.self.view_is c.in-Ok.ensures.old

pub returns-in-Ok-clause-own : goal.returns-in-Ok-clause-own
returns-in-Ok-clause-own c = own-lookup c.args.key.now c.self.inside.map.entries c.in-Ok.out c.self.invariant.0 (sym c.in-Ok.ensures.old)

pub returns-clause-absent : goal.returns-clause-absent
returns-clause-absent c = get-none c.args.self.now c.self.inside.map.entries c.args.key.now c.self.view_is c.in-Err.ensures.absent
