use Rattle.std.proofs.Common.{◌≡◌, None, rules, subst, sym, ap}
use Rattle.std.specs.FinMap.{get, insert}
use Rattle.register_table.specs.Cells.{AreOwnCells, cell_in, held_in, owned_slots}
use Rattle.register_table.specs.Held.{cell_key}
use Rattle.register_table.proofs.CellLemmas.{held_in-none}
use Rattle.register_table.proofs.StampLemmas.{Asked, all_found, all_touched, asked_in, asked_out, found_more, none_found, none_held, missed, passed_over}
use Rattle.register_table.proofs.cells.CellMap.slots_between.Goals.{in-Some+then-is_within+in_ok-lend, in-Some+else-is_within, in_default}
use Rattle.register_table.proofs.cells.CellMap.slots_between.Goals as goal

pub loop-stamp-init : goal.loop-stamp-init
loop-stamp-init c =
    let slots = c.new-slots.result.entries in
    let none = ap owned_slots c.new-slots.ensures.empty in
    let empty = held_in-none (owned_slots slots) none in
    record {
      among = λ key cell at. absurd (none_held (held_in (owned_slots slots)) key cell empty at);
      within = λ key cell at. absurd (none_held (held_in (owned_slots slots)) key cell empty at);
      all = none_found c.args.after c.args.upto c.args.self.now c.args.stamps.now (held_in (owned_slots slots));
      own = subst AreOwnCells (sym none) tt;
    }

pub loop-stamp-preserved : goal.loop-stamp-preserved
loop-stamp-preserved c =
    let after = c.args.after in
    let upto = c.args.upto in
    let held = c.args.self.now in
    let key = cell_key c.stamp-item.result.key in
    let found = held_in (owned_slots c.loop-stamp.slots.entries) in
    let more = held_in (owned_slots c.match-get.slots.entries) in
    let among = c.loop-stamp.invariant.among in
    let within = c.loop-stamp.invariant.within in
    let asked : Asked after upto held key found more = elim c.match-get.branch [
      | in-Some+then-is_within+in_ok-lend w ↦
          let put : more ≡ insert found key (cell_in w.in-Some.slot.now) = search rules in
          asked_in after upto held key found more (cell_in w.in-Some.slot.now) (sym w.in-Some.ensures.cell) (sym w.if-is_within.ensures) put among within
      | in-Some+else-is_within w ↦
          asked_out after upto held key found more (ap (λ s. held_in (owned_slots s.entries)) w.slots-is) among within
          (passed_over after upto held key (cell_in w.in-Some.slot.now) (sym w.in-Some.ensures.cell) (sym w.if-is_within.ensures))
      | in_default w ↦
          let none : get held key ≡ None = search rules in
          asked_out after upto held key found more (ap (λ s. held_in (owned_slots s.entries)) w.slots-is) among within (missed after upto held key none)
    ] in
    record {
      among = asked.among;
      within = asked.within;
      all = found_more after upto held c.args.stamps.now c.loop-stamp.stamp-index c.stamp-item.result found more
          c.loop-stamp-test.true c.stamp-item.is asked c.loop-stamp.invariant.all;
      own = elim c.match-get.branch [
        | in-Some+then-is_within+in_ok-lend w ↦ search rules
        | in-Some+else-is_within w ↦ search rules
        | in_default w ↦ search rules
      ];
    }

pub returns-clause-found : goal.returns-clause-found
returns-clause-found c =
    let after = c.args.after in
    let upto = c.args.upto in
    let held = c.args.self.now in
    let stamps = c.args.stamps.now in
    let found = held_in (owned_slots c.loop-stamp.slots.entries) in
    all_touched after upto held found c.loop-stamp.invariant.among c.loop-stamp.invariant.within
    (λ key cell at passes. all_found after upto held stamps c.loop-stamp.stamp-index found c.loop-stamp-test.false c.loop-stamp.invariant.all
    key cell at passes (c.requires key cell at passes))
