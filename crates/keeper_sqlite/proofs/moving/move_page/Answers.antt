use Rattle.std.proofs.Common.{◌≡◌, ◌∙◌, Some, ap, arith, rules, sym}
use Rattle.sqlite.specs.Held.{state}
use Rattle.sqlite.specs.State.{HasCleanDisk}
use Rattle.store_tables.specs.Calls.{MovesPage, last_id}
use Rattle.store_tables.proofs.MoveLemmas.{carries_none, carries_page, no_last}
use Rattle.keeper_sqlite.proofs.moving.move_page.Goals as goal

pub returns-in-Some-clause-carries : goal.returns-in-Some-clause-carries
returns-in-Some-clause-carries g c clean inside =
    let early : HasCleanDisk (state g.S.Store c.read_page.new.tx.conn.now) = omega
    (arith, c.copy_page.ensures.survives.clean, clean) in
    let read = c.in_ok-page.ensures.page early inside in
    let is : last_id c.in_ok-page.page.items ≡ Some c.in-Some.last =
    ap last_id (sym c.as_slice.ensures.value) ∙ (sym c.in_ok-last.ensures ∙ c.in-Some.is) in
    let mid = state g.S.Store c.read_page.new.tx.conn.now in
    let new = state g.S.Store c.copy_page.new.tx.conn.now in
    let copied = rw c.as_slice-in-Some.ensures.value
    at (c.in_ok-copy_page-in-Some.ensures.copies clean read.inside.mode read.inside.is_open) in
    let copies : MovesPage c.in_ok-page.page.items c.in-Some.last mid new = search rules in
    carries_page (state g.S.Store c.args.tx.now.conn.now) (state g.S.Store c.read_page.new.tx.conn.now)
    (state g.S.Store c.copy_page.new.tx.conn.now) c.in_ok-page.page.items c.in-Some.last read is
    copies

pub returns-clause-carries : goal.returns-clause-carries
returns-clause-carries g c clean inside =
    carries_none (state g.S.Store c.args.tx.now.conn.now) (state g.S.Store c.read_page.new.tx.conn.now)
    c.in_ok-page.page.items (c.in_ok-page.ensures.page clean inside)
    (no_last c.in_ok-page.page.items
    (ap last_id (sym c.as_slice.ensures.value) ∙ (sym c.in_ok-last.ensures ∙ c.in-None.is)))
