use Rattle.std.proofs.Common.{◌∙◌, arith, rules}
use Rattle.sqlite.specs.Held.{state}
use Rattle.sqlite.specs.State.{HasCleanDisk}
use Rattle.keeper_sqlite.proofs.TransactionLemmas.{all_put, one_put, survives_both}
use Rattle.keeper_sqlite.proofs.writing.put_cells.Goals as goal

pub loop-cell-preserved : goal.loop-cell-preserved
loop-cell-preserved g c =
    let old = state g.S.Store c.args.tx.now.conn.now in
    let mid = state g.S.Store c.loop-cell.tx.conn.now in
    let new = state g.S.Store c.put_cell.new.tx.conn.now in (
      c.put_cell.ensures.same_reference ∙ c.loop-cell.invariant.0,
      survives_both old mid new c.loop-cell.invariant.1 c.put_cell.ensures.survives,
      λ clean inside live.
          let early : HasCleanDisk mid = omega (arith, c.put_cell.ensures.survives.clean, clean) in
          let so_far = c.loop-cell.invariant.2 early inside live in
          one_put c.args.cells.now c.loop-cell.cell-index c.cell-item.result old mid new (search rules)
          c.cell-item.is so_far (c.in_ok-put_cell.ensures.puts clean so_far.inside.mode),
    )

pub returns-clause-puts : goal.returns-clause-puts
returns-clause-puts g c clean inside live =
    all_put c.args.cells.now c.loop-cell.cell-index (state g.S.Store c.args.tx.now.conn.now)
    (state g.S.Store c.loop-cell.tx.conn.now) (search rules) (c.loop-cell.invariant.2 clean inside live)
