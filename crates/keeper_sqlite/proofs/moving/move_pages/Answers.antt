use Rattle.std.proofs.Common.{◌≡◌, ◌∙◌, arith, rules, subst, true}
use Rattle.sqlite.specs.Held.{state}
use Rattle.sqlite.specs.State.{HasCleanDisk}
use Rattle.store_tables.specs.Calls.{Carries}
use Rattle.store_tables.proofs.MoveLemmas.{carries_then}
use Rattle.keeper_sqlite.proofs.TransactionLemmas.{survives_both}
use Rattle.keeper_sqlite.proofs.moving.move_pages.Goals as goal

pub loop-preserved : goal.loop-preserved
loop-preserved g c =
    let old = state g.S.Store c.args.tx.now.conn.now in
    let mid = state g.S.Store c.loop.tx.conn.now in
    let new = state g.S.Store c.move_page-in-loop.new.tx.conn.now in
    let more : c.loop.more ≡ true = search rules in (
      c.move_page-in-loop.ensures.same_reference ∙ c.loop.invariant.0,
      survives_both old mid new c.loop.invariant.1 c.move_page-in-loop.ensures.survives,
      λ clean inside.
          let early : HasCleanDisk mid = omega (arith, c.move_page-in-loop.ensures.survives.clean, clean) in
          let so_far = c.loop.invariant.2 early inside in
          carries_then old mid new _ (subst (Carries old mid) more so_far)
          (c.in_ok-more-2.ensures.carries clean so_far.inside.mode),
    )
