use Rattle.std.proofs.Common.{◌≡◌, [], arith, rules, subst}
use Rattle.sqlite.specs.Held.{state}
use Rattle.sqlite.specs.State.{HasCleanDisk, Survives}
use Rattle.store_tables.specs.Calls.{IsWholeStore}
use Rattle.keeper_sqlite.specs.Transactions.{HasMoved, IsMoved}
use Rattle.keeper_sqlite.proofs.StoreLemmas.{moved_after, moved_survives}
use Rattle.keeper_sqlite.proofs.moving.move_cells.Goals as goal

pub returns-in_err-commit-clause-survives : goal.returns-in_err-commit-clause-survives
returns-in_err-commit-clause-survives g c =
    subst (λ h. Survives (state g.S.Store c.args.conn.now) (state g.S.Store h)
    (IsMoved (state g.S.Store c.args.conn.now))) {x = c.commit.new.self.0} {y = c.conn-2-1.given.0} (search rules)
    (moved_survives g.S.Store c.args.conn.now c.transaction-tx.result.conn.now
    (state g.S.Store c.move_all.new.tx.conn.now) (state g.S.Store c.commit.new.self.0)
    c.transaction-tx.ensures.begun c.move_all.ensures.survives c.commit.ensures.survives
    (λ clean. c.in_ok-move_all.ensures.moves clean (search rules)))

pub returns-clause-survives : goal.returns-clause-survives
returns-clause-survives g c =
    subst (λ h. Survives (state g.S.Store c.args.conn.now) (state g.S.Store h)
    (IsMoved (state g.S.Store c.args.conn.now))) {x = c.commit.new.self.0} {y = c.conn-2-1.given.0} (search rules)
    (moved_survives g.S.Store c.args.conn.now c.transaction-tx.result.conn.now
    (state g.S.Store c.move_all.new.tx.conn.now) (state g.S.Store c.commit.new.self.0)
    c.transaction-tx.ensures.begun c.move_all.ensures.survives c.commit.ensures.survives
    (λ clean. c.in_ok-move_all.ensures.moves clean (search rules)))

pub returns-clause-moved : goal.returns-clause-moved
returns-clause-moved g c =
    subst (λ h. HasCleanDisk (state g.S.Store h) → IsWholeStore (state g.S.Store c.args.conn.now)
    → (state g.S.Store c.args.conn.now).now.trees 4 ≡ []
    → HasMoved (state g.S.Store c.args.conn.now) (state g.S.Store h)) {x = c.commit.new.self.0}
    {y = c.conn-2-1.given.0} (search rules)
    (λ clean whole form. moved_after g.S.Store c.args.conn.now c.transaction-tx.result.conn.now
    (state g.S.Store c.move_all.new.tx.conn.now) (state g.S.Store c.commit.new.self.0)
    c.transaction-tx.ensures.begun
    (c.in_ok-move_all.ensures.moves (omega (arith, c.commit.ensures.survives.clean, clean)) (search rules))
    (c.in_ok-commit.ensures.ok clean).1.now_is whole form)
