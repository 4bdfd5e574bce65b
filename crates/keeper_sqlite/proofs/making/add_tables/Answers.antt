use Rattle.std.proofs.Common.{rules, subst}
use Rattle.sqlite.specs.Held.{state}
use Rattle.sqlite.specs.State.{Survives}
use Rattle.store_tables.specs.Calls.{IsMade}
use Rattle.keeper_sqlite.proofs.StoreLemmas.{made_survives}
use Rattle.keeper_sqlite.proofs.making.add_tables.Goals as goal

pub returns-in_err-commit-clause-survives : goal.returns-in_err-commit-clause-survives
returns-in_err-commit-clause-survives g c has =
    subst (λ h. Survives (state g.S.Store c.args.conn.now) (state g.S.Store h)
    (IsMade (state g.S.Store c.args.conn.now))) {x = c.commit.new.self.0} {y = c.conn-2-1.given.0} (search rules)
    (made_survives g.S.Store c.args.conn.now c.transaction-tx.result.conn.now
    (state g.S.Store c.make_second.new.tx.conn.now) (state g.S.Store c.commit.new.self.0)
    c.transaction-tx.ensures.begun c.make_second.ensures.survives c.commit.ensures.survives
    (λ clean. c.in_ok-make_second.ensures.makes clean (search rules) (search rules)))

pub returns-clause-survives : goal.returns-clause-survives
returns-clause-survives g c has =
    subst (λ h. Survives (state g.S.Store c.args.conn.now) (state g.S.Store h)
    (IsMade (state g.S.Store c.args.conn.now))) {x = c.commit.new.self.0} {y = c.conn-2-1.given.0} (search rules)
    (made_survives g.S.Store c.args.conn.now c.transaction-tx.result.conn.now
    (state g.S.Store c.make_second.new.tx.conn.now) (state g.S.Store c.commit.new.self.0)
    c.transaction-tx.ensures.begun c.make_second.ensures.survives c.commit.ensures.survives
    (λ clean. c.in_ok-make_second.ensures.makes clean (search rules) (search rules)))
