use Rattle.std.proofs.Common.{arith, inl}
use Rattle.sqlite.specs.Held.{state}
use Rattle.sqlite.specs.State.{HasCleanDisk}
use Rattle.store_tables.proofs.MakeLemmas.{makes_then}
use Rattle.store_tables.proofs.TransactionLemmas.{keeps_then}
use Rattle.keeper_sqlite.proofs.TransactionLemmas.{inside_then}
use Rattle.keeper_sqlite.proofs.making.make_all.Goals as goal

pub returns-in_err-make_second-clause-keeps : goal.returns-in_err-make_second-clause-keeps
returns-in_err-make_second-clause-keeps g c clean inside =
    let early : HasCleanDisk (state g.S.Store c.make_both.new.tx.conn.now) = omega
    (arith, c.make_second.ensures.survives.clean, clean) in
    let first = c.in_ok-make_both.ensures.inside early inside in
    keeps_then (state g.S.Store c.args.tx.now.conn.now) (state g.S.Store c.make_both.new.tx.conn.now)
    (state g.S.Store c.make_second.new.tx.conn.now) first
    (c.make_second.ensures.keeps clean first.mode)

pub returns-clause-keeps : goal.returns-clause-keeps
returns-clause-keeps g c clean inside =
    let early : HasCleanDisk (state g.S.Store c.make_both.new.tx.conn.now) = omega
    (arith, c.make_second.ensures.survives.clean, clean) in
    let first = c.in_ok-make_both.ensures.inside early inside in
    keeps_then (state g.S.Store c.args.tx.now.conn.now) (state g.S.Store c.make_both.new.tx.conn.now)
    (state g.S.Store c.make_second.new.tx.conn.now) first
    (c.make_second.ensures.keeps clean first.mode)

pub returns-clause-makes : goal.returns-clause-makes
returns-clause-makes g c clean inside has =
    let early : HasCleanDisk (state g.S.Store c.make_both.new.tx.conn.now) = omega
    (arith, c.make_second.ensures.survives.clean, clean) in
    let first = c.in_ok-make_both.ensures.makes early inside has in
    let second = c.in_ok-make_second.ensures.makes clean first.inside.mode (inl first.schema) in (
      makes_then _ _ (state g.S.Store c.args.tx.now.conn.now) (state g.S.Store c.make_both.new.tx.conn.now)
          (state g.S.Store c.make_second.new.tx.conn.now) first second.0,
      second.1,
    )

pub returns-clause-inside : goal.returns-clause-inside
returns-clause-inside g c clean inside =
    let early : HasCleanDisk (state g.S.Store c.make_both.new.tx.conn.now) = omega
    (arith, c.make_second.ensures.survives.clean, clean) in
    let first = c.in_ok-make_both.ensures.inside early inside in
    inside_then (state g.S.Store c.args.tx.now.conn.now) (state g.S.Store c.make_both.new.tx.conn.now)
    (state g.S.Store c.make_second.new.tx.conn.now) first
    (c.in_ok-make_second.ensures.inside clean first.mode)
