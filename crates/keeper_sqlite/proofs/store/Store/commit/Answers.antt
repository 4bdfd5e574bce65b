use Rattle.std.proofs.Common.{sym, subst}
use Rattle.lei_values.specs.KeptTables.{IsNextOf}
use Rattle.lei_keeper.specs.Keeping.{CommitLeaves, Commits}
use Rattle.sqlite.specs.Held.{state}
use Rattle.keeper_sqlite.specs.Keepers.{leaves_of, leaves_since, tables_of, told_since}
use Rattle.keeper_sqlite.proofs.SinceLemmas.{ends_commits, ends_leaves, ends_on}
use Rattle.keeper_sqlite.proofs.store.Store.commit.Goals as goal

pub returns-clause-tables : goal.returns-clause-tables
returns-clause-tables g c =
    let adopted = state g.S.Store c.self.inside.adopted.value in
    let old = state g.S.Store c.self.inside.conn in
    let new = state g.S.Store c.commit.new.conn in
    let next = subst (λ v. IsNextOf (tables_of g.S.Store v) c.args.batch.now) (sym c.self.view_is)
    c.requires.next in
    subst (λ v. Commits c.args.batch.now c.commit.result (tables_of g.S.Store v) (told_since adopted new))
    c.self.view_is
    (ends_commits c.args.batch.now c.commit.result adopted old new c.self.invariant next c.commit.ensures)

pub returns-clause-crash : goal.returns-clause-crash
returns-clause-crash g c =
    let adopted = state g.S.Store c.self.inside.adopted.value in
    let old = state g.S.Store c.self.inside.conn in
    let new = state g.S.Store c.commit.new.conn in
    let next = subst (λ v. IsNextOf (tables_of g.S.Store v) c.args.batch.now) (sym c.self.view_is)
    c.requires.next in
    subst (λ v. CommitLeaves c.args.batch.now c.commit.result (tables_of g.S.Store v) (told_since adopted new)
    (leaves_of g.S.Store v) (leaves_since adopted new)) c.self.view_is
    (ends_leaves c.args.batch.now c.commit.result adopted old new c.self.invariant next c.commit.ensures)

pub invariant_of-self : goal.invariant_of-self
invariant_of-self g c =
    let next = subst (λ v. IsNextOf (tables_of g.S.Store v) c.args.batch.now) (sym c.self.view_is)
    c.requires.next in
    ends_on c.args.batch.now c.commit.result (state g.S.Store c.self.inside.adopted.value)
    (state g.S.Store c.self.inside.conn) (state g.S.Store c.commit.new.conn) c.self.invariant next
    c.commit.ensures
