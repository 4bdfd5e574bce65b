use Rattle.std.proofs.Common.{subst, sym}
use Rattle.lei_keeper.specs.Keeping.{CommitLeaves}
use Rattle.keeper_sqlite.specs.Keepers.{leaves_from, tables_in}
use Rattle.keeper_sqlite.proofs.keeper.SqliteKeeperKeeper.commit.Goals as goal

pub returns-clause-crash : goal.returns-clause-crash
returns-clause-crash g c =
    let new = c.commit_in-answer.new.store in
    subst (λ r. CommitLeaves c.args.batch.now r (tables_in g.S.Store c.args.self.now.store)
    (tables_in g.S.Store new) (leaves_from g.S.Store c.args.self.now.store) (leaves_from g.S.Store new))
    (sym c.count_fault.ensures.same)
    (subst (λ v. CommitLeaves c.args.batch.now c.commit_in-answer.result (tables_in g.S.Store v.store)
    (tables_in g.S.Store new) (leaves_from g.S.Store v.store) (leaves_from g.S.Store new))
    c.self.view_is c.commit_in-answer.ensures.crash)
