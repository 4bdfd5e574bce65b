use Rattle.std.proofs.Common.{subst, sym}
use Rattle.lei_keeper.specs.Keeping.{CommitLeaves}
use Rattle.keeper_sqlite.specs.Keepers.{leaves_from, leaves_of, tables_in, tables_of}
use Rattle.keeper_sqlite.proofs.keeper.commit_in.Goals as goal

pub returns-in-Some-clause-crash : goal.returns-in-Some-clause-crash
returns-in-Some-clause-crash g c =
    subst (λ o. CommitLeaves c.args.batch.now c.commit.result (tables_in g.S.Store o)
    (tables_of g.S.Store c.commit.new.self) (leaves_from g.S.Store o)
    (leaves_of g.S.Store c.commit.new.self))
    (sym c.in-Some.is) c.commit.ensures.crash
