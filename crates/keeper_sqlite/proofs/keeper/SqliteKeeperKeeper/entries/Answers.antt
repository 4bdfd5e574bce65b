use Rattle.std.proofs.Common.{subst}
use Rattle.lei_keeper.specs.Keeping.{LeavesNoMore}
use Rattle.keeper_sqlite.specs.Keepers.{leaves_from}
use Rattle.keeper_sqlite.proofs.keeper.SqliteKeeperKeeper.entries.Goals as goal

pub returns-clause-crash : goal.returns-clause-crash
returns-clause-crash g c = subst
    (λ v. LeavesNoMore (leaves_from g.S.Store v.store) (leaves_from g.S.Store c.entries_of-answer.new.store))
    c.self.view_is c.entries_of-answer.ensures.crash
