use Rattle.std.proofs.Common.{subst, sym}
use Rattle.lei_keeper.specs.Keeping.{LeavesNoMore}
use Rattle.keeper_sqlite.specs.Keepers.{leaves_from, leaves_of}
use Rattle.keeper_sqlite.proofs.keeper.entries_of.Goals as goal

pub returns-in-Some-clause-crash : goal.returns-in-Some-clause-crash
returns-in-Some-clause-crash g c = subst
    (λ o. LeavesNoMore (leaves_from g.S.Store o) (leaves_of g.S.Store c.entries.new.self)) (sym c.in-Some.is)
    c.entries.ensures.crash
