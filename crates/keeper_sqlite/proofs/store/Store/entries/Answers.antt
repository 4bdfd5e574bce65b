use Rattle.std.proofs.Common.{subst}
use Rattle.lei_keeper.specs.Keeping.{LeavesNoMore, TablesStay}
use Rattle.sqlite.specs.Held.{state}
use Rattle.keeper_sqlite.specs.Keepers.{leaves_of, leaves_since, tables_of, told_since}
use Rattle.store_tables.proofs.CallLemmas.{if_ok}
use Rattle.keeper_sqlite.proofs.SinceLemmas.{since_told, steady_leaves, steady_on, steady_stays, told_by_is}
use Rattle.keeper_sqlite.proofs.store.Store.entries.Goals as goal

pub returns-clause-answer : goal.returns-clause-answer
returns-clause-answer g c =
    let adopted = state g.S.Store c.self.inside.adopted.value in
    let new = state g.S.Store c.entries.new.conn in
    told_by_is (told_since adopted new) _
    (λ t told. let it = since_told adopted new t told in if_ok c.entries.result _ _
    (λ x answer. answer t it.1) (c.entries.ensures.answer it.0))

pub returns-clause-same : goal.returns-clause-same
returns-clause-same g c =
    let adopted = state g.S.Store c.self.inside.adopted.value in
    let old = state g.S.Store c.self.inside.conn in
    let new = state g.S.Store c.entries.new.conn in
    subst (λ v. TablesStay (tables_of g.S.Store v) (told_since adopted new)) c.self.view_is
    (steady_stays adopted old new c.self.invariant c.entries.ensures.steady)

pub returns-clause-crash : goal.returns-clause-crash
returns-clause-crash g c =
    let adopted = state g.S.Store c.self.inside.adopted.value in
    let old = state g.S.Store c.self.inside.conn in
    let new = state g.S.Store c.entries.new.conn in
    subst (λ v. LeavesNoMore (leaves_of g.S.Store v) (leaves_since adopted new)) c.self.view_is
    (steady_leaves adopted old new c.self.invariant c.entries.ensures.steady)

pub invariant_of-self : goal.invariant_of-self
invariant_of-self g c =
    steady_on (state g.S.Store c.self.inside.adopted.value) (state g.S.Store c.self.inside.conn)
    (state g.S.Store c.entries.new.conn) c.self.invariant c.entries.ensures.steady
