use Rattle.group_reports.proofs.ChainLemmas.{members_lead, members_once, root_apart}
use Rattle.group_reports.proofs.laws.members_are_those_with_a_chain.Goals as goal

pub returns-clause-chain : goal.returns-clause-chain
returns-clause-chain c = λ links root lei other. members_lead links root lei other

pub returns-clause-root : goal.returns-clause-root
returns-clause-root c = λ links root at. root_apart links root at

pub returns-clause-once : goal.returns-clause-once
returns-clause-once c = λ links root. members_once links root
