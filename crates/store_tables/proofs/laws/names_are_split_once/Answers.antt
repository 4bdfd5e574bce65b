use Rattle.store_tables.proofs.NameLemmas.{joined_again, parts_of}
use Rattle.store_tables.proofs.LawLemmas.{split_once}
use Rattle.store_tables.proofs.laws.names_are_split_once.Goals as goal

pub returns-clause-parts : goal.returns-clause-parts
returns-clause-parts c = λ name. (parts_of name, joined_again name)

pub returns-clause-once : goal.returns-clause-once
returns-clause-once c = split_once
