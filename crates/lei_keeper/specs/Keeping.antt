-- What a keeper promises: what its calls do to the tables that it tells, and what a crash may leave of them. `None` is a
-- keeper that tells nothing.
use Rattle.std.specs.Prelude.{◌≡◌, ◌⊎◌, Option, None, Some, IfSome, Result, MatchResult, ⊤}
use Rattle.lei_values.specs.KeptTables.{KeptTables, with_batch}
use Rattle.lei_values.specs.declared.batch.Batch.{Batch}

-- ---- what calls do

-- The told tables became what this function makes of them. What is untold stays untold, and what is told may become
-- untold.
abbrev pub Becomes : (KeptTables → KeptTables) → Option KeptTables → Option KeptTables → Type 0
Becomes change None None = ⊤
Becomes change None (Some new) = ⊥
Becomes change (Some old) None = ⊤
Becomes change (Some old) (Some new) = new ≡ change old

-- The told tables are as they were.
abbrev pub TablesStay : Option KeptTables → Option KeptTables → Type 0
TablesStay old new = Becomes (λ tables. tables) old new

-- A batch was kept whole, or nothing of it.
abbrev pub Commits : {E : Type 0} → Batch → Result (Unit {0}) E → Option KeptTables
    → Option KeptTables → Type 0
Commits batch result old new =
    MatchResult result (λ _. Becomes (with_batch batch) old new) (λ _. TablesStay old new)

-- ---- what a crash may leave

-- A crash leaves nothing that it might not have left before.
abbrev pub LeavesNoMore : (Option KeptTables → Type 0) → (Option KeptTables → Type 0) → Type 0
LeavesNoMore old new = (left : Option KeptTables) → new left → old left

-- If the tables are told, a crash leaves these.
abbrev pub LeavesTold : Option KeptTables → (Option KeptTables → Type 0) → Type 0
LeavesTold told leaves = IfSome told (λ tables. (left : Option KeptTables) → leaves left → left ≡ Some tables)

-- What is left is what might have been left before, or the told tables with the batch.
abbrev pub LeavesEither : Batch → Option KeptTables → (Option KeptTables → Type 0)
    → (Option KeptTables → Type 0) → Type 0
LeavesEither batch told old new = (left : Option KeptTables) → new left
    → old left ⊎ ((tables : KeptTables) × (told ≡ Some tables) × (left ≡ Some (with_batch batch tables)))

-- After a commit a crash leaves the told tables; after one that was refused it may leave those with the batch too.
abbrev pub CommitLeaves : {E : Type 0} → Batch → Result (Unit {0}) E → Option KeptTables → Option KeptTables
    → (Option KeptTables → Type 0) → (Option KeptTables → Type 0) → Type 0
CommitLeaves batch result told_old told_new old new =
    MatchResult result (λ _. LeavesTold told_new new) (λ _. LeavesEither batch told_old old new)
