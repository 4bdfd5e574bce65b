-- What a crash may leave of the tables of a connection.
use Rattle.std.specs.Prelude.{◌≡◌, ◌⊎◌, Option, IsSome}
use Rattle.sqlite_trees.specs.Tree.{Trees}
use Rattle.sqlite_schema.specs.declared.schema.Schema.{Schema}
use Rattle.sqlite_catalog.specs.Listing.{IsSound}
use Rattle.sqlite.specs.State.{State, HasCleanDisk}
use Rattle.lei_values.specs.KeptTables.{KeptTables}
use Rattle.store_tables.specs.Told.{told_in, told_in_trees}

-- What an open would tell of trees that a crash may leave, by the schema listed in them.
abbrev pub MayBeFound : State → Option KeptTables → Type 0
MayBeFound s left = (trees : Trees) × (schema : Schema) × s.may_leave trees × IsSound schema trees
    × (left ≡ told_in_trees schema trees)

-- While the disk is clean, a crash leaves the tables that are told, or what an open would find.
abbrev pub leaves_in : State → Option KeptTables → Type 0
leaves_in s left = HasCleanDisk s × ((IsSome left × (left ≡ told_in s)) ⊎ MayBeFound s left)
