-- A keeper over an SQLite store may move to another thread if the store may.
use denote.RattleType.{RattleType}
use denote.Param.Send.{IsSend, sendable}
use Rattle.std.proofs.Crossing.{crosses}
use Rattle.sqlite_trees.specs.declared.store.Store as trees
use Rattle.sqlite.proofs.connection.Connection.TheSendSync as connection
use Rattle.sqlite.specs.contracts.connection.Connection as Connection
use Rattle.keeper_sqlite.specs.contracts.store.Store as Store
use Rattle.keeper_sqlite.specs.contracts.keeper.SqliteKeeper as SqliteKeeper

module _ (S : RattleType) (g : trees.Ghosts S.Denot) where
  connection_send : IsSend S → IsSend (Connection.the_field S g).row
  connection_send store = search (connection.the_send, sendable) depth 60 fits 100000

  pub store_send : IsSend S → IsSend (Store.the_field S g).row
  store_send store =
      let part = connection_send store in
      search (crosses, sendable) depth 60 fits 100000
