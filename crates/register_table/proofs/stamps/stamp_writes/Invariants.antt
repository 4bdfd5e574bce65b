use Rattle.std.proofs.Common.{ℕ, ◌+◌, ◌<◌, ◌≤◌, ◌≡◌, Option, get_or, vec_capacity, vec_len}
use Rattle.std.specs.List.{All}
use Rattle.lei_records.specs.declared.item.Item.{Item}
use Rattle.lei_records.specs.declared.view.RowKey.{RowKey}
use Rattle.register_table.specs.declared.stamps.Stamp.{Stamp}
use Rattle.register_table.specs.Held.{Held, cell_key}
use Rattle.register_table.specs.Stamps.{AreStamped, HasStamp, StampsDontFall}
use Rattle.register_table.specs.Undos.{IsLater}
use Rattle.register_table.proofs.stamps.stamp_writes.Given as goal

-- the keys of the writes so far are stamped, and the cells with lower numbers still are
abbrev pub invariant-loop-write : goal.invariant-loop-write
invariant-loop-write l = record {
  order : StampsDontFall l.stamps.items;
  most : All (λ (stamp : Stamp). stamp.entry ≤ l.entry) l.stamps.items;
  kept : (held : Held) → IsLater l.entry held → AreStamped l.fn.stamps.items held → AreStamped l.stamps.items held;
  each : (k : ℕ) (d : RowKey × Option Item) → k < l.write-index → HasStamp l.stamps.items l.entry (cell_key (get_or l.writes k d).0);
  len : vec_len l.stamps ≤ vec_len l.fn.stamps + l.write-index;
  capacity : vec_capacity l.stamps ≡ vec_capacity l.fn.stamps;
}
