use Rattle.std.proofs.Common.{◌≡◌, ◌+◌, ◌≤◌, drop, length, true}
use Rattle.std.specs.FinMap.Entries.{is_sorted}
use Rattle.std.specs.Prelude.{vec_capacity}
use Rattle.std.specs.Vec.Iter.{into_iter_items}
use Rattle.name_search.specs.Keys.{text_cmp}
use Rattle.name_search.specs.Puts.{put_names}
use Rattle.name_search.proofs.Walked.{WalkedSo}
use Rattle.name_search.proofs.merging.merge.Given as goal

-- what was put, with what the remaining rows and changes result in, is all
abbrev pub invariant-loop-change : goal.invariant-loop-change
invariant-loop-change l = record {
  walked : WalkedSo l.fn.rows.items l.changes l.rows.items l.change-index l.out.items;
  sorted : is_sorted text_cmp l.rows.items ≡ true;
  puts : into_iter_items l.puts ≡ put_names (drop l.change-index l.changes);
  gone : length l.gone.items ≤ l.change-index;
  room_for_gone : length l.changes ≤ vec_capacity l.gone;
  room : length l.out.items + (length l.rows.items + length (into_iter_items l.puts)) ≤ vec_capacity l.out;
}
