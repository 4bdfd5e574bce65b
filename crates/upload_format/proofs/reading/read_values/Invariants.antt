use Rattle.std.proofs.Common.{◌≡◌, length}
use Rattle.std.specs.Vec.Iter.{into_iter_items, into_iter_len}
use Rattle.serde_json.specs.View.{items_view}
use Rattle.upload_format.specs.Bodies.{list_of}
use Rattle.upload_format.proofs.Loops.{with_front}
use Rattle.upload_format.proofs.reading.read_values.Given as goal

-- the items so far, followed by those of the values that are left, are the first items followed by those of all values
abbrev pub invariant-loop-value : goal.invariant-loop-value
invariant-loop-value l = record {
  told : with_front l.items.items (list_of l.kind (items_view (into_iter_items l.value-iterator)))
      ≡ with_front l.fn.items.items (list_of l.kind (items_view l.fn.values.items));
  left : into_iter_len l.value-iterator ≡ length (into_iter_items l.value-iterator);
}
