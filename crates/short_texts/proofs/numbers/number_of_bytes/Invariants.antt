use Rattle.std.proofs.Common.{◌≡◌, ◌<◌, ◌≤◌, length, drop}
use Rattle.short_texts.specs.Packed.{number_after}
use Rattle.short_texts.proofs.NumberLemmas.{limit}
use Rattle.short_texts.proofs.numbers.number_of_bytes.Given as goal

abbrev pub invariant-loop-byte : goal.invariant-loop-byte
invariant-loop-byte l = record {
  rest : number_after l.number (drop l.byte-index l.bytes) ≡ number_after 1 l.bytes;
  below : l.number < limit l.byte-index;
  short : length l.bytes ≤ 15;
}
