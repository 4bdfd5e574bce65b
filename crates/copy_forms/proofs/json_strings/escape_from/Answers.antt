use Rattle.std.proofs.Common.{◌++◌, below_more, sym, ap, ◌∙◌, arith}
use Rattle.copy_forms.specs.JsonReading.{after_front}
use Rattle.copy_forms.proofs.JsonStrings.{after_front-taken, entry-escape, entry-read, length-table, no_escape}
use Rattle.copy_forms.proofs.json_strings.escape_from.Goals as goal

pub returns-in-Some : goal.returns-in-Some
returns-in-Some c =
    let table = c.escape_table-byte-items.result.now in
    let taken = after_front-taken c.as_bytes.result.now c.args.bytes.now c.in-Some.rest.now (sym c.in-Some.ensures) in
    let is = c.as_bytes.ensures.value ∙ entry-escape table c.loop-byte.byte-index _ c.loop-byte.invariant.table c.loop-byte-test.true in
    taken ∙ ap (λ escape. escape ++ c.in-Some.rest.now) is

pub loop-byte-preserved : goal.loop-byte-preserved
loop-byte-preserved c = record {
  table = c.loop-byte.invariant.table;
  missed =
      let table = c.escape_table-byte-items.result.now in
      let entry = entry-read table c.loop-byte.byte-index _ c.loop-byte.invariant.table c.loop-byte-test.true in
      below_more _ _ c.loop-byte.invariant.missed
      (ap (λ e. after_front e.1 c.args.bytes.now) entry ∙ ap (λ escape. after_front escape c.args.bytes.now) (sym c.as_bytes.ensures.value) ∙ sym c.in_default.ensures);
}

pub returns : goal.returns
returns c =
    let long = length-table c.escape_table-byte-items.result.now c.loop-byte.invariant.table in
    no_escape c.args.bytes.now (λ k less. c.loop-byte.invariant.missed k (omega arith))
