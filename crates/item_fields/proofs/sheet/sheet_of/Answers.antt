use Rattle.std.proofs.Common.{◌-◌, ◌≤◌, ◌<◌, length, drop, refl, sym, ap, ◌∙◌, arith}
use Rattle.std.proofs.Math.Seq.{drop-length}
use Rattle.item_fields.specs.Sheets.{first_unknown, texts_by_place}
use Rattle.item_fields.proofs.PairLemmas.{pair_at}
use Rattle.item_fields.proofs.SheetLemmas.{texts_by_place-none, placed_known, placed_unknown, told_placed, told_unknown}
use Rattle.item_fields.proofs.sheet.sheet_of.Goals as goal

pub loop-index-init : goal.loop-index-init
loop-index-init c =
    let none = ap (λ n. drop n c.args.fields.now) c.len-index.ensures.value ∙ drop-length c.args.fields.now in
    record {
      texts = texts_by_place-none c.args.kind ∙ sym (ap (texts_by_place c.args.kind) none);
      unknown = sym (ap (first_unknown c.args.rules c.args.kind) none);
    }

pub loop-index-preserved-in-Some : goal.loop-index-preserved-in-Some
loop-index-preserved-in-Some c =
    let pairs = c.args.fields.now in
    let index = c.loop-index.index in
    let name = c.name-name.result.now in
    let text = c.text-text.result in
    let bound : index ≤ length pairs = omega (arith, c.loop-index.auto.index, c.len-index.ensures.value) in
    let within : index - 1 < length pairs = omega (arith, c.loop-index-test.true, bound) in
    let pair = pair_at pairs (index - 1) name text.now within c.name-name.ensures c.text-text.ensures in
    record {
      texts = placed_known c.args.kind pairs index (name, text.now) name c.in-Some.at text c.loop-index.texts
          c.loop-index-test.true bound pair refl refl c.in-Some.ensures.index.0 c.in-Some.ensures.index.1 c.loop-index.invariant.texts;
      unknown = told_placed c.args.rules c.args.kind pairs index (name, text.now) name c.in-Some.at _ _
          c.loop-index-test.true bound pair refl c.in-Some.ensures.index.0 c.in-Some.ensures.index.1 c.or_later-unknown.ensures c.loop-index.invariant.unknown;
    }

pub loop-index-preserved : goal.loop-index-preserved
loop-index-preserved c =
    let pairs = c.args.fields.now in
    let index = c.loop-index.index in
    let name = c.name-name.result.now in
    let text = c.text-text.result.now in
    let bound : index ≤ length pairs = omega (arith, c.loop-index.auto.index, c.len-index.ensures.value) in
    let within : index - 1 < length pairs = omega (arith, c.loop-index-test.true, bound) in
    let pair = pair_at pairs (index - 1) name text within c.name-name.ensures c.text-text.ensures in
    record {
      texts = placed_unknown c.args.kind pairs index (name, text) name c.loop-index.texts
          c.loop-index-test.true bound pair refl (sym c.in-None.ensures.known) c.loop-index.invariant.texts;
      unknown = told_unknown c.args.rules c.args.kind pairs index (name, text) name
          c.loop-index-test.true bound pair refl (sym c.in-None.ensures.known);
    }
