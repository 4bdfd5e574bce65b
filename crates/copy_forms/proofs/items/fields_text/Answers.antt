use Rattle.std.proofs.Common.{◌<◌, ◌≤◌, ◌++◌, ap, get_or, length, subst, ◌∙◌}
use Rattle.json.specs.Print.{print}
use Rattle.copy_forms.specs.Json.{json_places}
use Rattle.copy_csv.specs.Sheets.{row_of_texts}
use Rattle.copy_forms.proofs.JsonPrinting.{place-within, print-record, tokens-all, tokens-more}
use Rattle.copy_forms.proofs.items.fields_text.Goals as goal

pub put_field-requires-clause-first : goal.put_field-requires-clause-first
put_field-requires-clause-first c =
    let table = c.places-place-items.ensures in
    let within : c.loop-place.place-index < length (json_places c.args.sheet) = subst (λ l. c.loop-place.place-index < length l) table c.loop-place-test.true in
    let here = c.from.ensures ∙ ap (λ l. get_or l c.loop-place.place-index 0) table in
    rw here (place-within c.args.sheet c.loop-place.place-index within).0

pub put_field-requires-clause-last : goal.put_field-requires-clause-last
put_field-requires-clause-last c =
    let table = c.places-place-items.ensures in
    let within : c.loop-place.place-index < length (json_places c.args.sheet) = subst (λ l. c.loop-place.place-index < length l) table c.loop-place-test.true in
    let here = c.from.ensures ∙ ap (λ l. get_or l c.loop-place.place-index 0) table in
    rw here (place-within c.args.sheet c.loop-place.place-index within).1

pub loop-place-preserved : goal.loop-place-preserved
loop-place-preserved c =
    let table = c.places-place-items.ensures in
    let within : c.loop-place.place-index < length (json_places c.args.sheet) = subst (λ l. c.loop-place.place-index < length l) table c.loop-place-test.true in
    let here = c.from.ensures ∙ ap (λ l. get_or l c.loop-place.place-index 0) table in
    record {
      alone = c.in_ok-put_field.ensures.before ∙ c.loop-place.invariant.alone;
      so_far = tokens-more (row_of_texts c.args.sheet c.args.texts.now) c.loop-place.out.tokens c.put_field.new.out.tokens _ c.loop-place.place-index c.from.result c.loop-place.invariant.so_far within here
          c.in_ok-put_field.ensures.tokens;
    }

pub returns : goal.returns
returns c =
    let row = row_of_texts c.args.sheet c.args.texts.now in
    let past = subst (λ l. length l ≤ c.loop-place.place-index) c.places-place-items.ensures c.loop-place-test.false in
    let done = tokens-all row c.loop-place.out.tokens c.end_object.new.self.tokens _ c.loop-place.place-index c.loop-place.invariant.so_far past c.in_ok-end_object.ensures.ok in
    let alone = c.end_object.ensures.room.0 ∙ c.loop-place.invariant.alone in
    c.from-2.ensures ∙ c.into_inner.ensures.items ∙ ap (λ b. b ++ print c.end_object.new.self.tokens) alone ∙ ap print done ∙ print-record row
