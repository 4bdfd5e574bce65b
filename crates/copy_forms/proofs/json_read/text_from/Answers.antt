use Rattle.std.proofs.Common.{ℕ, List, ap, subst, sym, ◌∙◌}
use Rattle.std.proofs.lemmas.Result.{err_from_is_err_and}
use Rattle.copy_forms.specs.JsonReading.{JsonFails, utf8_text}
use Rattle.copy_forms.proofs.JsonSteps.{fails-through, plain-text, text-fails, text-none, text-some}
use Rattle.copy_forms.proofs.json_read.text_from.Goals as goal

pub returns-in_err-put_text : goal.returns-in_err-put_text
returns-in_err-put_text c =
    let string =
    plain-text c.args.bytes.now c.split_at.result.0.now c.split_at.result.1.now c.in-Some.rest.now c.plain_len.result c.plain_len.ensures.within c.plain_len.ensures.before
    c.split_at.ensures.front c.split_at.ensures.back (sym c.in-Some.ensures) in
    let failed = err_from_is_err_and c.from_residual.result c.from_residual.ensures.1 in
    rw (failed.1, failed.2) (text-fails c.in_err-put_text.field-0.0 c.args.bytes.now c.split_at.result.0.now c.in-Some.rest.now string c.in_err-put_text.ensures)

pub returns-in-Some : goal.returns-in-Some
returns-in-Some c =
    let string =
    plain-text c.args.bytes.now c.split_at.result.0.now c.split_at.result.1.now c.in-Some.rest.now c.plain_len.result c.plain_len.ensures.within c.plain_len.ensures.before
    c.split_at.ensures.front c.split_at.ensures.back (sym c.in-Some.ensures) in
    let put = c.in_ok-put_text.ensures in
    (put.0, text-some c.args.bytes.now c.split_at.result.0.now c.in-Some.rest.now put.0 string put.1, put.2)

pub returns-in_err-text : goal.returns-in_err-text
returns-in_err-text c =
    let failed = err_from_is_err_and c.from_residual-in_err-text.result c.from_residual-in_err-text.ensures.1 in
    rw (failed.1, failed.2) (fails-through c.in_err-text.field-0.0 _ _ (text-none c.args.bytes.now) c.in_err-text.ensures)

pub returns-in_err-put_text-2 : goal.returns-in_err-put_text-2
returns-in_err-put_text-2 c =
    let failed = err_from_is_err_and c.from_residual-in_err-put_text-2.result c.from_residual-in_err-put_text-2.ensures.1 in
    let P : List ℕ → Type 0 = λ text. JsonFails c.in_err-put_text-2.field-0.0 (utf8_text text) in
    rw (failed.1, failed.2) (text-fails c.in_err-put_text-2.field-0.0 c.args.bytes.now c.in_ok-text.text.items c.in_ok-text.rest.now c.in_ok-text.ensures
    (subst P c.as_slice.ensures.value c.in_err-put_text-2.ensures))

pub returns : goal.returns
returns c =
    let put = c.in_ok-put_text-2.ensures in
    (put.0, text-some c.args.bytes.now c.in_ok-text.text.items c.in_ok-text.rest.now put.0 c.in_ok-text.ensures (ap utf8_text (sym c.as_slice.ensures.value) ∙ put.1), put.2)
