use Rattle.std.proofs.Common.{sym, ap, ◌∙◌}
use Rattle.copy_forms.specs.JsonReading.{string_from}
use Rattle.copy_forms.proofs.JsonStrings.{string-end, string-more, string-none, string-plain, string-shorter, with_text}
use Rattle.copy_forms.proofs.json_strings.escaped_from.Goals as goal

pub returns-in-Some : goal.returns-in-Some
returns-in-Some c =
    let joined =
    string-plain c.loop-text.text.items c.split_at.result.0.now c.split_at.result.1.now c.loop-text.rest.now c.plain_len.result _ c.loop-text.invariant
    c.plain_len.ensures.within c.plain_len.ensures.before c.split_at.ensures.front c.split_at.ensures.back in
    let so_far = ap (λ text. with_text text (string_from c.split_at.result.1.now)) c.in_ok-extend_from_slice.ensures.items ∙ joined in
    string-end c.extend_from_slice.new.self.items c.split_at.result.1.now c.in-Some.behind.now _ so_far (sym c.in-Some.ensures)

pub returns-in-None : goal.returns-in-None
returns-in-None c =
    let joined =
    string-plain c.loop-text.text.items c.split_at.result.0.now c.split_at.result.1.now c.loop-text.rest.now c.plain_len.result _ c.loop-text.invariant
    c.plain_len.ensures.within c.plain_len.ensures.before c.split_at.ensures.front c.split_at.ensures.back in
    let so_far = ap (λ text. with_text text (string_from c.split_at.result.1.now)) c.in_ok-extend_from_slice.ensures.items ∙ joined in
    string-none c.extend_from_slice.new.self.items c.split_at.result.1.now c.loop-text.rest.now c.plain_len.result _ so_far c.plain_len.ensures.within
    c.split_at.ensures.back c.plain_len.ensures.stop c.in_default.ensures c.in-None.ensures

pub loop-text-smaller : goal.loop-text-smaller
loop-text-smaller c =
    string-shorter c.split_at.result.1.now c.in-Some-escape_from.behind.now c.loop-text.rest.now c.in-Some-escape_from.byte c.plain_len.result
    c.split_at.ensures.back c.in-Some-escape_from.ensures

pub loop-text-preserved : goal.loop-text-preserved
loop-text-preserved c =
    let joined =
    string-plain c.loop-text.text.items c.split_at.result.0.now c.split_at.result.1.now c.loop-text.rest.now c.plain_len.result _ c.loop-text.invariant
    c.plain_len.ensures.within c.plain_len.ensures.before c.split_at.ensures.front c.split_at.ensures.back in
    let so_far = ap (λ text. with_text text (string_from c.split_at.result.1.now)) c.in_ok-extend_from_slice.ensures.items ∙ joined in
    ap (λ text. with_text text (string_from c.in-Some-escape_from.behind.now)) c.in_ok-push-in-Some-escape_from.ensures.items
    ∙ string-more c.extend_from_slice.new.self.items c.split_at.result.1.now c.in-Some-escape_from.behind.now c.in-Some-escape_from.byte _ so_far
    c.in-Some-escape_from.ensures
