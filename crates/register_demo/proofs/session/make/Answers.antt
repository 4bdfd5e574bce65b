use Rattle.std.proofs.Common.{◌∙◌, ℕ, List, ap, refl, subst}
use Rattle.register_demo.specs.Marks.{row_count_in}
use Rattle.register_demo.specs.Session.{IsPatchedSize, MakesRecords, text_in_reply}
use Rattle.register_demo.proofs.Making.{tells, two-made}
use Rattle.register_demo.proofs.session.make.Goals as goal

pub returns-clause-told : goal.returns-clause-told
returns-clause-told g c =
    let first = c.in_ok-first.first in
    let copy = c.in_ok-first.copy in
    let second = c.in_ok-second.second in
    let lei = c.in_ok-repeats.lei_delta in
    let rr = c.in_ok-repeats.rr_delta in
    let o1 = c.args.office.now.office in
    let o2 = c.make_records.new.office.office in
    let sent = c.make_records.new.answers.items in
    let size = c.in_ok-applied.applied in
    let M : List ℕ → Type 0 = λ old. MakesRecords c.args.n o1 o2 old sent first copy in
    let C : List ℕ → Type 0 = λ text. IsPatchedSize text c.text_of-2.result.now size in
    let D : List ℕ → Type 0 = λ text. IsPatchedSize (text_in_reply copy) text size in
    tells c.args.n o1 o2 c.make_relationships.new.office.office c.repeat_records.new.office.office sent c.make_relationships.new.answers.items
    first copy second lei rr c.in_ok-repeats.repeats _ (subst M c.new-answers.ensures.items c.in_ok-first.ensures.makes) c.in_ok-second.ensures.makes
    c.in_ok-repeats.ensures.repeats refl refl
    (two-made first second c.publication_count.result c.publication_count-2.result c.publication_count.ensures.value c.publication_count-2.ensures.value)
    (c.in_ok-copy_of.ensures ∙ c.text_of-3.ensures) (c.rows_in.ensures ∙ ap row_count_in c.text_of-4.ensures)
    (c.rows_in-2.ensures ∙ ap row_count_in c.text_of-5.ensures) (subst D c.text_of-2.ensures (subst C c.text_of.ensures c.in_ok-applied.ensures))
