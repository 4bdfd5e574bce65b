use Rattle.std.proofs.Common.{[], ◌∷◌, ◌++◌}
use Rattle.std.specs.Prelude.{codes, decimal}
use Rattle.register_demo.specs.Marks.{digits_after}
use Rattle.register_demo.proofs.Lines.{no-lines, put-number, put-text}
use Rattle.register_demo.proofs.summary.put_publications.Goals as goal

pub returns : goal.returns
returns c =
    let old = c.args.out.now.items in
    let told = c.args.answer.now in
    let one = (codes "repeats", decimal c.args.repeats) ∷ [] in
    let two = one ++ (codes "publications", decimal c.args.publications) ∷ [] in
    let three = two ++ (codes "lei", digits_after (codes "\"lei\":") told) ∷ [] in
    let first = put-number [] (codes "repeats") c.from.result c.args.repeats old old c.put_number.new.out.items (no-lines old) c.from.ensures
    c.in_ok-put_number.ensures in
    let second = put-number one (codes "publications") c.from-2.result c.args.publications old c.put_number.new.out.items
    c.put_number-2.new.out.items first c.from-2.ensures c.in_ok-put_number-2.ensures in
    let third = put-text two (codes "lei") c.digits_after.result.now (digits_after (codes "\"lei\":") told) old c.put_number-2.new.out.items
    c.put_digits.new.out.items second c.digits_after.ensures c.in_ok-put_digits.ensures in
    put-text three (codes "rr") c.digits_after-2.result.now (digits_after (codes "\"rr\":") told) old c.put_digits.new.out.items
    c.put_digits-2.new.out.items third c.digits_after-2.ensures c.in_ok-put_digits-2.ensures
