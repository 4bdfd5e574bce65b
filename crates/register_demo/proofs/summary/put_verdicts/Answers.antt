use Rattle.std.proofs.Common.{[], ◌∷◌, ◌++◌, refl}
use Rattle.std.specs.Prelude.{codes, decimal}
use Rattle.register_demo.specs.Marks.{times}
use Rattle.register_demo.proofs.Lines.{no-lines, put-number}
use Rattle.register_demo.proofs.summary.put_verdicts.Goals as goal

pub returns : goal.returns
returns c =
    let old = c.args.out.now.items in
    let told = c.args.answers.now in
    let one = (codes "entries", decimal c.args.entries) ∷ [] in
    let two = one ++ (codes "accepted", decimal (times (codes "\"ACCEPTED\"") told)) ∷ [] in
    let three = two ++ (codes "rejected C19", decimal (times (codes "\"C19 ") told)) ∷ [] in
    let four = three ++ (codes "rejected C32", decimal (times (codes "\"C32 ") told)) ∷ [] in
    let first = put-number [] (codes "entries") c.args.entries c.args.entries old old c.put_number.new.out.items (no-lines old) refl
    c.in_ok-put_number.ensures in
    let second = put-number one (codes "accepted") c.times.result (times (codes "\"ACCEPTED\"") told) old c.put_number.new.out.items
    c.put_number-2.new.out.items first c.times.ensures.value c.in_ok-put_number-2.ensures in
    let third = put-number two (codes "rejected C19") c.times-2.result (times (codes "\"C19 ") told) old c.put_number-2.new.out.items
    c.put_number-3.new.out.items second c.times-2.ensures.value c.in_ok-put_number-3.ensures in
    let fourth = put-number three (codes "rejected C32") c.times-3.result (times (codes "\"C32 ") told) old c.put_number-3.new.out.items
    c.put_number-4.new.out.items third c.times-3.ensures.value c.in_ok-put_number-4.ensures in
    put-number four (codes "rejected C33") c.times-4.result (times (codes "\"C33 ") told) old c.put_number-4.new.out.items
    c.put_number-5.new.out.items fourth c.times-4.ensures.value c.in_ok-put_number-5.ensures
