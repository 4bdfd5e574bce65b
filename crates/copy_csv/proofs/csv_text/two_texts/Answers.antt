use Rattle.std.proofs.Common.{◌≡◌, ◌-◌, ◌++◌, length, ap, ◌∙◌, arith}
use Rattle.std.specs.List.{slice_range}
use Rattle.item_fields.specs.Sheets.{read_texts}
use Rattle.copy_csv.proofs.RecordLemmas.{further-put, lent-some, lines-back, lines-front, two-lines}
use Rattle.copy_csv.proofs.csv_text.two_texts.Goals as goal

pub overflow_sub-len-2 : goal.overflow_sub-len-2
overflow_sub-len-2 c =
    let two = (two-lines c.in_ok-line.line.items c.put_two_lines.new.out.items (read_texts c.args.fields.now) (read_texts c.args.others.now)
    c.in_ok-start.start (lent-some c.args.fields.now c.requires.some) (lent-some c.args.others.now c.requires.more) c.in_ok-line.ensures.items
    c.in_ok-start.ensures.lines c.in_ok-start.ensures.begins) in
    let long : c.len-2.result ≡ length c.put_two_lines.new.out.items = c.len-2.ensures ∙ c.put_two_lines.new.out.ok.0 in
    let more = two.within in
    omega arith

pub slice_bounds-extend_from_slice-count : goal.slice_bounds-extend_from_slice-count
slice_bounds-extend_from_slice-count c =
    let two = (two-lines c.in_ok-line.line.items c.put_two_lines.new.out.items (read_texts c.args.fields.now) (read_texts c.args.others.now)
    c.in_ok-start.start (lent-some c.args.fields.now c.requires.some) (lent-some c.args.others.now c.requires.more) c.in_ok-line.ensures.items
    c.in_ok-start.ensures.lines c.in_ok-start.ensures.begins) in
    let long : c.len-2.result ≡ length c.put_two_lines.new.out.items = c.len-2.ensures ∙ c.put_two_lines.new.out.ok.0 in
    let more = two.within in
    omega arith

pub slice_bounds-extend_from_slice-start : goal.slice_bounds-extend_from_slice-start
slice_bounds-extend_from_slice-start c =
    let two = (two-lines c.in_ok-line.line.items c.put_two_lines.new.out.items (read_texts c.args.fields.now) (read_texts c.args.others.now)
    c.in_ok-start.start (lent-some c.args.fields.now c.requires.some) (lent-some c.args.others.now c.requires.more) c.in_ok-line.ensures.items
    c.in_ok-start.ensures.lines c.in_ok-start.ensures.begins) in
    let long : c.len-2.result ≡ length c.put_two_lines.new.out.items = c.len-2.ensures ∙ c.put_two_lines.new.out.ok.0 in
    let more = two.within in
    omega arith

pub overflow_sub-start : goal.overflow_sub-start
overflow_sub-start c =
    let two = (two-lines c.in_ok-line.line.items c.put_two_lines.new.out.items (read_texts c.args.fields.now) (read_texts c.args.others.now)
    c.in_ok-start.start (lent-some c.args.fields.now c.requires.some) (lent-some c.args.others.now c.requires.more) c.in_ok-line.ensures.items
    c.in_ok-start.ensures.lines c.in_ok-start.ensures.begins) in
    two.first

pub returns-clause-line : goal.returns-clause-line
returns-clause-line c =
    let two = (two-lines c.in_ok-line.line.items c.put_two_lines.new.out.items (read_texts c.args.fields.now) (read_texts c.args.others.now)
    c.in_ok-start.start (lent-some c.args.fields.now c.requires.some) (lent-some c.args.others.now c.requires.more) c.in_ok-line.ensures.items
    c.in_ok-start.ensures.lines c.in_ok-start.ensures.begins) in
    c.from.ensures ∙ c.truncate.ensures.items
    ∙ lines-front c.put_two_lines.new.out.items (read_texts c.args.fields.now) (read_texts c.args.others.now) c.in_ok-start.start
    (lent-some c.args.fields.now c.requires.some) two.lines two.begins

pub returns-clause-further : goal.returns-clause-further
returns-clause-further c =
    let two = (two-lines c.in_ok-line.line.items c.put_two_lines.new.out.items (read_texts c.args.fields.now) (read_texts c.args.others.now)
    c.in_ok-start.start (lent-some c.args.fields.now c.requires.some) (lent-some c.args.others.now c.requires.more) c.in_ok-line.ensures.items
    c.in_ok-start.ensures.lines c.in_ok-start.ensures.begins) in
    let long : c.len-2.result ≡ length c.put_two_lines.new.out.items = c.len-2.ensures ∙ c.put_two_lines.new.out.ok.0 in
    c.from-2.ensures
    ∙ further-put c.in_ok-further.further.items c.push.new.self.items c.extend_from_slice.new.self.items (read_texts c.args.others.now)
    (lent-some c.args.others.now c.requires.more) c.in_ok-further.ensures.items c.in_ok-push.ensures.items
    (c.in_ok-extend_from_slice.ensures.items ∙ ap (λ l. c.push.new.self.items ++ l)
    (ap (λ l. slice_range l c.in_ok-start.start (c.len-2.result - 1)) c.deref.ensures.value
    ∙ lines-back c.put_two_lines.new.out.items (read_texts c.args.fields.now) (read_texts c.args.others.now) c.in_ok-start.start c.len-2.result
    (lent-some c.args.others.now c.requires.more) two.lines two.begins long))
