use Rattle.std.proofs.Common.{◌≡◌, ◌&&◌, cond, None, ap, rules, sym, ◌∙◌}
use Rattle.std.specs.Str.{bytes_eq}
use Rattle.authority_rules.proofs.HolderLemmas.{bytes_same, first_true, second_true}
use Rattle.lei_shapes.specs.Lists.{relation_type_text}
use Rattle.register_table.specs.Indexes.{end_in_index, end_under}
use Rattle.register_table.proofs.IndexLemmas.{dropped_when, end_under-update, one_in}
use Rattle.register_table.proofs.ends.Ends.drop_freed.Goals as goal

pub returns-then-is_none : goal.returns-then-is_none
returns-then-is_none c s k =
    let map = c.args.self.now.map in
    let start = c.args.start.now in
    let text = relation_type_text c.args.kind in
    let other = relation_type_text k in
    let none : end_in_index c.args.self.now start c.args.kind ≡ None = search rules in
    end_under-update map c.remove.new.self (start, c.text.result) None c.remove.ensures.updates s other
    ∙ (ap (λ t. cond (bytes_eq start s && bytes_eq t other) None (end_under map s other)) c.text.ensures
    ∙ dropped_when (bytes_eq start s && bytes_eq text other) (end_under map s other)
    (λ t.
    let p = sym (bytes_same start s (first_true _ _ t)) in
    let q = sym (bytes_same text other (second_true _ _ t)) in
    (λ j. one_in (end_under map (p j) (q j))) ∙ none))
