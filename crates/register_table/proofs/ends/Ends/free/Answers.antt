use Rattle.std.proofs.Common.{◌≡◌, ◌&&◌, cond, Some, None, ap, rules, sym, ◌∙◌}
use Rattle.std.specs.Str.{bytes_eq}
use Rattle.authority_rules.proofs.HolderLemmas.{bytes_same, first_true, second_true}
use Rattle.lei_shapes.specs.Lists.{relation_type_text}
use Rattle.register_table.specs.Indexes.{end_under}
use Rattle.register_table.proofs.IndexLemmas.{end_under-update, freed_when}
use Rattle.register_table.proofs.ends.Ends.free.Goals as goal

pub returns-in-Some : goal.returns-in-Some
returns-in-Some c s k =
    let map = c.args.self.now.map in
    let start = c.args.start.now in
    let text = relation_type_text c.args.kind in
    let other = relation_type_text k in
    let was : end_under map start c.text.result.now ≡ Some c.in-Some.noted.now = search rules in
    end_under-update map (c.get_mut.follows.lender None) (start, c.text.result) (Some None) ((c.get_mut.follows.holds None).3 (search rules)) s other
    ∙ (ap (λ t. cond (bytes_eq start s && bytes_eq t other) (Some None) (end_under map s other)) c.text.ensures
    ∙ freed_when (bytes_eq start s && bytes_eq text other) (end_under map s other) c.in-Some.noted.now
    (λ t.
    let p = sym (bytes_same start s (first_true _ _ t)) in
    let q = sym (bytes_same text other (second_true _ _ t)) ∙ sym c.text.ensures in
    (λ j. end_under map (p j) (q j)) ∙ was))
