use Rattle.std.proofs.Common.{◌≡◌, Some, None, ap, refl, rules, sym, ◌∙◌}
use Rattle.std.specs.BTreeMap.{get_by_text}
use Rattle.std.specs.Str.{bytes_eq}
use Rattle.authority_rules.proofs.HolderLemmas.{bytes_same}
use Rattle.register_table.proofs.IndexLemmas.{freed_when, text_at-update}
use Rattle.register_table.proofs.long_key_index.free_id.Goals as goal

pub returns-in-Some : goal.returns-in-Some
returns-in-Some c i =
    let ids = c.args.ids.now in
    let id = c.args.id.now in
    let was : get_by_text ids id ≡ Some c.in-Some.noted.now = search rules in
    text_at-update ids (c.get_mut.follows.lender None) id id (Some None) refl ((c.get_mut.follows.holds None).3 (search rules)) i
    ∙ freed_when (bytes_eq id i) (get_by_text ids i) c.in-Some.noted.now (λ t. ap (get_by_text ids) (sym (bytes_same id i t)) ∙ was)
