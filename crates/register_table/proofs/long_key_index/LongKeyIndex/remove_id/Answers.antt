use Rattle.std.proofs.Common.{◌≡◌, Some, None, refl, rules, subst, sym}
use mathlib.Core.Bool.{true≢false}
use Rattle.std.specs.BTreeMap.{get_by_text}
use Rattle.register_table.proofs.IndexLemmas.{lei_under-changed, text_at-update}
use Rattle.register_table.specs.Indexes.{IsBare}
use Rattle.register_table.proofs.long_key_index.LongKeyIndex.remove_id.Goals as goal

pub returns-in-Some-clause-removed : goal.returns-in-Some-clause-removed
returns-in-Some-clause-removed c =
    let was : get_by_text c.args.self.now.map c.args.authority.now ≡ Some c.in-Some.ids.now = search rules in
    let ids = c.remove.new.self in
    let after = c.get_mut.follows.lender ids in
    lei_under-changed c.args.self.now.map after c.args.authority.now (Some c.in-Some.ids.now) ids was
    (text_at-update c.args.self.now.map after c.args.authority.now c.args.authority.now (Some ids) refl ((c.get_mut.follows.holds ids).3 (search rules)))
    c.args.id.now (λ _. None)
    (text_at-update c.in-Some.ids.now ids c.args.id.now c.args.id.now None refl c.remove.ensures.updates)

pub returns-in-None-clause-bare : goal.returns-in-None-clause-bare
returns-in-None-clause-bare c =
    let none : get_by_text c.get_mut.follows.lender-at-none c.args.authority.now ≡ None = search rules in
    (λ t. absurd (true≢false (sym t)), λ bare. absurd (subst IsBare none bare))
