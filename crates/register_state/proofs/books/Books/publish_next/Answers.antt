use Rattle.std.proofs.Common.{◌≡◌, ◌++◌, ◌∷◌, [], ap, subst, sym, ◌∙◌}
use Rattle.golden_shelf.specs.Shelves.{KeepsTrail as KeepsTrail}
use Rattle.golden_shelf.proofs.Publishing.{may_follow}
use Rattle.upload_ledger.specs.History.{is_publication}
use Rattle.register_history.specs.Legal.{Legal}
use Rattle.register_history.specs.Publications.{are_wide_rules, publication_by, trail}
use Rattle.register_history.specs.Publishing.{AreNextChanges}
use Rattle.register_history.specs.Register.{after}
use Rattle.register_history.specs.Replies.{publication_entry, published_counts}
use Rattle.register_history.specs.State.{office_of}
use Rattle.register_history.proofs.Histories.{follows-within}
use Rattle.register_history.proofs.PlainRows.{changes-plain, never-narrows}
use Rattle.register_state.proofs.Shelved.{next-shelved, published-counted, published-shelved, shelf-few}
use Rattle.register_state.proofs.books.Books.publish_next.Goals as goal

pub shelve-requires-clause-few : goal.shelve-requires-clause-few
shelve-requires-clause-few g c = λ _ _.
    let office = c.args.self.now in
    shelf-few office.limits office.history c.args.shelf.now.now c.args.number c.requires.shelf c.requires.number.1 c.requires.next

pub shelve-requires-clause-follows : goal.shelve-requires-clause-follows
shelve-requires-clause-follows g c = λ _ _.
    let office = c.args.self.now in
    let rules = c.args.terms.now.rules in
    let legal = subst Legal c.self.view_is c.self.invariant.legal in
    let follows = follows-within office.history rules c.requires.follows in
    may_follow (trail office) c.args.shelf.now.now (are_wide_rules rules) c.requires.shelf (never-narrows office.limits office.history rules legal follows.rising)

pub shelve-requires-clause-plain : goal.shelve-requires-clause-plain
shelve-requires-clause-plain g c = λ _ _.
    let office = c.args.self.now in
    let rules = c.args.terms.now.rules in
    let legal = subst Legal c.self.view_is c.self.invariant.legal in
    let follows = follows-within office.history rules c.requires.follows in
    let next = subst (AreNextChanges office.limits office.history) (sym c.as_slice.ensures.value) c.in_ok-changes.ensures.changes in
    changes-plain office.limits office.history c.as_slice.result.now rules legal follows.rising next

pub returns-in-Ok-clause-entry : goal.returns-in-Ok-clause-entry
returns-in-Ok-clause-entry g c =
    let office = c.args.self.now in
    let limits = office.limits in
    let history = office.history in
    let list = c.as_slice.result.now in
    let e = publication_entry office c.args.number c.args.terms.now in
    let next = subst (AreNextChanges limits history) (sym c.as_slice.ensures.value) c.in_ok-changes.ensures.changes in
    let legal = subst Legal c.self.view_is c.self.invariant.legal in
    let made = trail office ++ publication_by limits history e ∷ [] in
    let keeps : KeepsTrail made c.shelve.new.shelf.now =
    published-shelved limits history c.args.number c.args.terms.now list c.args.shelf.now.now c.shelve.new.shelf.now legal next c.requires.shelf c.in_ok-shelve.ensures.next in
    let counted = published-counted limits history (trail office) e c.counts.result (c.counts.ensures.lei made keeps) (c.counts.ensures.rr made keeps) (c.counts.ensures.repex made keeps) in
    let same = c.entries-entries.ensures ∙ ap (λ o. o.history) c.self.view_is in
    c.in-Ok.ensures limits (counted ∙ ap (λ l. published_counts (after limits l)) (sym same))
    ∙ ap (λ l. publication_entry (office_of limits l) c.args.number c.args.terms.now) same

pub returns-in-Ok-clause-shelf : goal.returns-in-Ok-clause-shelf
returns-in-Ok-clause-shelf g c =
    let office = c.args.self.now in
    let limits = office.limits in
    let history = office.history in
    let list = c.as_slice.result.now in
    let e = publication_entry office c.args.number c.args.terms.now in
    let next = subst (AreNextChanges limits history) (sym c.as_slice.ensures.value) c.in_ok-changes.ensures.changes in
    let legal = subst Legal c.self.view_is c.self.invariant.legal in
    let keeps : KeepsTrail (trail office ++ publication_by limits history e ∷ []) c.shelve.new.shelf.now =
    published-shelved limits history c.args.number c.args.terms.now list c.args.shelf.now.now c.shelve.new.shelf.now legal next c.requires.shelf c.in_ok-shelve.ensures.next in
    let own : c.in-Ok.entry ≡ e = returns-in-Ok-clause-entry g c in
    next-shelved limits history c.in-Ok.entry c.shelve.new.shelf.now (ap is_publication own)
    (subst (λ x. KeepsTrail (trail office ++ publication_by limits history x ∷ []) c.shelve.new.shelf.now) (sym own) keeps)
