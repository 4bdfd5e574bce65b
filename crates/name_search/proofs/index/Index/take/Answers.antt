use Rattle.std.proofs.Common.{ap, subst, ◌∙◌}
use Rattle.std.specs.FinMap.Entries.{is_sorted}
use Rattle.name_search.specs.NameTables.{NameTable}
use Rattle.name_search.specs.Keys.{text_cmp}
use Rattle.name_search.specs.Walks.{StaysFor}
use Rattle.name_search.proofs.NotedLemmas.{indexed-after, indexed-forgot, indexed-more, indexed-sorted}
use Rattle.name_search.proofs.Walked.{table_after}
use Rattle.name_search.proofs.index.Index.take.Goals as goal

pub returns-clause-rows : goal.returns-clause-rows
returns-clause-rows g c = λ rows is.
    table_after rows c.args.delta.now.changes c.as_slice-changes.result.now c.args.self.now _ c.swap.new.y.items c.as_slice-changes.ensures c.requires.changes
    (ap (λ rows. rows.items) c.swap.ensures.y_after ∙ ap (λ (t : NameTable). t.names) c.self.view_is) c.merge.ensures is

pub invariant_of-self : goal.invariant_of-self
invariant_of-self g c =
    indexed-more c.self.inside.rows.items c.self.inside.postings c.note_all.new.self c.self.invariant c.note_all.ensures.stays

pub invariant_of-self-in_err-rows : goal.invariant_of-self-in_err-rows
invariant_of-self-in_err-rows g c =
    indexed-more c.self.inside.rows.items c.self.inside.postings c.note_all.new.self c.self.invariant c.note_all.ensures.stays

pub forget_all-requires : goal.forget_all-requires
forget_all-requires g c =
    ap (is_sorted text_cmp) c.as_slice-3.ensures.value
    ∙ indexed-sorted c.merge.new.out.items c.note_all.new.self
    (indexed-after c.self.inside.rows.items c.merge.new.out.items c.as_slice.result.now c.args.delta.now.changes c.as_slice-changes.result.now c.self.inside.postings c.note_all.new.self
    c.self.invariant c.note_all.ensures.stays c.in_ok-note_all.ensures.noted (c.as_slice.ensures.value ∙ c.in_ok-puts.ensures.names) c.as_slice-changes.ensures c.requires.changes
    (λ copy are is. c.merge.ensures copy are (ap (λ rows. rows.items) c.swap.ensures.y_after ∙ is)))

pub invariant_of-self-2 : goal.invariant_of-self-2
invariant_of-self-2 g c =
    indexed-forgot c.merge.new.out.items c.note_all.new.self c.forget_all.new.self
    (indexed-after c.self.inside.rows.items c.merge.new.out.items c.as_slice.result.now c.args.delta.now.changes c.as_slice-changes.result.now c.self.inside.postings c.note_all.new.self
    c.self.invariant c.note_all.ensures.stays c.in_ok-note_all.ensures.noted (c.as_slice.ensures.value ∙ c.in_ok-puts.ensures.names) c.as_slice-changes.ensures c.requires.changes
    (λ copy are is. c.merge.ensures copy are (ap (λ rows. rows.items) c.swap.ensures.y_after ∙ is)))
    (subst (λ l. StaysFor l c.note_all.new.self c.forget_all.new.self) c.as_slice-3.ensures.value c.forget_all.ensures)

pub invariant_of-self-in_err-gone : goal.invariant_of-self-in_err-gone
invariant_of-self-in_err-gone g c =
    indexed-more c.self.inside.rows.items c.self.inside.postings c.note_all.new.self c.self.invariant c.note_all.ensures.stays

pub merge-requires-clause-sorted : goal.merge-requires-clause-sorted
merge-requires-clause-sorted g c =
    ap (λ rows. is_sorted text_cmp rows.items) c.swap.ensures.y_after ∙ indexed-sorted c.self.inside.rows.items c.self.inside.postings c.self.invariant
