use Rattle.std.proofs.Common.{◌++◌, ap, refl, ◌∙◌}
use Rattle.name_search.specs.Keys.{get_by_word}
use Rattle.std.specs.Option.{option_map}
use Rattle.std.specs.FinMap.Entries.{is_sorted}
use Rattle.name_search.specs.Keys.{text_cmp}
use Rattle.name_search.specs.Walks.{keys_in, rising_in}
use Rattle.name_search.proofs.NotedLemmas.{covers_at, indexed-sorted}
use Rattle.name_search.proofs.index.Index.gather.Goals as goal

pub gather_under-requires-clause-sorted : goal.gather_under-requires-clause-sorted
gather_under-requires-clause-sorted c =
    ap (is_sorted text_cmp) c.as_slice-rows.ensures.value ∙ indexed-sorted c.self.inside.rows.items c.self.inside.postings c.self.invariant

pub gather_under-requires-clause-covers : goal.gather_under-requires-clause-covers
gather_under-requires-clause-covers c =
    covers_at c.self.inside.postings c.self.inside.rows.items c.as_slice-rows.result.now c.args.wanted.now c.rarest.result c.index-wanted-rarest.result c.index-wanted-rarest.result _
    c.self.invariant.noted c.rarest.ensures c.index-wanted-rarest.is c.as_slice-rows.ensures.value
    (ap (λ l. l ++ keys_in (option_map (λ keys. keys.now) c.later_keys-later.result)) c.first_keys-first.ensures.value
    ∙ ap (λ l. rising_in (get_by_word c.self.inside.postings.first c.index-wanted-rarest.result) ++ l) c.later_keys-later.ensures)
    refl
