use Rattle.std.proofs.Common.{ap, arith, ◌∙◌, sym}
use Rattle.std.specs.Cmp.Lexicographic.{slice_cmp}
use Rattle.std.specs.Ordering.{nat_cmp}
use Rattle.name_search.proofs.PlaceLemmas.{found_is}
use Rattle.name_search.proofs.places.row_near.Goals as goal

pub returns-in-Equal : goal.returns-in-Equal
returns-in-Equal c =
    found_is c.args.rows.now c.args.key.now c.args.place c.index-rows-place.result c.requires (omega arith) c.index-rows-place.is
    (ap (slice_cmp nat_cmp c.args.key.now) (sym c.key.ensures) ∙ sym c.compare.ensures ∙ c.in-Equal.is)
