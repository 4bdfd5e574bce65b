-- What is kept of links for reports.
use Rattle.std.specs.Prelude.{◌≡◌, ℕ, List, Option, length, map}
use Rattle.lei_code.specs.Texts.{Lei}
use Rattle.group_reports.specs.Groups.{top}
use Rattle.group_reports.specs.Groups as groups
use Rattle.group_reports.specs.Links.{Link, direct, reported}
use Rattle.group_reports.specs.Places.{AreBelow, FindsEach, at, leis_of}

-- The links, and the LEIs in them.
pub record LinkTable : Type 0 where
  pub links : List Link
  pub leis : List Lei

-- These are the number of the links, the LEIs in them, and the places that they start at. They also give for each place
-- the places of its parents: the direct one, the reported ultimate one, and the computed ultimate one.
pub record LinksAreIndexed (links : List Link) (count : ℕ) (leis : List Lei) (starts : List ℕ) (parents ultimates tops : List (Option ℕ)) : Type 0 where
  pub counted : count ≡ length links
  pub leis_are : leis ≡ leis_of links
  pub starts_are : map (at leis) starts ≡ groups.starts links
  pub starts_below : AreBelow (length leis) starts
  pub parents_are : FindsEach leis parents (direct links)
  pub ultimates_are : FindsEach leis ultimates (reported links)
  pub tops_are : FindsEach leis tops (top links)
