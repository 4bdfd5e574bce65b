-- Names of entities as they are kept: the LEIs in byte order, and the names alongside.
use Rattle.std.specs.Prelude.{◌≡◌, List, length}
use Rattle.lei_code.specs.Texts.{Lei, Text}
use Rattle.group_reports.specs.Places.{AreSortedLeis}

-- The LEIs are in byte order, and each has a name.
pub record AreNamed (leis : List Lei) (texts : List Text) : Type 0 where
  pub order : AreSortedLeis leis
  pub counted : length texts ≡ length leis
