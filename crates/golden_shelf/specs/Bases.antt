-- Bases: the publication that a delta starts from. This is a profile of this project.
use Rattle.std.specs.Prelude.{ℕ, ◌+◌, ℤ, pos, ◌-ℤ◌, int_le, List, [], ◌∷◌, length, map, Bool, true, false, ◌&&◌, nat_le, if◌then◌else◌, Option, Some, None, Result, Ok, Err}
use Rattle.copy_forms.specs.Trails.{Trail}
use Rattle.register_words.specs.declared.base.Base.{Base}
use Rattle.golden_shelf.specs.declared.fault.ShelfFault.{ShelfFault}
use Rattle.golden_shelf.specs.declared.issue.Issue.{Issue}

-- The moments of the publications of a trail.
abbrev pub trail_moments : Trail → List ℤ
trail_moments trail = map (λ publication. publication.moment) trail

-- The moments that are kept for publications.
abbrev pub moments_in : List Issue → List ℤ
moments_in issues = map (λ issue. issue.moment) issues

-- The last of several moments, given as the first and the later ones.
abbrev pub latest_moment : ℤ → List ℤ → ℤ
latest_moment first [] = first
latest_moment first (next ∷ later) = latest_moment next later

-- A number that was counted after the first moment, now counted with the first. If there is none, it is 1 if the first
-- will do.
abbrev pub count_after_first : Option ℕ → Bool → Option ℕ
count_after_first (Some number) first = Some (number + 1)
count_after_first None true = Some 1
count_after_first None false = None

-- The number of the last of these moments that is at most the bound, if there is one. Numbers are counted from 1.
abbrev pub last_until : ℤ → List ℤ → Option ℕ
last_until bound [] = None
last_until bound (moment ∷ later) = count_after_first (last_until bound later) (int_le moment bound)

-- A number from 1 to that of the latest publication names the publication with this number. Another number names none.
abbrev pub publication_numbered : ℕ → ℕ → Result ℕ ShelfFault
publication_numbered latest number = if nat_le 1 number && nat_le number latest then Ok number else Err
    ShelfFault.PublicationUnknown

-- The number of the publication that is old enough, if there is one.
abbrev pub by_age : Option ℕ → Result ℕ ShelfFault
by_age (Some number) = Ok number
by_age None = Err ShelfFault.NoBase

-- The number of the publication that a base names among publications with these moments; `latest` is the moment of the
-- latest one. A day, a week and a month are 1, 7 and 31 times 86,400 seconds.
abbrev pub number_for_base : List ℤ → ℤ → Base → Result ℕ ShelfFault
number_for_base moments latest (Base.Number number) = publication_numbered (length moments) number
number_for_base moments latest Base.LastDay = by_age (last_until (latest -ℤ pos 86_400) moments)
number_for_base moments latest Base.LastWeek = by_age (last_until (latest -ℤ pos 604_800) moments)
number_for_base moments latest Base.LastMonth = by_age (last_until (latest -ℤ pos 2_678_400) moments)

-- The number of the publication that a base names among publications with these moments, or why it names none.
abbrev pub base_in : List ℤ → Base → Result ℕ ShelfFault
base_in [] base = Err ShelfFault.NothingPublished
base_in (first ∷ later) base = number_for_base (first ∷ later) (latest_moment first later) base
