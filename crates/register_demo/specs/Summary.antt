-- The summary of a made-up register: lines of a name, a space and a number.
use Rattle.std.specs.Prelude.{ℕ, List, [], ◌∷◌, ◌++◌, codes, decimal, flat_map}
use Rattle.lei_code.specs.Texts.{Text}
use Rattle.register_demo.specs.Marks.{digits_after, times}

-- a line of a name and a number
abbrev pub summary_line : Text × Text → Text
summary_line (name, number) = name ++ (codes " " ++ (number ++ codes "\n"))

-- the lines of some names and numbers
abbrev pub lines_text : List (Text × Text) → Text
lines_text lines = flat_map summary_line lines

-- The entries of the register are counted. In the answers to uploads the accepted items are counted, and so are the
-- items that each of three checks rejected.
abbrev pub verdict_lines : ℕ → Text → List (Text × Text)
verdict_lines entries answers =
    (codes "entries", decimal entries)
    ∷ (codes "accepted", decimal (times (codes "\"ACCEPTED\"") answers))
    ∷ (codes "rejected C19", decimal (times (codes "\"C19 ") answers))
    ∷ (codes "rejected C32", decimal (times (codes "\"C32 ") answers))
    ∷ (codes "rejected C33", decimal (times (codes "\"C33 ") answers))
    ∷ []

-- How many uploads were repeated, how many publications were made, and how many records and relationships the answer to
-- a publication reports.
abbrev pub publication_lines : ℕ → ℕ → Text → List (Text × Text)
publication_lines repeats publications answer =
    (codes "repeats", decimal repeats)
    ∷ (codes "publications", decimal publications)
    ∷ (codes "lei", digits_after (codes "\"lei\":") answer)
    ∷ (codes "rr", digits_after (codes "\"rr\":") answer)
    ∷ []

-- How many rows the deltas have, and how many bytes the patched copy has.
abbrev pub delta_lines : ℕ → ℕ → ℕ → List (Text × Text)
delta_lines records relationships applied =
    (codes "delta lei", decimal records)
    ∷ (codes "delta rr", decimal relationships)
    ∷ (codes "applied rr csv", decimal applied)
    ∷ []
