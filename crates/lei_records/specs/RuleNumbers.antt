-- The numbers of the rules.
use Rattle.std.specs.Prelude.{ℕ, ◌==◌, if◌then◌else◌}
use Rattle.lei_records.specs.declared.rules.Rules.{Rules}

-- The rules that an entry names by this number: the first rules by 1, the second by 2 and the third by 3. No entry that
-- can be made has another number.
abbrev pub rules_of : ℕ → Rules
rules_of number = if number == 1 then Rules.First else if number == 2 then Rules.Second else Rules.Third

-- The newest rules, by which new entries are made.
abbrev pub newest : Rules
newest = Rules.Third
