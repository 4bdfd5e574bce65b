-- Made-up LEIs, and the issuers that manage them: this project's profile.
use Rattle.std.specs.Prelude.{ℕ, ◌-◌, ◌%◌, ◌==◌, ◌++◌, codes, decimal, length, replicate, if◌then◌else◌}
use Rattle.lei_code.specs.Digits.{digits}
use Rattle.lei_code.specs.Texts.{Lei, Text}

-- a number in 18 decimal digits, with leading zeros
abbrev pub in_18_digits : ℕ → Text
in_18_digits i = replicate (18 - length (decimal i)) 48 ++ decimal i

-- the LEI of a number: its 18 digits and their check digits
abbrev pub demo_code : ℕ → Lei
demo_code i = in_18_digits i ++ digits (in_18_digits i)

-- the issuer of the blocks 1, 3, 5 and so on
abbrev pub first_issuer : Lei
first_issuer = codes "506700GE1G29325QX363"

-- the issuer of the blocks 2, 4, 6 and so on
abbrev pub second_issuer : Lei
second_issuer = codes "HWUPKR0MPOU8FGXBT394"

-- the issuer that manages the records of a block
abbrev pub manager : ℕ → Lei
manager block = if block % 2 == 1 then first_issuer else second_issuer
