-- What an office takes at most. This project's profile.
use Rattle.std.specs.Prelude.{ℕ, ◌≤◌}
use Rattle.register_words.specs.declared.limits.Limits.{Limits}

-- an upload's body has at most 4,194,304 bytes (4 MiB)
abbrev pub body_limit : ℕ
body_limit = 4_194_304

-- at most 10,000,000 entries are kept
abbrev pub entry_limit : ℕ
entry_limit = 10_000_000

-- bodies of at most 2,147,483,648 bytes in total (2 GiB) are kept
abbrev pub kept_limit : ℕ
kept_limit = 2_147_483_648

-- at most 500,000 records are held
abbrev pub record_limit : ℕ
record_limit = 500_000

-- the standard limits
abbrev pub standard : Limits
standard = record { body = body_limit; kept = kept_limit; entries = entry_limit; records = record_limit }

-- at least 1, and at most this number
abbrev pub IsFrom1To : ℕ → ℕ → Type 0
IsFrom1To most number = (1 ≤ number) × (number ≤ most)

-- each is at least 1 and at most its standard number
abbrev pub AreLimits : Limits → Type 0
AreLimits limits =
    IsFrom1To body_limit limits.body × IsFrom1To kept_limit limits.kept × IsFrom1To entry_limit limits.entries
    × IsFrom1To record_limit limits.records
