-- The greatest length of a line. This project's profile.
use Rattle.std.specs.Prelude.{ℕ, ◌+◌}
use Rattle.register_words.specs.Limits.{body_limit}

-- A line has at most 4,194,340 bytes without its end: an UPLOAD line with the longest number has 36 bytes in addition
-- to its body.
abbrev pub line_limit : ℕ
line_limit = body_limit + 36
