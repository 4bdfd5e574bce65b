-- Inputs of lines. This project's profile.
use Rattle.std.specs.Prelude.{ℕ}

-- A run over lines ends if it has read 4,294,967,296 bytes (4 GiB).
abbrev pub run_limit : ℕ
run_limit = 4_294_967_296
