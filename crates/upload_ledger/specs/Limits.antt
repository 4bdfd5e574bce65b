-- The most that a ledger keeps. This project's profile.
use Rattle.std.specs.Prelude.{◌≤◌, length}
use Rattle.register_words.specs.Limits.{entry_limit, kept_limit}
use Rattle.upload_ledger.specs.History.{History, kept_bytes}

-- Entries that a ledger may have: neither the entries nor the bytes of their bodies are too many.
pub record AreFew (history : History) : Type 0 where
  pub entries : length history ≤ entry_limit
  pub kept : kept_bytes history ≤ kept_limit
