-- What words mean.
use Rattle.std.proofs.Common.{◌≡◌, ℕ, List, Option, None, Some, sym, ap, ◌∙◌}
use Rattle.lei_code.specs.Texts.{Text}
use Rattle.program_words.specs.Words.{Meant}
use Rattle.leireg_serve.specs.Words.{served_by}

-- words mean exactly one number of workers
pub same_workers : (words : List Text) (found what : Meant) → served_by words ≡ Some found → served_by words ≡ Some what
    → found.workers ≡ what.workers
same_workers words found what is means = ap workers_in (sym is ∙ means)
  where
    workers_in : Option Meant → ℕ
    workers_in (Some meant) = meant.workers
    workers_in None = 0
