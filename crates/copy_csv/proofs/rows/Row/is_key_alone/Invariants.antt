use Rattle.std.proofs.Common.{◌≡◌, drop}
use Rattle.std.specs.Prelude.{codes}
use Rattle.std.specs.List.{list_all}
use Rattle.std.specs.Str.{bytes_eq}
use Rattle.copy_csv.specs.Sheets.{is_key_alone}
use Rattle.copy_csv.proofs.rows.Row.is_key_alone.Given as goal

-- all texts from the index on are empty if and only if all after the key are
abbrev pub invariant-loop-index : goal.invariant-loop-index
invariant-loop-index l = list_all (λ text. bytes_eq text (codes "")) (drop l.index l.self.texts) ≡ is_key_alone l.self
