-- Rows under their keys: searches among them, and what an insertion and a removal leave.
use Rattle.std.specs.Prelude.{◌≡◌, Bool, true, false, cond, find, Option, Some, None}
use Rattle.std.specs.FinMap.{get, get-insert, get-remove, insert, remove, values}
use Rattle.std.specs.Ordering.{eq_by_cmp}
use Rattle.std.proofs.Common.{refl, sym, ap, ◌∙◌}
use Rattle.lei_records.specs.Rows.{Row}
use Rattle.lei_records.specs.Tables.{KeyTexts, Rows, key_cmp}
use Rattle.authority_rules.proofs.MapLemmas.{find-values, values-find}
use Rattle.authority_rules.proofs.HolderLemmas.{keys_total, same_key, some_apart}

-- ---- searches among rows

none_by : (rows : Rows) (test : Row → Bool) → ((key : KeyTexts) (row : Row) → get rows key ≡ Some row → test row ≡ true → ⊥)
    → (found : Option Row) → find test (values rows) ≡ found → find test (values rows) ≡ None
none_by rows test never None is = is
none_by rows test never (Some row) is =
    let hit = find-values keys_total rows test row is in absurd (never hit.0 row hit.1 hit.2)

-- if no row passes the test, none is found
pub none_found : (rows : Rows) (test : Row → Bool) → ((key : KeyTexts) (row : Row) → get rows key ≡ Some row → test row ≡ true → ⊥)
    → find test (values rows) ≡ None
none_found rows test never = none_by rows test never (find test (values rows)) refl

-- if one does, and none under another key, it is found
pub only_found : (rows : Rows) (test : Row → Bool) (key : KeyTexts) (row : Row) → get rows key ≡ Some row → test row ≡ true
    → ((k : KeyTexts) (r : Row) → get rows k ≡ Some r → test r ≡ true → k ≡ key) → find test (values rows) ≡ Some row
only_found rows test key row at passes only =
    let some = values-find keys_total rows test key row at passes in
    let hit = find-values keys_total rows test some.0 some.1 in
    some.1 ∙ (sym hit.1 ∙ (ap (get rows) (only hit.0 some.0 hit.1 hit.2) ∙ at))

-- if none is found, no row passes the test
pub found_none : (rows : Rows) (test : Row → Bool) (key : KeyTexts) (row : Row) → find test (values rows) ≡ None → get rows key ≡ Some row → test row ≡ true → ⊥
found_none rows test key row is at passes =
    let some = values-find keys_total rows test key row at passes in some_apart some.0 (sym some.1 ∙ is)

-- ---- changes

-- a row after an insertion is the one that was put, or was there under another key
pub inserted : (rows : Rows) (own : KeyTexts) (row : Row) (key : KeyTexts) (other : Row) (P : Type 0) → get (insert rows own row) key ≡ Some other
    → (key ≡ own → row ≡ other → P) → (eq_by_cmp key_cmp key own ≡ false → get rows key ≡ Some other → P) → P
inserted rows own row key other P at here there =
    let known : cond (eq_by_cmp key_cmp key own) (Some row) (get rows key) ≡ Some other = sym (get-insert keys_total rows own row key) ∙ at in
    elim (eq_by_cmp key_cmp key own) as (λ b. eq_by_cmp key_cmp key own ≡ b → cond b (Some row) (get rows key) ≡ Some other → P) [
      | true ↦ λ t is. here (same_key key own t) (cc)
      | false ↦ λ t is. there t is
    ] refl known

unless_gone : (b : Bool) (held : Option Row) (other : Row) → cond b None held ≡ Some other → held ≡ Some other
unless_gone true held other is = cc
unless_gone false held other is = is

-- and a row after a removal was there before
pub removed : (rows : Rows) (own : KeyTexts) (key : KeyTexts) (other : Row) → get (remove rows own) key ≡ Some other → get rows key ≡ Some other
removed rows own key other at =
    unless_gone (eq_by_cmp key_cmp key own) (get rows key) other (sym (get-remove keys_total rows own key) ∙ at)
