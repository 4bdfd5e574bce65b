-- The table without cells.
use Rattle.std.specs.Prelude.{◌≡◌, ℕ, ◌<◌, ◌≤◌, Bool, true, false, cond, List, [], ◌∷◌, Option, Some}
use Rattle.std.specs.FinMap.{empty, get, get-empty, get-insert, len-empty}
use Rattle.std.specs.Ordering.{eq_by_cmp}
use Rattle.std.proofs.Common.{sym, ap, subst, arith, rules, ◌∙◌}
use Rattle.lei_shapes.specs.declared.lists.RelationType.{RelationType}
use Rattle.lei_records.specs.declared.item.Item.{Item}
use Rattle.lei_records.specs.declared.view.RowKey.{RowKey}
use Rattle.lei_records.specs.Rows.{Row}
use Rattle.lei_records.specs.Tables.{KeyTexts, key_cmp, record_key, record_count, IsSoundTable}
use Rattle.authority_rules.proofs.HolderLemmas.{keys_total, some_apart}
use Rattle.register_table.specs.declared.parts.Parts.{Parts}
use Rattle.register_table.specs.Held.{CanBeKept, Cell, Held, cell_key, no_rows, rows}
use Rattle.register_table.specs.Indexes.{end_in_index, holder_in}
use Rattle.register_table.specs.Parts.{AreIndexes, ArePartsOfTable}
use Rattle.register_table.specs.Undos.{IsLater, WriteList, cell_with, touch, touch_all}
use Rattle.register_table.proofs.RowsLemmas.{rows-empty}

nothing : {P : Type 0} (key : KeyTexts) (row : Row) → get (empty {R = key_cmp}) key ≡ Some row → P
nothing key row at = absurd (some_apart row (sym at ∙ get-empty key_cmp key))

none_sound : IsSoundTable no_rows
none_sound = record {
  keyed = λ key row at. nothing key row at;
  holders = λ authority id a b first second at_a at_b holds_a holds_b. nothing (record_key a) first at_a;
  rows = λ key row at. nothing key row at;
  relations_keyed = λ key row at. nothing key row at;
  relation_rows = λ key row at. nothing key row at;
  actives = λ start kind a b first second at_a at_b active_a active_b. nothing a first at_a;
  exceptions_keyed = λ key row at. nothing key row at;
  exception_rows = λ key row at. nothing key row at;
}

none_counted : record_count no_rows ≤ 4294967295
none_counted = subst (λ n. n ≤ 4294967295) (sym (len-empty key_cmp Row)) (search rules)

none_kept : CanBeKept no_rows
none_kept = record { sound = none_sound; count = none_counted }

none_indexed : (holders : List ℕ → List ℕ → Option (List ℕ)) (ends : List ℕ → RelationType → Option (List ℕ)) → AreIndexes no_rows holders ends
none_indexed holders ends = record {
  by_key = λ a i key row at holds. nothing key row at;
  by_start = λ s kind key row at active. nothing key row at;
}

pub no_parts : (parts : Parts) → parts.cells ≡ empty → ArePartsOfTable parts
no_parts parts none =
    let is : rows parts.cells ≡ no_rows = ap rows none ∙ rows-empty in
    record { kept = subst CanBeKept (sym is) none_kept; indexes = subst (λ t. AreIndexes t (holder_in parts.holders) (end_in_index parts.ends)) (sym is) (none_indexed (holder_in parts.holders) (end_in_index parts.ends)) }

pub no_rows_of : (parts : Parts) → parts.cells ≡ empty → rows parts.cells ≡ no_rows
no_rows_of parts none = ap rows none ∙ rows-empty

-- ---- numbers of cells

pub later_none : (held : Held) (n : ℕ) → held ≡ empty → IsLater n held
later_none held n none key cell at = absurd (some_apart cell (sym at ∙ (ap (λ h. get h key) none ∙ get-empty key_cmp key)))

at_put : (b : Bool) (new : Cell) (old : Option Cell) (cell : Cell) (P : Type 0) → cond b (Some new) old ≡ Some cell → (new ≡ cell → P) → (old ≡ Some cell → P) → P
at_put true new old cell P at here there = here (cc)
at_put false new old cell P at here there = there at

later_touch : (entry n : ℕ) (held : Held) (write : RowKey × Option Item) → IsLater n held → entry < n → IsLater n (touch entry held write)
later_touch entry n held write later less key cell at =
    at_put (eq_by_cmp key_cmp key (cell_key write.0)) (cell_with entry write.1) (get held key) cell (cell.entry < n)
    (sym (get-insert keys_total held (cell_key write.0) (cell_with entry write.1) key) ∙ at)
    (λ same. subst (λ c. c.entry < n) same less) (λ there. later key cell there)

pub later_all : (entry n : ℕ) (writes : WriteList) (held : Held) → IsLater n held → entry < n → IsLater n (touch_all entry writes held)
later_all entry n [] held later less = later
later_all entry n (write ∷ writes) held later less = later_all entry n writes (touch entry held write) (later_touch entry n held write later less) less

pub later_more : (n m : ℕ) (held : Held) → n ≤ m → IsLater n held → IsLater m held
later_more n m held less later key cell at = let own = later key cell at in omega (arith, less, own)
