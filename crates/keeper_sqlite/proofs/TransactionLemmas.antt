-- The parts of a transaction, joined.
use Rattle.std.proofs.Common.{◌≡◌, ◌≤◌, ◌<◌, ◌+◌, ◌++◌, ◌∷◌, [], ℕ, suc, List, length, take, get_or, sym, ap, subst, ◌∙◌, arith}
use Rattle.std.proofs.Math.Seq.{take-length, take-suc}
use Rattle.std.specs.List.{AllByRecursion}
use Rattle.sqlite_trees.proofs.ListLemmas.{all-get_or}
use Rattle.sqlite.specs.State.{State, Survives}
use Rattle.sqlite.proofs.StateLemmas.{survives_then}
use Rattle.lei_values.specs.KeptTables.{IsBatch, IsCellOf, KeptTables, with_batch}
use Rattle.lei_values.specs.declared.batch.Batch.{Batch}
use Rattle.lei_values.specs.declared.cell.KeptCell.{KeptCell}
use Rattle.store_tables.specs.Calls.{ChangesTables, HasNextNumber, IsInside, tables_with_cell, tables_with_entry, with_cells}
use Rattle.store_tables.proofs.CallLemmas.{cells_more, turns_then}

-- two parts that commit nothing
pub survives_both : (a b c : State) → Survives a b (λ _. ⊥) → Survives b c (λ _. ⊥) → Survives a c (λ _. ⊥)
survives_both a b c one two = survives_then a b c (λ _. ⊥) (λ _. ⊥) (λ _. ⊥) (λ _ db none. none)
    (λ _ db none. none) one two

pub inside_then : (a b c : State) → IsInside a b → IsInside b c → IsInside a c
inside_then a b c one two = record {
  was_open = one.was_open;
  is_open = two.is_open;
  committed = two.committed
      ∙ one.committed;
  mode = two.mode;
}

-- ---- cells

abbrev pub AreNumbered : List KeptCell → KeptTables → Type 0
AreNumbered cells t = AllByRecursion (λ cell. 1 ≤ cell.touched) cells

pub one_put : (cells : List KeptCell) (i : ℕ) (c : KeptCell) (a b d : State) → i < length cells
    → c ≡ get_or cells i c → ChangesTables (with_cells (take i cells)) (AreNumbered cells) a b
    → ChangesTables (tables_with_cell c) (λ _. 1 ≤ c.touched) b d
    → ChangesTables (with_cells (take (i + 1) cells)) (AreNumbered cells) a d
one_put cells i c a b d low is so_far one =
    let next : i + 1 ≡ suc i = omega arith in
    let more : take (i + 1) cells ≡ take i cells ++ c ∷ [] = ap (λ n. take n cells) next
    ∙ (take-suc cells i c low ∙ ap (λ x. take i cells ++ x ∷ []) (sym is)) in
    subst (λ list. ChangesTables (with_cells list) (AreNumbered cells) a d) (sym more)
    (cells_more (take i cells) c (AreNumbered cells) a b d
    (λ t all. subst (λ x. 1 ≤ x.touched) (sym is)
    (all-get_or (λ cell. 1 ≤ cell.touched) cells i c all low)) so_far one)

pub all_put : (cells : List KeptCell) (i : ℕ) (a b : State) → i ≡ length cells
    → ChangesTables (with_cells (take i cells)) (AreNumbered cells) a b
    → ChangesTables (with_cells cells) (AreNumbered cells) a b
all_put cells i a b end so_far = subst (λ list. ChangesTables (with_cells list) (AreNumbered cells) a b)
    (ap (λ n. take n cells) end ∙ take-length cells) so_far

-- ---- a batch

numbered : (number : ℕ) (cells : List KeptCell) → 1 ≤ number → AllByRecursion (IsCellOf number) cells
    → AllByRecursion (λ cell. 1 ≤ cell.touched) cells
numbered number [] low all = tt
numbered number (cell ∷ cells) low all =
    (let same = all.0.0 in omega (arith, same, low), numbered number cells low all.1)

pub at_most : (number : ℕ) (cells : List KeptCell) → number ≤ 9223372036854775807
    → AllByRecursion (IsCellOf number) cells
    → AllByRecursion (λ cell. cell.touched ≤ 9223372036854775807) cells
at_most number [] low all = tt
at_most number (cell ∷ cells) low all =
    (let same = all.0.0 in omega (arith, same, low), at_most number cells low all.1)

pub batch_put : (batch : Batch) (a b c : State) → IsBatch batch
    → ChangesTables (tables_with_entry batch.entry) (HasNextNumber batch.entry) a b
    → ChangesTables (with_cells batch.cells) (AreNumbered batch.cells) b c
    → ChangesTables (with_batch batch) (HasNextNumber batch.entry) a c
batch_put batch a b c is one two =
    turns_then (tables_with_entry batch.entry) (with_cells batch.cells) (HasNextNumber batch.entry)
    (AreNumbered batch.cells) (HasNextNumber batch.entry) a b c
    (λ t next. (next, numbered batch.entry.seq batch.cells (omega (arith, next)) is.cells)) one two
