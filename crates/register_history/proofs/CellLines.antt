-- What the line of a cell shows of it.
use Rattle.std.proofs.Common.{◌≡◌, ℕ, List, ◌∷◌, ◌++◌, decimal, sym, refl, ◌∙◌, arith}
use Rattle.std.proofs.lemmas.Fmt.{decimal_injective}
use Rattle.lei_values.specs.declared.cell.KeptCell.{KeptCell}
use Rattle.register_history.specs.Damage.{LineTellsCell, cell_line, row_word}
use Rattle.register_history.proofs.EntryLines.{all-digits, past, until_space}

-- the number of the entry and the word of the row
abbrev ended : KeptCell → List ℕ
ended cell = decimal cell.touched ++ 32 ∷ row_word cell.row

-- after a kind and a name
abbrev led : ℕ → List ℕ → List ℕ → List ℕ
led kind name text = decimal kind ++ 32 ∷ (name ++ 32 ∷ text)

line-is : (cell : KeptCell) → cell_line cell ≡ led cell.kind cell.name (ended cell)
unfolding cell_line
line-is cell = refl

pub tells-cell : (one other : KeptCell) → LineTellsCell one other
tells-cell one other kind name touched other_touched is =
    let lines : led one.kind one.name (ended one) ≡ led one.kind one.name (ended other) =
    sym (line-is one) ∙ is ∙ line-is other ∙ (λ i. led (sym kind i) (sym name i) (ended other)) in
    let ends = past one.name (ended one) (ended other) (past (decimal one.kind) (one.name ++ 32 ∷ ended one) (one.name ++ 32 ∷ ended other) lines) in
    let both = until_space (decimal one.touched) (decimal other.touched) (row_word one.row) (row_word other.row) (all-digits one.touched) (all-digits other.touched) ends in
    let low = touched.1 in
    let other_low = other_touched.1 in
    (decimal_injective one.touched other.touched (omega (arith, low)) (omega (arith, other_low)) both.0, both.1)
