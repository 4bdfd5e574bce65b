-- The line of a row that stays, in the width of the copy after the delta.
use Rattle.std.proofs.Common.{◌≡◌, ℕ, ◌+◌, ◌-◌, Bool, true, false, not, List, [], ◌∷◌, ◌++◌, length, take, refl, sym, ap, ◌∙◌, arith}
use Rattle.std.specs.Prelude.{codes, flat_map, replicate}
use Rattle.std.proofs.Math.Bool.{beq}
use Rattle.std.proofs.lemmas.Bool.{false≢true}
use Rattle.std.proofs.lemmas.List.{length_push, take_at}
use Rattle.register_words.specs.declared.sheets.Sheet.{Sheet}
use Rattle.copy_csv.specs.Csv.{after_comma, row_line, row_start}
use Rattle.copy_csv.specs.Rows.{IsRowIn}
use Rattle.copy_csv.specs.Sheets.{SheetRow, column_count, has_widths, width}
use Rattle.copy_csv.proofs.LineLemmas.{row-joined, tail-empty}
use Rattle.delta_apply.specs.Walks.{kept_line}

abbrev lacked : List ℕ
lacked = codes ",\"\",\"\",\"\",\"\"\n"

-- the columns that a narrow file of `lei` lacks, if they are empty
lacked-is : flat_map after_comma (replicate (width Sheet.Lei - column_count false Sheet.Lei) []) ++ 10 ∷ [] ≡ lacked
lacked-is = refl

-- if a narrow file loses nothing of a row, the row's line in a wide file is that line with these columns before its LF
widened : (row : SheetRow) → IsRowIn Sheet.Lei false row → kept_line true (row_line false row) ≡ row_line true row
widened row is =
    let start : List ℕ = row_start row in
    let narrow : row_start row ++ 10 ∷ [] ≡ row_line false row = row-joined false row is.0.0 in
    let long : length (row_start row ++ 10 ∷ []) ≡ length (row_start row) + 1 = length_push (row_start row) 10 in
    let end : length (row_start row) ≡ length (row_start row ++ 10 ∷ []) - 1 = omega arith in
    ap (λ l. take (length l - 1) l ++ lacked) (sym narrow)
    ∙ ap (λ l. l ++ lacked) (take_at (row_start row) (10 ∷ []) (length (row_start row ++ 10 ∷ []) - 1) end)
    ∙ ap (λ l. row_start row ++ l) (sym lacked-is)
    ∙ ap (λ l. row_start row ++ (l ++ 10 ∷ [])) (sym (tail-empty Sheet.Lei row is))
    ∙ row-joined true row is.0.0

-- the line that is put for a row that stays is its line in the delta's width
pub kept-is : (sheet : Sheet) (base_wide wide : Bool) (row : SheetRow) → IsRowIn sheet base_wide row → (base_wide ≡ true → wide ≡ true)
    → (wide ≡ true → has_widths sheet ≡ true) → kept_line (not (beq base_wide wide)) (row_line base_wide row) ≡ row_line wide row
kept-is sheet true true row is newer widths = refl
kept-is sheet false false row is newer widths = refl
kept-is sheet true false row is newer widths = absurd (false≢true (newer refl))
kept-is Sheet.Lei false true row is newer widths = widened row is
kept-is Sheet.Rr false true row is newer widths = absurd (false≢true (widths refl))
kept-is Sheet.Repex false true row is newer widths = absurd (false≢true (widths refl))
