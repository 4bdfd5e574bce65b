-- The names of a sheet's fields.
use Rattle.std.proofs.Common.{◌≡◌, ℕ, ◌-◌, ◌<◌, ◌≤◌, ◌==◌, false, cond, List, inl, inr, refl, sym, ap, ◌∙◌, subst, arith, length, get_or, take, map, codes}
use Rattle.std.specs.Borrow.{Bor}
use Rattle.std.proofs.Math.ListN.{get_or-map}
use Rattle.std.proofs.lemmas.Bool.Decides.{eqb_tells}
use Rattle.std.proofs.lemmas.List.{get_or-take, length-map}
use Rattle.lei_code.specs.Texts.{Text}
use Rattle.item_fields.specs.declared.fields.Content.{Content}
use Rattle.item_fields.specs.declared.fields.Need.{Need}
use Rattle.item_fields.specs.Fields.{Field, exception_fields, fields, fields_of, names_of, relation_fields, row_len}
use Rattle.lei_records.specs.Rows.{text_at}
use Rattle.register_words.specs.declared.sheets.Sheet.{Sheet}
use Rattle.copy_csv.specs.Sheets.{column_names, kind_of, width}

pub text-at : (texts : List Text) (place : ℕ) → 1 ≤ place → text_at texts place ≡ get_or texts (place - 1) (codes "")
text-at texts place first =
    let not_first : (place == 0) ≡ false = elim (eqb_tells place 0) [ inl is ↦ absurd (omega (arith, is.1)) | inr is ↦ is.0 ] in
    ap (λ b. cond b (codes "") (get_or texts (place - 1) (codes ""))) not_first

length-fields : (sheet : Sheet) → width sheet ≤ length (names_of (kind_of sheet))
unfolding fields relation_fields exception_fields
length-fields Sheet.Lei = omega arith
length-fields Sheet.Rr = omega arith
length-fields Sheet.Repex = omega arith

row_len-width : (sheet : Sheet) → row_len (kind_of sheet) ≡ width sheet
row_len-width Sheet.Lei = refl
row_len-width Sheet.Rr = refl
row_len-width Sheet.Repex = refl

-- an entry of the borrowed table of a sheet's fields
abbrev pub Lent : Type 0
Lent = Bor Text × Content × Need

pub name-bound : (sheet : Sheet) (table : List Lent) (place : ℕ) → map (λ field. field.0.now) table ≡ names_of (kind_of sheet) → 1 ≤ place → place ≤ width sheet → place - 1 < length table
name-bound sheet table place is first last =
    let long : length table ≡ length (names_of (kind_of sheet)) = sym (length-map table (λ field. field.0.now)) ∙ ap length is in
    let enough = length-fields sheet in
    omega arith

pub name-at : (sheet : Sheet) (table : List Lent) (place : ℕ) (none : Lent) → none.0.now ≡ codes "" → map (λ field. field.0.now) table ≡ names_of (kind_of sheet) → 1 ≤ place → place ≤ width sheet
    → (get_or table (place - 1) none).0.now ≡ text_at (column_names sheet) place
name-at sheet table place none empty is first last =
    let kind = kind_of sheet in
    let nothing : Field = (codes "", Content.Action, Need.Optional) in
    let below : place - 1 < row_len kind = subst (λ n. place - 1 < n) (sym (row_len-width sheet)) (omega arith) in
    sym (get_or-map (λ (field : Lent). field.0.now) table (place - 1) none)
    ∙ ap (λ l. get_or l (place - 1) none.0.now) is ∙ ap (get_or (names_of kind) (place - 1)) empty
    ∙ get_or-map (λ (field : Field). field.0) (fields_of kind) (place - 1) nothing
    ∙ ap (λ (field : Field). field.0) (sym (get_or-take (row_len kind) (fields_of kind) (place - 1) nothing below))
    ∙ sym (get_or-map (λ (field : Field). field.0) (take (row_len kind) (fields_of kind)) (place - 1) nothing)
    ∙ sym (text-at (column_names sheet) place first)
