-- Rows by their columns.
use Rattle.std.proofs.Common.{◌≡◌, ◌++◌, ℕ, List, [], ◌∷◌, length, sym, ap, subst₂, ◌∙◌, arith}
use Rattle.sqlite_value.specs.declared.value.Value.{Value}
use Rattle.sqlite_value.specs.declared.value.Value.TheVariants.{Text}
use Rattle.sqlite_value.specs.Order.{Row, bytes, column}
use Rattle.store_statements.specs.Names.{AreNameParts, lei_of, rest_of}
use Rattle.store_tables.proofs.NameLemmas.{parts_again, parts_of}

-- A row of eight columns is the list of their values.
pub eight_columns : (row : Row) (a b c d e f g h : Value) → length row ≡ 8
    → column row 0 ≡ a → column row 1 ≡ b → column row 2 ≡ c → column row 3 ≡ d
    → column row 4 ≡ e → column row 5 ≡ f → column row 6 ≡ g → column row 7 ≡ h
    → row ≡ a ∷ b ∷ c ∷ d ∷ e ∷ f ∷ g ∷ h ∷ []
eight_columns (s ∷ t ∷ u ∷ v ∷ w ∷ x ∷ y ∷ z ∷ []) a b c d e f g h len p q r i j k l m = cc
eight_columns _ a b c d e f g h len p q r i j k l m = absurd (omega arith)

-- A row of five columns is the list of their values.
pub five_columns : (row : Row) (a b c d e : Value) → length row ≡ 5
    → column row 0 ≡ a → column row 1 ≡ b → column row 2 ≡ c → column row 3 ≡ d → column row 4 ≡ e
    → row ≡ a ∷ b ∷ c ∷ d ∷ e ∷ []
five_columns (v ∷ w ∷ x ∷ y ∷ z ∷ []) a b c d e len p q r s t = cc
five_columns _ a b c d e len p q r s t = absurd (omega arith)

-- ---- names in two parts

text_same : (a b : List ℕ) → ◌≡◌ {A = Value} (Text a) (Text b) → a ≡ b
text_same a b e = ap bytes e

-- texts that aren't the parts of a name belong to no name
pub no_parts : (v w : Value) (lei rest name : List ℕ) → v ≡ Text lei → w ≡ Text rest
    → (AreNameParts lei rest → ⊥) → v ≡ Text (lei_of name) → w ≡ Text (rest_of name) → ⊥
no_parts v w lei rest name p q never r s =
    let first = text_same lei (lei_of name) (sym p ∙ r) in
    let other = text_same rest (rest_of name) (sym q ∙ s) in
    never (subst₂ AreNameParts (sym first) (sym other) (parts_of name))

pub lei_again : (v : Value) (lei rest name : List ℕ) → v ≡ Text lei → AreNameParts lei rest → name ≡ lei ++ rest
    → v ≡ Text (lei_of name)
lei_again v lei rest name p are is = p ∙ ap Text (sym (parts_again lei rest are).0 ∙ ap lei_of (sym is))

pub rest_again : (v : Value) (lei rest name : List ℕ) → v ≡ Text rest → AreNameParts lei rest → name ≡ lei ++ rest
    → v ≡ Text (rest_of name)
rest_again v lei rest name p are is = p ∙ ap Text (sym (parts_again lei rest are).1 ∙ ap rest_of (sym is))
