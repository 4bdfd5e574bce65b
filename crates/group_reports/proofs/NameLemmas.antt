-- Names of entities, by the places of their LEIs.
use Rattle.std.specs.Prelude.{◌≡◌, ℕ, zero, suc, ◌<◌, ◌≤◌, false, cond, List, [], ◌∷◌, None, Some, find, length, map, option_map, take, zip}
use Rattle.std.specs.declared.cmp.Ordering.{Ordering}
use Rattle.std.specs.declared.cmp.Ordering.TheVariants.{Equal, Greater, Less}
use Rattle.std.specs.Cmp.Lexicographic.{slice_cmp}
use Rattle.std.specs.List.{All, AllByRecursion}
use Rattle.std.specs.List.Sorted.{IsStrictlySortedBy}
use Rattle.std.specs.Ordering.{nat_cmp, ordering_then}
use Rattle.std.specs.Str.{bytes_eq}
use Rattle.std.proofs.Common.{refl, sym, ap, ◌∙◌, arith}
use Rattle.std.proofs.lemmas.Bool.{ne_eqb, or_parts}
use Rattle.std.proofs.lemmas.List.{length-map}
use Rattle.std.proofs.lemmas.List.Elements.{All-head, All-tail}
use Rattle.std.proofs.lemmas.Map.Keys.{sorted_tail}
use Rattle.lei_code.specs.Texts.{Lei, Text}
use Rattle.lei_records.specs.Rows.{text_at}
use Rattle.lei_records.specs.Tables.{key_cmp}
use Rattle.register_words.specs.declared.sheets.Sheet.{Sheet}
use Rattle.copy_csv.specs.Rows.{AreRows, IsRowOfSheet}
use Rattle.copy_csv.specs.Sheets.{SheetRow, key, key_len, width}
use Rattle.group_reports.specs.Links.{Name, key_and_name, name_at}
use Rattle.group_reports.specs.Named.{AreNamed}
use Rattle.group_reports.specs.Places.{AreSortedLeis, at}
use Rattle.group_reports.proofs.ListLemmas.{has, own_lei}
use Rattle.group_reports.proofs.PlaceLemmas.{eq_places}

-- ---- rows of `lei`

first_text : (texts : List Text) → 1 ≤ length texts → take 1 texts ≡ text_at texts 1 ∷ []
first_text [] some = absurd (omega (arith, some))
first_text (x ∷ xs) some = refl

key_is : (row : SheetRow) → IsRowOfSheet Sheet.Lei row → key row ≡ text_at row.texts 1 ∷ []
key_is row is =
    let full : length row.texts ≡ 32 = is.0.full ∙ ap width is.1 in
    ap (λ s. take (key_len s) row.texts) is.1 ∙ first_text row.texts (omega (arith, full))

less_first : (o : Ordering) → ordering_then o Equal ≡ Less → o ≡ Less
less_first Less is = refl
less_first Equal is = is
less_first Greater is = is

leis_in_order : (rows : List SheetRow) → All (IsRowOfSheet Sheet.Lei) rows → IsStrictlySortedBy key_cmp (map key rows)
    → AreSortedLeis (map (λ row. text_at row.texts 1) rows)
unfolding IsStrictlySortedBy
leis_in_order [] each rising = tt
leis_in_order (row ∷ rows) each rising = (
  after rows (All-tail (IsRowOfSheet Sheet.Lei) row rows each) rising.0,
  leis_in_order rows (All-tail (IsRowOfSheet Sheet.Lei) row rows each) rising.1,
)
  where
    after : (others : List SheetRow) → All (IsRowOfSheet Sheet.Lei) others → AllByRecursion (λ k. key_cmp (key row) k ≡ Less) (map key others)
        → AllByRecursion (λ lei. slice_cmp nat_cmp (text_at row.texts 1) lei ≡ Less) (map (λ other. text_at other.texts 1) others)
    after [] own all = tt
    after (other ∷ others) own all = (
      less_first (slice_cmp nat_cmp (text_at row.texts 1) (text_at other.texts 1))
          (sym (ap (λ k. key_cmp k (key other)) (key_is row (All-head (IsRowOfSheet Sheet.Lei) row rows each))
          ∙ ap (key_cmp (text_at row.texts 1 ∷ [])) (key_is other (All-head (IsRowOfSheet Sheet.Lei) other others own))) ∙ all.0),
      after others (All-tail (IsRowOfSheet Sheet.Lei) other others own) all.1,
    )

pub are_named : (rows : List SheetRow) → AreRows Sheet.Lei rows
    → AreNamed (map (λ row. text_at row.texts 1) rows) (map (λ row. text_at row.texts 2) rows)
are_named rows are = record {
  order = leis_in_order rows are.each are.rising;
  counted = length-map rows (λ row. text_at row.texts 2) ∙ sym (length-map rows (λ row. text_at row.texts 1));
}

pub names_are : (rows : List SheetRow) → zip (map (λ row. text_at row.texts 1) rows) (map (λ row. text_at row.texts 2) rows) ≡ map key_and_name rows
names_are [] = refl
names_are (row ∷ rows) = ap (λ l. key_and_name row ∷ l) (names_are rows)

-- ---- the name of an entity

pub name_found : (leis : List Lei) (texts : List Text) (place : ℕ) (lei : Lei) → AreSortedLeis leis → length texts ≡ length leis → place < length leis
    → at leis place ≡ lei → name_at (zip leis texts) lei ≡ Some (at texts place)
name_found [] texts place lei order counted within is = absurd (omega (arith, within))
name_found (x ∷ xs) [] place lei order counted within is = absurd (omega (arith, counted))
name_found (x ∷ xs) (t ∷ ts) zero lei order counted within is =
    ap (λ b. option_map (λ (n : Name). n.1) (cond b (Some (x, t)) (find (λ n. bytes_eq lei n.0) (zip xs ts))))
    (ap (λ y. bytes_eq y x) (sym is) ∙ own_lei x)
name_found (x ∷ xs) (t ∷ ts) (suc place) lei order counted within is =
    let apart : bytes_eq lei x ≡ false =
    ap (λ y. bytes_eq y x) (sym is)
    ∙ (eq_places (x ∷ xs) order (suc place) 0 within (omega arith) ∙ ne_eqb (suc place) 0 (λ e. omega (arith, e))) in
    ap (λ b. option_map (λ (n : Name). n.1) (cond b (Some (x, t)) (find (λ n. bytes_eq lei n.0) (zip xs ts)))) apart
    ∙ name_found xs ts place lei (sorted_tail (slice_cmp nat_cmp) x xs order) (omega (arith, counted)) (omega (arith, within)) is

pub name_missing : (leis : List Lei) (texts : List Text) (lei : Lei) → has leis lei ≡ false → name_at (zip leis texts) lei ≡ None
name_missing [] texts lei isnt = refl
name_missing (x ∷ xs) [] lei isnt = refl
name_missing (x ∷ xs) (t ∷ ts) lei isnt =
    let parts = or_parts (bytes_eq lei x) (has xs lei) isnt in
    ap (λ b. option_map (λ (n : Name). n.1) (cond b (Some (x, t)) (find (λ n. bytes_eq lei n.0) (zip xs ts)))) parts.0
    ∙ name_missing xs ts lei parts.1
