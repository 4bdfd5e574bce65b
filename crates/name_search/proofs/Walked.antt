-- A walk over the rows of a copy and the changes of a delta that puts only the names.
use Rattle.std.proofs.Common.{◌≡◌, ℕ, zero, suc, ◌+◌, ◌<◌, ◌≤◌, List, [], ◌∷◌, ◌++◌, length, drop, take, get_or, map, refl, sym, ap, subst, ◌∙◌, append_assoc, arith}
use Rattle.std.specs.FinMap.Entries.{by_order}
use Rattle.std.specs.List.{All}
use Rattle.std.specs.declared.cmp.Ordering.{Ordering}
use Rattle.std.proofs.lemmas.List.{drop-map, drop_all, drop_more, length-append, length-drop, length-map, length-take, map-append, take-map, take_all, take_more}
use Rattle.std.proofs.lemmas.List.Elements.{All-drop, All-head, All-tail}
use Rattle.lei_code.specs.Texts.{Text}
use Rattle.lei_records.specs.Rows.{text_at}
use Rattle.lei_records.specs.Tables.{key_cmp}
use Rattle.register_words.specs.declared.sheets.Sheet.{Sheet}
use Rattle.copy_csv.specs.declared.rows.Change.{Change}
use Rattle.copy_csv.specs.Rows.{AreChanges, AreRows, IsChangeOf, IsRowOfSheet, changed_key, changed_row}
use Rattle.copy_csv.specs.Sheets.{SheetRow, key}
use Rattle.copy_forms.specs.Patching.{patched}
use Rattle.copy_forms.specs.Merging.{put_by, row_among_changes, rows_with_changes}
use Rattle.copy_forms.proofs.Merged.{merged_is, rows_stay}
use Rattle.name_search.specs.Keys.{text_cmp}
use Rattle.name_search.specs.NameTables.{IsNameTable, Name, NameTable, key_and_name}
use Rattle.name_search.specs.Places.{PrecedesNames, FollowsNames, IsHere}
use Rattle.name_search.specs.Puts.{put_name, put_names}
use Rattle.name_search.proofs.KeyLemmas.{key_order}
use Rattle.name_search.proofs.PlaceLemmas.{above_drop, here_drop}

-- the next change, and what is put after it
pub next_put : (changes : List Change) (i : ℕ) (change : Change) → i < length changes → change ≡ get_or changes i change
    → put_names (drop i changes) ≡ put_name change ++ put_names (drop (i + 1) changes)
next_put changes i change within here =
    ap put_names (drop_more changes i change within ∙ ap (λ c. c ∷ drop (i + 1) changes) (sym here))

same_rest : (front left right : List Name) → front ++ left ≡ front ++ right → left ≡ right
same_rest [] left right same = same
same_rest (name ∷ front) left right same = same_rest front left right (cc)

-- the names that are left after a change was put
pub rest_put : (changes : List Change) (i : ℕ) (change : Change) (old new : List Name) → i < length changes → change ≡ get_or changes i change
    → old ≡ put_names (drop i changes) → old ≡ put_name change ++ new → new ≡ put_names (drop (i + 1) changes)
rest_put changes i change old new within here before after =
    same_rest (put_name change) new (put_names (drop (i + 1) changes)) (sym after ∙ before ∙ next_put changes i change within here)

-- ---- rows that are moved

-- one more row is moved
pub move_more : (out mid new rows left rest : List Name) (i : ℕ) (row : Name) → i < length rows → mid ≡ out ++ take i rows → left ≡ drop i rows
    → left ≡ row ∷ rest → new ≡ mid ++ row ∷ [] → (new ≡ out ++ take (i + 1) rows) × (rest ≡ drop (i + 1) rows)
move_more out mid new rows left rest i row within before left_is takes put =
    let both : get_or rows i row ∷ drop (i + 1) rows ≡ row ∷ rest = sym (drop_more rows i row within) ∙ sym left_is ∙ takes in
    let first : get_or rows i row ≡ row = cc in
    let others : drop (i + 1) rows ≡ rest = cc in (
      put ∙ ap (λ l. l ++ row ∷ []) before ∙ append_assoc out (take i rows) (row ∷ [])
          ∙ ap (λ l. out ++ l) (ap (λ y. take i rows ++ y ∷ []) (sym first) ∙ sym (take_more rows i row within)),
      sym others,
    )

-- what is left fits
pub room_after : (out mid new rows left rest puts front puts' : List Name) (n room : ℕ) → n ≤ length rows → mid ≡ out ++ take n rows → left ≡ drop n rows
    → length rest ≤ length left → new ≡ mid ++ front → puts ≡ front ++ puts' → length out + (length rows + length puts) ≤ room
    → length new + (length rest + length puts') ≤ room
room_after out mid new rows left rest puts front puts' n room within moved left_is few put puts_are fits =
    omega (
      arith,
      ap length moved,
      length-append out (take n rows),
      length-take n rows,
      ap length left_is,
      length-drop n rows,
      ap length put,
      length-append mid front,
      ap length puts_are,
      length-append front puts',
    )

-- ---- one change

module _ (change : Change) (cs : List Change) (q : Text)
    (orders : (row : SheetRow) → IsRowOfSheet Sheet.Lei row → key_cmp (changed_key change) (key row) ≡ text_cmp q (key_and_name row).0) where
  -- what a row makes of it and of those after it, by how their keys compare
  abbrev by_row : SheetRow → List SheetRow → Ordering → List SheetRow
  by_row row rest o = by_order o (put_by change ++ row_among_changes row (rows_with_changes rest) cs) (put_by change ++ rows_with_changes rest cs) (row ∷ rows_with_changes rest (change ∷ cs))

  -- the rows with lesser keys stay before it
  passes_lesser : (n : ℕ) (rest : List SheetRow) → All (IsRowOfSheet Sheet.Lei) rest → n ≤ length rest → FollowsNames (map key_and_name rest) q n
      → take n rest ++ rows_with_changes (drop n rest) (change ∷ cs) ≡ rows_with_changes rest (change ∷ cs)
  passes_lesser zero rest each within below = refl
  passes_lesser (suc n) [] each within below = absurd (omega arith)
  passes_lesser (suc n) (row ∷ rest) each within below =
      ap (λ l. row ∷ l) (passes_lesser n rest (All-tail (IsRowOfSheet Sheet.Lei) row rest each) (omega arith) (λ k d before. below (suc k) d (omega arith)))
      ∙ sym (ap (by_row row rest) (orders row (All-head (IsRowOfSheet Sheet.Lei) row rest each) ∙ below 0 (key_and_name row) (omega arith)))

  -- it takes the place of the row with its key
  passes_same : (rest : List SheetRow) → All (IsRowOfSheet Sheet.Lei) rest → 1 ≤ length rest → IsHere (map key_and_name rest) q 0
      → rows_with_changes rest (change ∷ cs) ≡ put_by change ++ rows_with_changes (drop 1 rest) cs
  passes_same [] each some here = absurd (omega arith)
  passes_same (row ∷ rest) each some here =
      ap (by_row row rest) (orders row (All-head (IsRowOfSheet Sheet.Lei) row rest each) ∙ here (key_and_name row))

  -- or it comes before those with greater keys
  passes_greater : (rest : List SheetRow) → All (IsRowOfSheet Sheet.Lei) rest → PrecedesNames (map key_and_name rest) q 0
      → rows_with_changes rest (change ∷ cs) ≡ put_by change ++ rows_with_changes rest cs
  passes_greater [] each above = refl
  passes_greater (row ∷ rest) each above =
      ap (by_row row rest) (orders row (All-head (IsRowOfSheet Sheet.Lei) row rest each) ∙ above 0 (key_and_name row) (omega arith) (omega arith))

-- how a change's key compares with those of rows
orders_so : (change : Change) (q : Text) → IsChangeOf Sheet.Lei change → q ≡ text_at (changed_row change).texts 1 → (row : SheetRow) → IsRowOfSheet Sheet.Lei row
    → key_cmp (changed_key change) (key row) ≡ text_cmp q (key_and_name row).0
orders_so change q is q_is row row_is =
    sym (key_order (changed_row change) row (key_and_name row) (text_cmp q (key_and_name row).0) is.0.0 is.0.1 row_is refl (ap (λ t. text_cmp t (key_and_name row).0) q_is))

put_names_by : (change : Change) → put_name change ≡ map key_and_name (put_by change)
put_names_by (Change.Put row) = refl
put_names_by (Change.Drop row) = refl

-- ---- all changes

-- what was put, followed by what the remaining rows and changes result in, is what all result in
pub record Walked (copy : List SheetRow) (changes : List Change) (left : List Name) (next : ℕ) (out : List Name) : Type 0 where
  pub rest : List SheetRow
  pub each : All (IsRowOfSheet Sheet.Lei) rest
  pub left_is : left ≡ map key_and_name rest
  pub walk : out ++ map key_and_name (rows_with_changes rest (drop next changes)) ≡ map key_and_name (rows_with_changes copy changes)

-- the same for each copy that has these names
abbrev pub WalkedSo : List Name → List Change → List Name → ℕ → List Name → Type 0
WalkedSo names changes left next out =
    (copy : List SheetRow) → AreRows Sheet.Lei copy → names ≡ map key_and_name copy → Walked copy changes left next out

pub walk_begins : (names : List Name) (changes : List Change) (left : List Name) (out : List Name) → left ≡ names → out ≡ []
    → WalkedSo names changes left 0 out
walk_begins names changes left out all empty = λ copy are is. record {
  rest = copy;
  each = are.each;
  left_is = all ∙ is;
  walk = ap (λ l. l ++ map key_and_name (rows_with_changes copy changes)) empty;
}

-- rows with lesser keys were put, and then what the change puts
put_after : (rest rest' : List SheetRow) (change : Change) (cs : List Change) (left out out1 out2 all : List Name) (n : ℕ) → left ≡ map key_and_name rest
    → out1 ≡ out ++ take n left → out2 ≡ out1 ++ put_name change
    → take n rest ++ rows_with_changes (drop n rest) (change ∷ cs) ≡ rows_with_changes rest (change ∷ cs)
    → rows_with_changes (drop n rest) (change ∷ cs) ≡ put_by change ++ rows_with_changes rest' cs
    → out ++ map key_and_name (rows_with_changes rest (change ∷ cs)) ≡ all → out2 ++ map key_and_name (rows_with_changes rest' cs) ≡ all
put_after rest rest' change cs left out out1 out2 all n is lesser put passes then walk =
    let front : take n left ≡ map key_and_name (take n rest) = ap (take n) is ∙ take-map key_and_name n rest in
    let more : put_name change ++ map key_and_name (rows_with_changes rest' cs) ≡ map key_and_name (rows_with_changes (drop n rest) (change ∷ cs)) =
    ap (λ l. l ++ map key_and_name (rows_with_changes rest' cs)) (put_names_by change) ∙ sym (map-append key_and_name (put_by change) (rows_with_changes rest' cs)) ∙ ap (map key_and_name) (sym then) in
    ap (λ l. l ++ map key_and_name (rows_with_changes rest' cs)) put
    ∙ append_assoc out1 (put_name change) (map key_and_name (rows_with_changes rest' cs))
    ∙ ap (λ l. out1 ++ l) more
    ∙ ap (λ l. l ++ map key_and_name (rows_with_changes (drop n rest) (change ∷ cs))) lesser
    ∙ append_assoc out (take n left) (map key_and_name (rows_with_changes (drop n rest) (change ∷ cs)))
    ∙ ap (λ l. out ++ (l ++ map key_and_name (rows_with_changes (drop n rest) (change ∷ cs)))) front
    ∙ ap (λ l. out ++ l) (sym (map-append key_and_name (take n rest) (rows_with_changes (drop n rest) (change ∷ cs))) ∙ ap (map key_and_name) passes)
    ∙ walk

-- one change
module _ (names : List Name) (changes : List Change) (left : List Name) (i : ℕ) (out : List Name) (change : Change) (q : Text) (n : ℕ)
    (walked : WalkedSo names changes left i out) (within : i < length changes) (here : change ≡ get_or changes i change)
    (is_change : IsChangeOf Sheet.Lei change) (q_is : q ≡ text_at (changed_row change).texts 1) (bound : n ≤ length left)
    (below : FollowsNames left q n) where
  abbrev cs : List Change
  cs = drop (i + 1) changes

  orders : (row : SheetRow) → IsRowOfSheet Sheet.Lei row → key_cmp (changed_key change) (key row) ≡ text_cmp q (key_and_name row).0
  orders = orders_so change q is_change q_is

  next : drop i changes ≡ change ∷ cs
  next = drop_more changes i change within ∙ ap (λ c. c ∷ drop (i + 1) changes) (sym here)

  module _ (copy : List SheetRow) (w : Walked copy changes left i out) where
    fits : n ≤ length w.rest
    fits = let long : length (map key_and_name w.rest) ≡ length w.rest = length-map w.rest key_and_name in omega (arith, ap length w.left_is)

    lesser_pass : take n w.rest ++ rows_with_changes (drop n w.rest) (change ∷ cs) ≡ rows_with_changes w.rest (change ∷ cs)
    lesser_pass = passes_lesser change cs q orders n w.rest w.each fits (subst (λ l. FollowsNames l q n) w.left_is below)

    walk_now : out ++ map key_and_name (rows_with_changes w.rest (change ∷ cs)) ≡ map key_and_name (rows_with_changes copy changes)
    walk_now = ap (λ l. out ++ map key_and_name (rows_with_changes w.rest l)) (sym next) ∙ w.walk

    dropped : drop n left ≡ map key_and_name (drop n w.rest)
    dropped = ap (drop n) w.left_is ∙ drop-map key_and_name n w.rest

    rest_each : All (IsRowOfSheet Sheet.Lei) (drop n w.rest)
    rest_each = All-drop (IsRowOfSheet Sheet.Lei) n w.rest w.each

  pub walk_same : (out1 left1 left2 out2 : List Name) → n < length left → IsHere left q n → out1 ≡ out ++ take n left → left1 ≡ drop n left
      → left2 ≡ drop 1 left1 → out2 ≡ out1 ++ put_name change → WalkedSo names changes left2 (i + 1) out2
  walk_same out1 left1 left2 out2 some same lesser after first put = λ copy are is.
      let w : Walked copy changes left i out = walked copy are is in
      let some_rest : 1 ≤ length (drop n w.rest) =
      (let long : length (map key_and_name (drop n w.rest)) ≡ length (drop n w.rest) = length-map (drop n w.rest) key_and_name in
      omega (arith, ap length (dropped copy w), length-drop n left)) in
      record {
        rest = drop 1 (drop n w.rest);
        each = All-drop (IsRowOfSheet Sheet.Lei) 1 (drop n w.rest) (rest_each copy w);
        left_is = first ∙ ap (drop 1) (after ∙ dropped copy w) ∙ drop-map key_and_name 1 (drop n w.rest);
        walk = put_after w.rest (drop 1 (drop n w.rest)) change cs left out out1 out2 (map key_and_name (rows_with_changes copy changes)) n w.left_is lesser put (lesser_pass copy w)
            (passes_same change cs q orders (drop n w.rest) (rest_each copy w) some_rest (subst (λ l. IsHere l q 0) (dropped copy w) (here_drop n left q same)))
            (walk_now copy w);
      }

  pub walk_greater : (out1 left1 out2 : List Name) → PrecedesNames left q n → out1 ≡ out ++ take n left → left1 ≡ drop n left
      → out2 ≡ out1 ++ put_name change → WalkedSo names changes left1 (i + 1) out2
  walk_greater out1 left1 out2 above lesser after put = λ copy are is.
      let w : Walked copy changes left i out = walked copy are is in
      record {
        rest = drop n w.rest;
        each = rest_each copy w;
        left_is = after ∙ dropped copy w;
        walk = put_after w.rest (drop n w.rest) change cs left out out1 out2 (map key_and_name (rows_with_changes copy changes)) n w.left_is lesser put (lesser_pass copy w)
            (passes_greater change cs q orders (drop n w.rest) (rest_each copy w) (subst (λ l. PrecedesNames l q 0) (dropped copy w) (above_drop n left q above)))
            (walk_now copy w);
      }

merged_none : (rest : List SheetRow) → rows_with_changes rest [] ≡ rest
merged_none [] = refl
merged_none (row ∷ rest) = ap (λ l. row ∷ l) (merged_none rest)

-- after the last change, the rest of the rows are put
pub walk_ends : (names : List Name) (changes : List Change) (left : List Name) (i n : ℕ) (out out' : List Name) → AreChanges Sheet.Lei changes
    → WalkedSo names changes left i out → length changes ≤ i → length left ≤ n → out' ≡ out ++ take n left
    → (copy : List SheetRow) → AreRows Sheet.Lei copy → names ≡ map key_and_name copy → out' ≡ map key_and_name (patched copy changes)
walk_ends names changes left i n out out' are walked past all put copy rows is =
    let w : Walked copy changes left i out = walked copy rows is in
    put ∙ ap (λ l. out ++ l) (take_all n left all ∙ w.left_is ∙ ap (map key_and_name) (sym (merged_none w.rest)))
    ∙ ap (λ l. out ++ map key_and_name (rows_with_changes w.rest l)) (sym (drop_all i changes past))
    ∙ w.walk ∙ ap (map key_and_name) (merged_is copy changes rows.rising are.rising)

-- so the names of a table are those of the patched rows
pub table_after : (rows : List SheetRow) (changes changes' : List Change) (table new : NameTable) (names : List Name) → changes' ≡ changes
    → AreChanges Sheet.Lei changes → names ≡ table.names
    → ((copy : List SheetRow) → AreRows Sheet.Lei copy → names ≡ map key_and_name copy → new.names ≡ map key_and_name (patched copy changes'))
    → IsNameTable rows table → IsNameTable (patched rows changes) new
table_after rows changes changes' table new names same are old merges is = record {
  rows_are = rows_stay Sheet.Lei rows changes is.rows_are are;
  names_are = merges rows is.rows_are (old ∙ is.names_are) ∙ ap (λ l. map key_and_name (patched rows l)) same;
}
