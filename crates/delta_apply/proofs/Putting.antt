-- A walk over the lines of a copy: the rows that were read, and the output for them and the changes.
use Rattle.std.proofs.Common.{◌≡◌, ℕ, zero, suc, ◌+◌, ◌-◌, ◌<◌, ◌≤◌, Bool, Option, None, Some, List, [], ◌∷◌, ◌++◌, length, drop, take, map, true, false, refl, sym, ap, subst, ◌∙◌, append_assoc, arith, length-append}
use Rattle.std.specs.Prelude.{flat_map, if◌then◌else◌, unwrap_or}
use Rattle.std.specs.List.{All, slice_get}
use Rattle.std.specs.Str.{IsUtf8}
use Rattle.std.proofs.lemmas.List.{append-nil, drop_at, length_push, nil_from_length, take_at}
use Rattle.std.proofs.lemmas.List.Elements.{All-head, All-nil, All-push, All-tail}
use Rattle.copy_csv.specs.declared.rows.Change.{Change}
use Rattle.register_words.specs.declared.sheets.Sheet.{Sheet}
use Rattle.copy_csv.specs.Csv.{IsCsvCopy, csv_line, row_line}
use Rattle.copy_csv.specs.Rows.{AreChanges, IsRowIn, KeysRise}
use Rattle.copy_csv.specs.Sheets.{SheetRow, key, names_shown}
use Rattle.copy_csv.specs.Taking.{AreReadFrom, HasLines, ReadsNext, comes_after, is_after_all}
use Rattle.copy_csv.proofs.FileLemmas.{copy-found, copy-is, copy_names, one_width}
use Rattle.copy_csv.proofs.LineLemmas.{row-one_way, row-some}
use Rattle.copy_csv.proofs.RowLemmas.{none_next, not_behind, printed-push, rising-nil, rising-push}
use Rattle.copy_forms.specs.Patching.{patched}
use Rattle.copy_forms.specs.Merging.{PassesRow, put_by, rows_with_changes}
use Rattle.delta_apply.specs.Walks.{AreLinesPatched, IsCopyPatched, PutsLines}
use Rattle.copy_forms.proofs.Merged.{merged_is}

-- these rows were read so far; whatever rows follow them, the output continues in the same way as the whole output
pub record Walked (sheet : Sheet) (base_wide wide : Bool) (bytes : List ℕ) (changes : List Change) (first reader : List ℕ) (last : Option SheetRow) (next : ℕ) (out : List ℕ) : Type 0 where
  pub rows : List SheetRow
  pub printed : bytes ≡ flat_map (row_line base_wide) rows ++ reader
  pub good : All (IsRowIn sheet base_wide) rows
  pub rising : KeysRise (map key rows)
  pub utf8 : IsUtf8 reader
  pub last_is : last ≡ slice_get rows (length rows - 1)
  pub within : next ≤ length changes
  pub walk : (more : List SheetRow)
      → out ++ flat_map (row_line wide) (rows_with_changes more (drop next changes)) ≡ first ++ flat_map (row_line wide) (rows_with_changes (rows ++ more) changes)

pub walk-begins : (sheet : Sheet) (base_wide wide : Bool) (bytes : List ℕ) (changes : List Change) (first reader : List ℕ) → IsUtf8 bytes → reader ≡ bytes
    → Walked sheet base_wide wide bytes changes first reader None 0 first
walk-begins sheet base_wide wide bytes changes first reader utf8 is = record {
  rows = [];
  printed = sym is;
  good = All-nil (IsRowIn sheet base_wide);
  rising = rising-nil;
  utf8 = let F : List ℕ → Type 0 = IsUtf8 in subst F (sym is) utf8;
  last_is = refl;
  within = omega arith;
  walk = λ more. refl;
}

last_pushed : (rows : List SheetRow) (row : SheetRow) → slice_get (rows ++ row ∷ []) (length (rows ++ row ∷ []) - 1) ≡ Some row
last_pushed rows row =
    let long : length (rows ++ row ∷ []) ≡ length rows + 1 = length_push rows row in
    let last : length (rows ++ row ∷ []) - 1 ≡ length rows = omega arith in
    ap (slice_get (rows ++ row ∷ [])) last ∙ at rows
  where
    at : (rows : List SheetRow) → slice_get (rows ++ row ∷ []) (length rows) ≡ Some row
    at [] = refl
    at (x ∷ rows) = at rows

module _ (sheet : Sheet) (base_wide wide : Bool) (bytes : List ℕ) (changes : List Change) (first reader : List ℕ) (last : Option SheetRow) (next : ℕ) (out : List ℕ)
    (walked : Walked sheet base_wide wide bytes changes first reader last next out) where
  behind-is : (row : SheetRow) → comes_after key last row ≡ is_after_all key walked.rows row
  behind-is row = ap (λ o. comes_after key o row) walked.last_is

  pub walk-steps : (row : SheetRow) (reader' : List ℕ) (next' : ℕ) (out' : List ℕ) → ReadsNext (row_line base_wide) (IsRowIn sheet base_wide) reader (Some row) reader'
      → IsUtf8 reader' → comes_after key last row ≡ true → next' ≤ length changes → PassesRow (row_line wide) changes row next out next' out'
      → Walked sheet base_wide wide bytes changes first reader' (Some row) next' out'
  walk-steps row reader' next' out' read utf8 after within passes = record {
    rows = walked.rows ++ row ∷ [];
    printed = printed-push (row_line base_wide) (IsRowIn sheet base_wide) key (row-one_way sheet base_wide) (row-some sheet base_wide) bytes walked.rows row reader reader' walked.printed read.0;
    good = All-push (IsRowIn sheet base_wide) walked.rows row walked.good read.1;
    rising = rising-push key walked.rows row walked.rising (sym (behind-is row) ∙ after);
    utf8 = utf8;
    last_is = sym (last_pushed walked.rows row);
    within = within;
    walk = λ more. passes more ∙ walked.walk (row ∷ more)
        ∙ ap (λ l. first ++ flat_map (row_line wide) (rows_with_changes l changes)) (sym (append_assoc walked.rows (row ∷ []) more));
  }

  -- the row stays, and the line that is put for it is its line in the delta's width
  pub walk-keeps : (row : SheetRow) (reader' : List ℕ) (next' : ℕ) (stays : Bool) (mid kept out' : List ℕ)
      → ReadsNext (row_line base_wide) (IsRowIn sheet base_wide) reader (Some row) reader' → IsUtf8 reader' → comes_after key last row ≡ true
      → next' ≤ length changes → PassesRow (row_line wide) changes row next out next' (mid ++ (if stays then row_line wide row else []))
      → stays ≡ true → kept ≡ row_line wide row → out' ≡ mid ++ kept
      → Walked sheet base_wide wide bytes changes first reader' (Some row) next' out'
  walk-keeps row reader' next' stays mid kept out' read utf8 after within passes stay kept_is put =
      let all : mid ++ (if stays then row_line wide row else []) ≡ out' =
      ap (λ b. mid ++ (if b then row_line wide row else [])) stay ∙ ap (λ l. mid ++ l) (sym kept_is) ∙ sym put in
      walk-steps row reader' next' out' read utf8 after within (subst (PassesRow (row_line wide) changes row next out next') all passes)

  -- a change with the row's key takes its place
  pub walk-replaces : (row : SheetRow) (reader' : List ℕ) (next' : ℕ) (stays : Bool) (mid out' : List ℕ)
      → ReadsNext (row_line base_wide) (IsRowIn sheet base_wide) reader (Some row) reader' → IsUtf8 reader' → comes_after key last row ≡ true
      → next' ≤ length changes → PassesRow (row_line wide) changes row next out next' (mid ++ (if stays then row_line wide row else []))
      → stays ≡ false → out' ≡ mid → Walked sheet base_wide wide bytes changes first reader' (Some row) next' out'
  walk-replaces row reader' next' stays mid out' read utf8 after within passes gone same =
      let all : mid ++ (if stays then row_line wide row else []) ≡ out' =
      ap (λ b. mid ++ (if b then row_line wide row else [])) gone ∙ append-nil mid ∙ sym same in
      walk-steps row reader' next' out' read utf8 after within (subst (PassesRow (row_line wide) changes row next out next') all passes)

  -- if no row comes next, the bytes aren't the lines of rows
  pub walk-unread : (new : List ℕ) → 0 < length reader → ReadsNext (row_line base_wide) (IsRowIn sheet base_wide) reader None new
      → (rows : List SheetRow) → AreReadFrom (row_line base_wide) (IsRowIn sheet base_wide) key bytes rows → ⊥
  walk-unread new some none =
      none_next (row_line base_wide) (IsRowIn sheet base_wide) key (row-one_way sheet base_wide) (row-some sheet base_wide) bytes walked.rows reader new walked.good walked.printed some none

  -- and neither are they if the key of the next row doesn't rise
  pub walk-falls : (row : SheetRow) (new : List ℕ) → ReadsNext (row_line base_wide) (IsRowIn sheet base_wide) reader (Some row) new → comes_after key last row ≡ false
      → (rows : List SheetRow) → AreReadFrom (row_line base_wide) (IsRowIn sheet base_wide) key bytes rows → ⊥
  walk-falls row new read after =
      not_behind (row_line base_wide) (IsRowIn sheet base_wide) key (row-one_way sheet base_wide) (row-some sheet base_wide) bytes walked.rows row reader new walked.good walked.printed read
      (sym (behind-is row) ∙ after)

  -- the last row is one of the sheet
  pub walk-last : (row : SheetRow) → last ≡ Some row → row.sheet ≡ sheet
  walk-last row is = found walked.rows (length walked.rows - 1) walked.good (sym walked.last_is ∙ is)
    where
      found : (rows : List SheetRow) (n : ℕ) → All (IsRowIn sheet base_wide) rows → slice_get rows n ≡ Some row → row.sheet ≡ sheet
      found [] n all e = cc
      found (x ∷ rows) zero all e =
          ap (λ (r : SheetRow). r.sheet) (sym (ap (λ o. unwrap_or o x) e)) ∙ (All-head (IsRowIn sheet base_wide) x rows all).0.1
      found (x ∷ rows) (suc n) all e = found rows n (All-tail (IsRowIn sheet base_wide) x rows all) e

  -- at most as many bytes are left to read as there are in all
  pub walk-left : length reader ≤ length bytes
  walk-left = let long : length bytes ≡ length (flat_map (row_line base_wide) walked.rows) + length reader =
      ap length walked.printed ∙ length-append (flat_map (row_line base_wide) walked.rows) reader in omega arith

  -- the bytes between the two offsets are the line of the next row
  pub walk-line : (row : SheetRow) (new : List ℕ) → reader ≡ row_line base_wide row ++ new → (start end : ℕ)
      → start ≡ length bytes - length reader → end ≡ length bytes - length new
      → take (end - start) (drop start bytes) ≡ row_line base_wide row
  walk-line row new is start end start_is end_is =
      let front : List ℕ = flat_map (row_line base_wide) walked.rows in
      let all : length bytes ≡ length front + length reader = ap length walked.printed ∙ length-append front reader in
      let part : length reader ≡ length (row_line base_wide row) + length new = ap length is ∙ length-append (row_line base_wide row) new in
      let begins : length front ≡ start = omega arith in
      let long : length (row_line base_wide row) ≡ end - start = omega arith in
      ap (λ l. take (end - start) (drop start l)) walked.printed
      ∙ ap (take (end - start)) (drop_at front reader start begins ∙ is) ∙ take_at (row_line base_wide row) new (end - start) long

  pub walk-ends : (new : List ℕ) → length reader ≡ 0 → new ≡ out ++ flat_map (row_line wide) (flat_map put_by (drop next changes))
      → PutsLines sheet base_wide wide bytes changes first new
  walk-ends new done put =
      let none : reader ≡ [] = nil_from_length reader done in
      record {
        rows = walked.rows;
        are = record {
          printed = walked.printed ∙ ap (λ l. flat_map (row_line base_wide) walked.rows ++ l) none ∙ append-nil (flat_map (row_line base_wide) walked.rows);
          good = walked.good;
          rising = walked.rising;
        };
        put = put ∙ walked.walk [] ∙ ap (λ l. first ++ flat_map (row_line wide) (rows_with_changes l changes)) (append-nil walked.rows);
      }

-- all lines that follow the first one
pub lines-patched : (sheet : Sheet) (base_wide wide : Bool) (lines : List ℕ) (changes : List Change) (first out : List ℕ)
    → first ≡ csv_line (names_shown wide sheet) → AreChanges sheet changes → PutsLines sheet base_wide wide lines changes first out
    → AreLinesPatched sheet base_wide wide lines changes out
lines-patched sheet base_wide wide lines changes first out head are puts = record {
  rows = puts.rows;
  are = puts.are;
  bytes_are = puts.put
      ∙ (λ i. head i ++ flat_map (row_line wide) (merged_is puts.rows changes puts.are.rising are.rising i))
      ∙ sym (copy-is sheet wide (patched puts.rows changes));
}

-- so a copy that has these lines is patched
pub csv-patched : (sheet : Sheet) (base_wide wide : Bool) (copied lines : List ℕ) (changes : List Change) (out : List ℕ)
    → HasLines names_shown sheet copied base_wide lines → (base_wide ≡ true → wide ≡ true)
    → AreLinesPatched sheet base_wide wide lines changes out → IsCopyPatched sheet copied wide changes out
csv-patched sheet base_wide wide copied lines changes out has newer done = record {
  base_wide = base_wide;
  rows = done.rows;
  is = copy-found sheet copied base_wide lines has done.rows done.are;
  newer = newer;
  bytes_are = done.bytes_are;
}

-- a copy with the first line of a wide one is wide
pub csv-older : (sheet : Sheet) (wide : Bool) (copied lines : List ℕ) (rows : List SheetRow) → HasLines names_shown sheet copied true lines
    → IsCsvCopy sheet copied wide rows → IsCsvCopy sheet copied true rows
csv-older sheet wide copied lines rows has is =
    let same : wide ≡ true = one_width names_shown copy_names sheet wide true (flat_map (row_line wide) rows) lines is.wide_is has.wide_is
    (sym (is.text ∙ copy-is sheet wide rows) ∙ has.whole) in
    subst (λ w. IsCsvCopy sheet copied w rows) same is
