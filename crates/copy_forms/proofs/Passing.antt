-- How a walk over rows passes a row, and what is put at its end.
use Rattle.std.proofs.Common.{◌≡◌, ℕ, ◌+◌, ◌-◌, ◌<◌, ◌≤◌, Bool, true, false, List, [], ◌∷◌, ◌++◌, length, take, drop, get_or, map, refl, sym, ap, subst, ◌∙◌, append_assoc, arith}
use Rattle.std.specs.Prelude.{flat_map, if◌then◌else◌}
use Rattle.std.specs.Borrow.{Bor}
use Rattle.std.specs.FinMap.Entries.{by_order}
use Rattle.std.specs.declared.cmp.Ordering.{Ordering}
use Rattle.std.proofs.lemmas.Grind.{flat_map-append}
use Rattle.std.proofs.Math.ListN.{get_or-map}
use Rattle.std.proofs.lemmas.List.{append-nil, drop_all, drop_more, get_or-drop, length-drop, length-map, map-id, take_all, take_more, take_rest}
use Rattle.lei_records.specs.Tables.{key_cmp}
use Rattle.copy_csv.specs.declared.rows.Change.{Change}
use Rattle.copy_csv.specs.Rows.{KeysRise, changed_key}
use Rattle.copy_csv.specs.Sheets.{SheetRow, key}
use Rattle.copy_forms.specs.Patching.{patched}
use Rattle.copy_forms.specs.Merging.{IsPlaceAmong, PassesRow, put_between, put_by, row_among_changes, rows_with_changes}
use Rattle.copy_forms.proofs.Merged.{merged_is}

-- the change at an index, followed by the others
next_change : (changes : List Change) (i : ℕ) (change : Change) → i < length changes → change ≡ get_or changes i change
    → change ∷ drop (i + 1) changes ≡ drop i changes
next_change changes i change within here =
    sym (drop_more changes i change within ∙ ap (λ y. y ∷ drop (i + 1) changes) (sym here))

module _ {X : Type 0} (print : SheetRow → List X) where
  -- the walk is at a row, and what the changes before `next` put was put before the row
  abbrev pub StandsBefore : List Change → SheetRow → ℕ → List X → ℕ → List X → Type 0
  StandsBefore changes row at old next new =
      (more : List SheetRow)
      → new ++ flat_map print (rows_with_changes (row ∷ more) (drop next changes)) ≡ old ++ flat_map print (rows_with_changes (row ∷ more) (drop at changes))

  -- what was put, followed by the others
  before : (put others : List SheetRow) (old new : List X) → new ≡ old ++ flat_map print put
      → new ++ flat_map print others ≡ old ++ flat_map print (put ++ others)
  before put others old new is =
      ap (λ l. l ++ flat_map print others) is ∙ append_assoc old (flat_map print put) (flat_map print others)
      ∙ ap (λ l. old ++ l) (sym (flat_map-append print put others))

  pub passes-lesser : (changes : List Change) (row : SheetRow) (at : ℕ) (old out new : List X) (i : ℕ) (change : Change)
      → StandsBefore changes row at old i out → i < length changes → change ≡ get_or changes i change
      → key_cmp (changed_key change) (key row) ≡ Ordering.Less → new ≡ out ++ flat_map print (put_by change)
      → StandsBefore changes row at old (i + 1) new
  passes-lesser changes row at old out new i change stands within here order put more =
      let others : List SheetRow = row_among_changes row (rows_with_changes more) (drop (i + 1) changes) in
      before (put_by change) (row_among_changes row (rows_with_changes more) (drop (i + 1) changes)) out new put
      ∙ ap (λ o. out ++ flat_map print (by_order o (put_by change ++ others) (put_by change ++ rows_with_changes more (drop (i + 1) changes)) (row ∷ rows_with_changes more (change ∷ drop (i + 1) changes)))) (sym order)
      ∙ ap (λ l. out ++ flat_map print (row_among_changes row (rows_with_changes more) l)) (next_change changes i change within here)
      ∙ stands more

  pub passes-equal : (changes : List Change) (row : SheetRow) (at : ℕ) (old out new : List X) (i : ℕ) (change : Change)
      → StandsBefore changes row at old i out → i < length changes → change ≡ get_or changes i change
      → key_cmp (changed_key change) (key row) ≡ Ordering.Equal → new ≡ out ++ flat_map print (put_by change)
      → PassesRow print changes row at old (i + 1) new
  passes-equal changes row at old out new i change stands within here order put more =
      let others : List SheetRow = row_among_changes row (rows_with_changes more) (drop (i + 1) changes) in
      before (put_by change) (rows_with_changes more (drop (i + 1) changes)) out new put
      ∙ ap (λ o. out ++ flat_map print (by_order o (put_by change ++ others) (put_by change ++ rows_with_changes more (drop (i + 1) changes)) (row ∷ rows_with_changes more (change ∷ drop (i + 1) changes)))) (sym order)
      ∙ ap (λ l. out ++ flat_map print (row_among_changes row (rows_with_changes more) l)) (next_change changes i change within here)
      ∙ stands more

  pub passes-greater : (changes : List Change) (row : SheetRow) (at : ℕ) (old out new : List X) (i : ℕ) (change : Change)
      → StandsBefore changes row at old i out → i < length changes → change ≡ get_or changes i change
      → key_cmp (changed_key change) (key row) ≡ Ordering.Greater → new ≡ out ++ print row
      → PassesRow print changes row at old i new
  passes-greater changes row at old out new i change stands within here order put more =
      let others : List SheetRow = row_among_changes row (rows_with_changes more) (drop (i + 1) changes) in
      ap (λ l. l ++ flat_map print (rows_with_changes more (drop i changes))) put
      ∙ append_assoc out (print row) (flat_map print (rows_with_changes more (drop i changes)))
      ∙ ap (λ l. out ++ (print row ++ flat_map print (rows_with_changes more l))) (sym (next_change changes i change within here))
      ∙ ap (λ o. out ++ flat_map print (by_order o (put_by change ++ others) (put_by change ++ rows_with_changes more (drop (i + 1) changes)) (row ∷ rows_with_changes more (change ∷ drop (i + 1) changes)))) (sym order)
      ∙ ap (λ l. out ++ flat_map print (row_among_changes row (rows_with_changes more) l)) (next_change changes i change within here)
      ∙ stands more

  pub passes-end : (changes : List Change) (row : SheetRow) (at : ℕ) (old out new : List X) (i n : ℕ)
      → StandsBefore changes row at old i out → length changes ≤ i → length changes ≤ n → new ≡ out ++ print row
      → PassesRow print changes row at old n new
  passes-end changes row at old out new i n stands past end put more =
      ap (λ l. l ++ flat_map print (rows_with_changes more (drop n changes))) put
      ∙ append_assoc out (print row) (flat_map print (rows_with_changes more (drop n changes)))
      ∙ ap (λ l. out ++ (print row ++ flat_map print (rows_with_changes more l))) (drop_all n changes end)
      ∙ ap (λ l. out ++ flat_map print (row_among_changes row (rows_with_changes more) l)) (sym (drop_all i changes past))
      ∙ stands more

  -- a row that is placed among changes was passed, if what the changes before it put was put, and the row if it stays
  pub passes-printed : (changes : List Change) (row : SheetRow) (at next : ℕ) (stays : Bool) (old new : List X) → IsPlaceAmong changes row at next stays
      → new ≡ (old ++ flat_map print (put_between changes at next)) ++ (if stays then print row else []) → PassesRow print changes row at old next new
  passes-printed changes row at next stays old new stands put more =
      let front : List SheetRow = put_between changes at next in
      let left : List SheetRow = rows_with_changes more (drop next changes) in
      ap (λ l. l ++ flat_map print (rows_with_changes more (drop next changes))) put
      ∙ append_assoc (old ++ flat_map print front) (if stays then print row else []) (flat_map print left)
      ∙ ap (λ l. (old ++ flat_map print (put_between changes at next)) ++ l) (kept stays left)
      ∙ append_assoc old (flat_map print front) (flat_map print ((if stays then row ∷ [] else []) ++ left))
      ∙ ap (λ l. old ++ l) (sym (flat_map-append print front ((if stays then row ∷ [] else []) ++ left)))
      ∙ ap (λ l. old ++ flat_map print l) (stands more)
    where
      kept : (b : Bool) (rows : List SheetRow) → (if b then print row else []) ++ flat_map print rows ≡ flat_map print ((if b then row ∷ [] else []) ++ rows)
      kept true rows = refl
      kept false rows = refl

-- rows that are printed as themselves
abbrev pub alone : SheetRow → List SheetRow
alone row = row ∷ []

pub all-alone : (rows : List SheetRow) → flat_map alone rows ≡ rows
all-alone [] = refl
all-alone (row ∷ rows) = ap (λ l. row ∷ l) (all-alone rows)

-- one more borrowed row
pub held-push : (xs new : List (Bor SheetRow)) (x : Bor SheetRow) → new ≡ xs ++ x ∷ []
    → map (λ row. row.now) new ≡ map (λ row. row.now) xs ++ alone x.now
held-push xs new x is = ap (map (λ row. row.now)) is ∙ all xs
  where
    all : (xs : List (Bor SheetRow)) → map (λ row. row.now) (xs ++ x ∷ []) ≡ map (λ row. row.now) xs ++ alone x.now
    all [] = refl
    all (y ∷ xs) = ap (λ l. y.now ∷ l) (all xs)

-- the same for rows that are each put as itself
pub passes-alone : (changes : List Change) (row : SheetRow) (at next : ℕ) (stays : Bool) (old new : List SheetRow) → IsPlaceAmong changes row at next stays
    → new ≡ (old ++ put_between changes at next) ++ (if stays then row ∷ [] else []) → PassesRow alone changes row at old next new
passes-alone changes row at next stays old new stands put =
    passes-printed alone changes row at next stays old new stands
    (put ∙ ap (λ l. (old ++ l) ++ (if stays then row ∷ [] else [])) (sym (all-alone (put_between changes at next))))

-- the rows after a walk over all of them
pub rows-end : (rows : List SheetRow) (changes : List Change) (held new : List SheetRow) (index next : ℕ) → KeysRise (map key rows)
    → KeysRise (map changed_key changes)
    → held ++ flat_map alone (rows_with_changes (drop index rows) (drop next changes)) ≡ flat_map alone (rows_with_changes rows changes) → length rows ≤ index
    → new ≡ held ++ flat_map put_by (take (length changes - next) (drop next changes)) → new ≡ patched rows changes
rows-end rows changes held new index next up are walk past put =
    put ∙ ap (λ l. held ++ flat_map put_by l) (take_rest changes next)
    ∙ ap (λ l. held ++ l) (sym (all-alone (flat_map put_by (drop next changes))))
    ∙ ap (λ l. held ++ flat_map alone (rows_with_changes l (drop next changes))) (sym (drop_all index rows past))
    ∙ walk ∙ all-alone (rows_with_changes rows changes) ∙ merged_is rows changes up are

-- changes that are held as they are
pub stands-so : (changes : List Change) (row : SheetRow) (at next : ℕ) (stays : Bool) → IsPlaceAmong (map (λ change. change) changes) row at next stays
    → IsPlaceAmong changes row at next stays
stands-so changes row at next stays = subst (λ (l : List Change). IsPlaceAmong l row at next stays) (map-id changes)

-- ---- a row among changes that their holder has in a form of its own

module _ {X : Type 0} (held : X → Change) (xs : List X) (row : SheetRow) (at : ℕ) where
  -- the walk is at the row, and the changes up to an index have lesser keys
  pub record StandsAt (index : ℕ) : Type 0 where
    pub onward : at ≤ index
    pub walk : (more : List SheetRow)
        → put_between (map held xs) at index ++ rows_with_changes (row ∷ more) (drop index (map held xs)) ≡ rows_with_changes (row ∷ more) (drop at (map held xs))

  pub stands-first : StandsAt at
  stands-first = record { onward = omega arith; walk = λ more. ap (λ n. flat_map put_by (take n (drop at (map held xs))) ++ rows_with_changes (row ∷ more) (drop at (map held xs))) none }
    where
      none : at - at ≡ 0
      none = omega arith

  -- the change at an index, followed by the others
  here : (i : ℕ) (x : X) → i < length xs → x ≡ get_or xs i x → held x ∷ drop (i + 1) (map held xs) ≡ drop i (map held xs)
  here i x within is =
      let long : length (map held xs) ≡ length xs = length-map xs held in
      next_change (map held xs) i (held x) (omega arith) (ap held is ∙ sym (get_or-map held xs i x))

  -- what it puts follows what the changes before it put
  put_more : (i : ℕ) (x : X) → at ≤ i → i < length xs → x ≡ get_or xs i x
      → put_between (map held xs) at (i + 1) ≡ put_between (map held xs) at i ++ put_by (held x)
  put_more i x onward within is =
      let all : List Change = map held xs in
      let long : length (map held xs) ≡ length xs = length-map xs held in
      let left : length (drop at (map held xs)) ≡ length (map held xs) - at = length-drop at (map held xs) in
      let more : i + 1 - at ≡ (i - at) + 1 = omega arith in
      let place : at + (i - at) ≡ i = omega arith in
      let front : List Change = take (i - at) (drop at (map held xs)) in
      let that : get_or (drop at (map held xs)) (i - at) (held x) ≡ held x =
      get_or-drop at all (i - at) (held x) ∙ ap (λ n. get_or (map held xs) n (held x)) place
      ∙ get_or-map held xs i x ∙ sym (ap held is) in
      ap (λ n. flat_map put_by (take n (drop at (map held xs)))) more
      ∙ ap (flat_map put_by) (take_more (drop at all) (i - at) (held x) (omega arith)
      ∙ ap (λ c. take (i - at) (drop at (map held xs)) ++ c ∷ []) that)
      ∙ flat_map-append put_by front (held x ∷ [])
      ∙ ap (λ l. flat_map put_by (take (i - at) (drop at (map held xs))) ++ l) (append-nil (put_by (held x)))

  -- what a change and the row give for the changes from its index on
  placed_here : (i : ℕ) (x : X) → i < length xs → x ≡ get_or xs i x → (o : Ordering) → key_cmp (changed_key (held x)) (key row) ≡ o → (more : List SheetRow)
      → by_order o (put_by (held x) ++ row_among_changes row (rows_with_changes more) (drop (i + 1) (map held xs))) (put_by (held x) ++ rows_with_changes more (drop (i + 1) (map held xs)))
      (row ∷ rows_with_changes more (held x ∷ drop (i + 1) (map held xs)))
      ≡ rows_with_changes (row ∷ more) (drop i (map held xs))
  placed_here i x within is o order more =
      let others : List SheetRow = row_among_changes row (rows_with_changes more) (drop (i + 1) (map held xs)) in
      ap (λ o. by_order o (put_by (held x) ++ row_among_changes row (rows_with_changes more) (drop (i + 1) (map held xs))) (put_by (held x) ++ rows_with_changes more (drop (i + 1) (map held xs)))
      (row ∷ rows_with_changes more (held x ∷ drop (i + 1) (map held xs)))) (sym order)
      ∙ ap (row_among_changes row (rows_with_changes more)) (here i x within is)

  pub stands-lesser : (i : ℕ) (x : X) → StandsAt i → i < length xs → x ≡ get_or xs i x → key_cmp (changed_key (held x)) (key row) ≡ Ordering.Less → StandsAt (i + 1)
  stands-lesser i x stands within is order = record {
    onward = let onward : at ≤ i = stands.onward in omega arith;
    walk = λ more.
        ap (λ l. l ++ row_among_changes row (rows_with_changes more) (drop (i + 1) (map held xs))) (put_more i x stands.onward within is)
        ∙ append_assoc (put_between (map held xs) at i) (put_by (held x)) (row_among_changes row (rows_with_changes more) (drop (i + 1) (map held xs)))
        ∙ ap (λ l. put_between (map held xs) at i ++ l) (placed_here i x within is Ordering.Less order more)
        ∙ stands.walk more;
  }

  pub stands-equal : (i : ℕ) (x : X) → StandsAt i → i < length xs → x ≡ get_or xs i x → key_cmp (changed_key (held x)) (key row) ≡ Ordering.Equal
      → IsPlaceAmong (map held xs) row at (i + 1) false
  stands-equal i x stands within is order more =
      ap (λ l. l ++ rows_with_changes more (drop (i + 1) (map held xs))) (put_more i x stands.onward within is)
      ∙ append_assoc (put_between (map held xs) at i) (put_by (held x)) (rows_with_changes more (drop (i + 1) (map held xs)))
      ∙ ap (λ l. put_between (map held xs) at i ++ l) (placed_here i x within is Ordering.Equal order more)
      ∙ stands.walk more

  pub stands-greater : (i : ℕ) (x : X) → StandsAt i → i < length xs → x ≡ get_or xs i x → key_cmp (changed_key (held x)) (key row) ≡ Ordering.Greater
      → IsPlaceAmong (map held xs) row at i true
  stands-greater i x stands within is order more =
      ap (λ l. put_between (map held xs) at i ++ (row ∷ rows_with_changes more l)) (sym (here i x within is))
      ∙ ap (λ l. put_between (map held xs) at i ++ l) (placed_here i x within is Ordering.Greater order more)
      ∙ stands.walk more

  pub stands-last : (i : ℕ) → StandsAt i → length xs ≤ i → IsPlaceAmong (map held xs) row at (length xs) true
  stands-last i stands past more =
      let all : List Change = map held xs in
      let long : length (map held xs) ≡ length xs = length-map xs held in
      let left : length (drop at (map held xs)) ≡ length (map held xs) - at = length-drop at (map held xs) in
      let onward : at ≤ i = stands.onward in
      let same : take (length xs - at) (drop at (map held xs)) ≡ take (i - at) (drop at (map held xs)) =
      take_all (length xs - at) (drop at all) (omega arith) ∙ sym (take_all (i - at) (drop at all) (omega arith)) in
      let none : drop (length xs) (map held xs) ≡ [] = drop_all (length xs) all (omega arith) in
      let past_all : [] ≡ drop i (map held xs) = sym (drop_all i all (omega arith)) in
      ap (λ l. flat_map put_by l ++ (row ∷ rows_with_changes more (drop (length xs) (map held xs)))) same
      ∙ ap (λ l. put_between (map held xs) at i ++ (row ∷ rows_with_changes more l)) none
      ∙ ap (λ l. put_between (map held xs) at i ++ row_among_changes row (rows_with_changes more) l) past_all
      ∙ stands.walk more
