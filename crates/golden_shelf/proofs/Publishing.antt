-- Publishing: a trail with one more publication is kept.
use Rattle.std.proofs.Common.{◌≡◌, ℕ, suc, ◌-◌, ℤ, Bool, true, false, ◌&&◌, cond, Option, None, Some, List, [], ◌∷◌, ◌++◌, length, map, refl, sym, ap, subst, ◌∙◌, arith, Bor}
use Rattle.std.specs.Prelude.{Err, IfOk, IfSome, Ok, Result, is_some, option_map, unwrap_or}
use Rattle.std.specs.FinMap.Entries.{below_all, is_sorted}
use Rattle.std.specs.Fn.{FnReturnsAt, Shared}
use Rattle.std.specs.List.{AllByRecursion, AllZip, filter, slice_get}
use Rattle.std.specs.List.Sorted.{IsStrictlySortedBy}
use Rattle.std.specs.Ordering.{is_lt}
use Rattle.std.specs.declared.cmp.Ordering.{Ordering}
use Rattle.std.proofs.lemmas.Bool.{false≢true}
use Rattle.std.proofs.lemmas.List.Elements.{All-nil}
use Rattle.lei_shapes.specs.Moment.{IsMoment}
use Rattle.lei_records.specs.declared.view.RowKey.{RowKey}
use Rattle.lei_records.specs.Tables.{KeyTexts, key_cmp}
use Rattle.copy_csv.specs.declared.rows.RowTexts.{RowTexts}
use Rattle.register_words.specs.declared.sheets.Sheet.{Sheet}
use Rattle.copy_csv.specs.Rows.{AreRows, IsRowOfSheet, KeysRise}
use Rattle.copy_csv.specs.Sheets.{SheetRow}
use Rattle.register_words.specs.declared.sheets.Form.{Form}
use Rattle.lei_code.specs.Texts.{Text}
use Rattle.copy_forms.specs.Files.{copy, may_be_wide, row_renderings}
use Rattle.copy_forms.specs.Trails.{FollowOn, IsNextPublication, IsSoundTrail, Publication, Trail, copy_of, is_wide_in, nothing_published}
use Rattle.golden_shelf.specs.declared.issue.Issue.{Issue}
use Rattle.golden_shelf.specs.declared.lines.Note.{Note}
use Rattle.golden_shelf.specs.declared.sides.Sides.{Sides}
use Rattle.golden_shelf.specs.Changes.{AreOwnChanges, ArePlain, IsIssued, KeyChanges, in_sheet, touched_by}
use Rattle.golden_shelf.specs.Keys.{is_key_of, key_texts}
use Rattle.golden_shelf.specs.Lines.{KeyedLine, keyed_line, with_lines}
use Rattle.golden_shelf.specs.Parts.{kept_parts, side_of}
use Rattle.golden_shelf.specs.Shelves.{AreIssuesOf, IsIssueOf, KeepsTrail, Kept, MayFollow, last_after, latest, latest_or_nothing, latest_rows, lines_of}
use Rattle.golden_shelf.specs.Sides.{AreRisingChanges, IsChanged, IsSameSide, NotesChange, SideState, notes_of}
use Rattle.golden_shelf.proofs.Keeping.{IsPlainRow, Pair, Stands, follows, joined, pairs_of, rising_rows, to_line, touched_pairs}

-- ---- the latest publication

last_pushed : (first : Publication) (later : Trail) (next : Publication) → last_after first (later ++ next ∷ []) ≡ next
last_pushed first [] next = refl
last_pushed first (p ∷ later) next = last_pushed p later next

pub latest_push : (trail : Trail) (next : Publication) → latest (trail ++ next ∷ []) ≡ Some next
latest_push [] next = refl
latest_push (first ∷ later) next = ap Some (last_pushed first later next)

-- it is the last one if `nothing_published` comes before the first
latest_is : (trail : Trail) → last_after nothing_published trail ≡ latest_or_nothing trail
latest_is [] = refl
latest_is (first ∷ later) = refl

follow_push : (before : Publication) (trail : Trail) (next : Publication) → FollowOn before trail
    → IsNextPublication (last_after before trail) next → FollowOn before (trail ++ next ∷ [])
follow_push before [] next on is = (is, tt)
follow_push before (p ∷ later) next on is = (on.0, follow_push p later next on.1 is)

last_stands : (before : Publication) (trail : Trail) → Stands before → FollowOn before trail → Stands (last_after before trail)
last_stands before [] stands on = stands
last_stands before (p ∷ later) stands on = last_stands p later (record { rows_are = on.0.rows_are; plain = on.0.plain }) on.1

-- the rows of the latest publication of a sound trail are rows of their sheets, and plain if it is narrow
latest_stands : (trail : Trail) → IsSoundTrail trail → Stands (latest_or_nothing trail)
latest_stands trail sound =
    subst Stands (latest_is trail)
    (last_stands nothing_published trail
    (record {
      rows_are = λ sheet. record { each = All-nil (IsRowOfSheet sheet); rising = rising_rows [] refl };
      plain = λ narrow. All-nil IsPlainRow;
    })
    sound)

pub latest_sound : (trail : Trail) → IsSoundTrail trail → (sheet : Sheet) → AreRows sheet (latest_rows trail sheet)
latest_sound trail sound sheet = let stands = latest_stands trail sound in stands.rows_are sheet

-- ---- issues

issues_push : (issues : List Issue) (trail : Trail) (issue : Issue) (next : Publication) → AreIssuesOf issues trail → IsIssueOf issue next
    → AreIssuesOf (issues ++ issue ∷ []) (trail ++ next ∷ [])
issues_push [] [] issue next are is = (is, tt)
issues_push [] (p ∷ trail) issue next are is = absurd are
issues_push (i ∷ issues) [] issue next are is = absurd are
issues_push (i ∷ issues) (p ∷ trail) issue next are is = (are.0, issues_push issues trail issue next are.1 is)

pub length_issues : (issues : List Issue) (trail : Trail) → AreIssuesOf issues trail → length issues ≡ length trail
length_issues [] [] are = refl
length_issues [] (p ∷ trail) are = absurd are
length_issues (i ∷ issues) [] are = absurd are
length_issues (i ∷ issues) (p ∷ trail) are = ap suc (length_issues issues trail are.1)

-- what the last issue has is what the latest publication has
latest_of : {X : Type 0} (f : Issue → X) (g : Publication → X) → ((issue : Issue) (p : Publication) → IsIssueOf issue p → f issue ≡ g p)
    → (issues : List Issue) (trail : Trail) → AreIssuesOf issues trail
    → option_map f (slice_get issues (length issues - 1)) ≡ option_map g (latest trail)
latest_of f g same [] [] are = refl
latest_of f g same [] (p ∷ trail) are = absurd are
latest_of f g same (i ∷ issues) [] are = absurd are
latest_of f g same (i ∷ []) (p ∷ []) are = ap Some (same i p are.0)
latest_of f g same (i ∷ []) (p ∷ q ∷ trail) are = absurd are.1
latest_of f g same (i ∷ j ∷ issues) (p ∷ []) are = absurd are.1
latest_of f g same (i ∷ j ∷ issues) (p ∷ q ∷ trail) are =
    let e : length (i ∷ j ∷ issues) - 1 ≡ suc (length (j ∷ issues) - 1) = omega arith in
    ap (λ n. option_map f (slice_get (i ∷ j ∷ issues) n)) e ∙ latest_of f g same (j ∷ issues) (q ∷ trail) are.1

latest_moment : (issues : List Issue) (trail : Trail) → AreIssuesOf issues trail
    → option_map (λ (i : Issue). i.moment) (slice_get issues (length issues - 1)) ≡ option_map (λ (p : Publication). p.moment) (latest trail)
latest_moment = latest_of (λ i. i.moment) (λ p. p.moment) (λ i p is. is.moment_is)

latest_width : (issues : List Issue) (trail : Trail) → AreIssuesOf issues trail
    → option_map (λ (i : Issue). i.wide) (slice_get issues (length issues - 1)) ≡ option_map (λ (p : Publication). p.wide) (latest trail)
latest_width = latest_of (λ i. i.wide) (λ p. p.wide) (λ i p is. is.wide_is)

-- so if a width may follow the issues, it may follow the publications
may_widen : (issues : List Issue) (trail : Trail) (wide : Bool) → AreIssuesOf issues trail → MayFollow issues wide
    → (latest_or_nothing trail).wide ≡ true → wide ≡ true
may_widen issues trail wide are may =
    by (slice_get issues (length issues - 1)) (latest trail) (latest_width issues trail are) may
  where
    by : (i : Option Issue) (p : Option Publication) → option_map (λ (i : Issue). i.wide) i ≡ option_map (λ (p : Publication). p.wide) p
        → IfSome i (λ i. i.wide ≡ true → wide ≡ true) → (unwrap_or p nothing_published).wide ≡ true → wide ≡ true
    by i None e may is = absurd (false≢true is)
    by None (Some p) e may is = absurd (false≢true (ap is_some e))
    by (Some i) (Some p) e may is = may (ap (λ o. unwrap_or o i.wide) e ∙ is)

-- and conversely
pub may_follow : (trail : Trail) (kept : Kept) (wide : Bool) → KeepsTrail trail kept → ((latest_or_nothing trail).wide ≡ true → wide ≡ true)
    → MayFollow kept.issues wide
may_follow trail kept wide keeps may =
    by (slice_get kept.issues (length kept.issues - 1)) (latest trail) (latest_width kept.issues trail keeps.issues_are) may
  where
    by : (i : Option Issue) (p : Option Publication) → option_map (λ (i : Issue). i.wide) i ≡ option_map (λ (p : Publication). p.wide) p
        → ((unwrap_or p nothing_published).wide ≡ true → wide ≡ true) → IfSome i (λ i. i.wide ≡ true → wide ≡ true)
    by None p e may = tt
    by (Some i) None e may = absurd (false≢true (sym (ap is_some e)))
    by (Some i) (Some p) e may = λ is. may (sym (ap (λ o. unwrap_or o i.wide) e) ∙ is)

pub latest_told : (issues : List Issue) (trail : Trail) (n : ℕ) (issue : Issue) → AreIssuesOf issues trail → n ≡ length trail
    → Some issue ≡ slice_get issues (length issues - 1)
    → ◌≡◌ {A = Option (ℕ × ℤ)} (Some (n, issue.moment)) (option_map (λ (p : Publication). (length trail, p.moment)) (latest trail))
latest_told issues trail n issue are is at =
    by (latest trail) (ap (option_map (λ (i : Issue). i.moment)) at ∙ latest_moment issues trail are)
  where
    by : (o : Option Publication) → Some issue.moment ≡ option_map (λ (p : Publication). p.moment) o
        → ◌≡◌ {A = Option (ℕ × ℤ)} (Some (n, issue.moment)) (option_map (λ (p : Publication). (length trail, p.moment)) o)
    by None e = absurd (false≢true (sym (ap is_some e)))
    by (Some p) e = ap (λ m. told n m) (ap (λ o. unwrap_or o issue.moment) e) ∙ ap (λ k. told k p.moment) is
      where
        told : ℕ → ℤ → Option (ℕ × ℤ)
        told k m = Some (k, m)

-- ---- notes

touched_keys : (sheet : Sheet) (changes : KeyChanges) → touched_by sheet changes ≡ map key_texts (filter (is_key_of sheet) (map (λ c. c.0) changes))
touched_keys sheet [] = refl
touched_keys sheet (c ∷ changes) = by (is_key_of sheet c.0) (touched_keys sheet changes)
  where
    rest : List RowKey
    rest = filter (is_key_of sheet) (map (λ c. c.0) changes)

    by : (b : Bool) → touched_by sheet changes ≡ map key_texts rest
        → map (λ c. key_texts c.0) (cond b (c ∷ in_sheet sheet changes) (in_sheet sheet changes)) ≡ map key_texts (cond b (c.0 ∷ rest) rest)
    by true later = ap (λ l. key_texts c.0 ∷ l) later
    by false later = later

pub noted : (sheet : Sheet) (changes : KeyChanges) (notes : List Note) → AllZip NotesChange changes notes
    → notes_of (filter (λ note. is_key_of sheet note.key) notes) ≡ map to_line (pairs_of sheet changes)
noted sheet [] [] are = refl
noted sheet [] (n ∷ notes) are = absurd are
noted sheet (c ∷ changes) [] are = absurd are
noted sheet (c ∷ changes) (n ∷ notes) are =
    ap (λ k. notes_of (cond (is_key_of sheet k) (n ∷ rest) rest)) are.0.key_is ∙ by (is_key_of sheet c.0) (noted sheet changes notes are.1)
  where
    rest : List Note
    rest = filter (λ note. is_key_of sheet note.key) notes

    by : (b : Bool) → notes_of rest ≡ map to_line (pairs_of sheet changes)
        → notes_of (cond b (n ∷ rest) rest) ≡ map to_line (map (λ c. (key_texts c.0, c.1)) (cond b (c ∷ in_sheet sheet changes) (in_sheet sheet changes)))
    by true later = ap (λ k. (key_texts k, n.texts) ∷ notes_of rest) are.0.key_is ∙ ap (λ t. (key_texts c.0, t) ∷ notes_of rest) are.0.texts_are
        ∙ ap (λ l. to_line (key_texts c.0, c.1) ∷ l) later
    by false later = later

below_pairs : (k : KeyTexts) (ps : List Pair) → AllByRecursion (λ j. key_cmp k j ≡ Ordering.Less) (map (λ (p : Pair). p.0) ps)
    → below_all key_cmp k (map to_line ps) ≡ true
below_pairs k [] all = refl
below_pairs k (p ∷ ps) all = joined (is_lt (key_cmp k p.0)) (below_all key_cmp k (map to_line ps)) (ap is_lt all.0) (below_pairs k ps all.1)

rising_pairs : (ps : List Pair) → KeysRise (map (λ (p : Pair). p.0) ps) → is_sorted key_cmp (map to_line ps) ≡ true
unfolding IsStrictlySortedBy
rising_pairs [] rising = refl
rising_pairs (p ∷ ps) rising =
    joined (below_all key_cmp p.0 (map to_line ps)) (is_sorted key_cmp (map to_line ps)) (below_pairs p.0 ps rising.0) (rising_pairs ps rising.1)

pub noted_rising : (sheet : Sheet) (changes : KeyChanges) (notes items : List Note) → AllZip NotesChange changes notes → AreOwnChanges changes
    → items ≡ filter (λ note. is_key_of sheet note.key) notes → AreRisingChanges (notes_of items)
noted_rising sheet changes notes items are own is =
    subst AreRisingChanges (sym (ap notes_of is ∙ noted sheet changes notes are))
    (rising_pairs (pairs_of sheet changes) (subst KeysRise (touched_pairs sheet changes) (own.rising sheet)))

-- ---- the trail that follows

pub keeps_next : (trail : Trail) (kept new : Kept) (changes : KeyChanges) (issue : Issue) (next : Publication) → AreOwnChanges changes
    → MayFollow kept.issues issue.wide → (issue.wide ≡ false → ArePlain changes)
    → IsMoment issue.moment → new.issues ≡ kept.issues ++ issue ∷ [] → issue.keys ≡ map (λ c. c.0) changes
    → ((sheet : Sheet) → lines_of new sheet ≡ with_lines (lines_of kept sheet) (map to_line (pairs_of sheet changes)))
    → KeepsTrail trail kept → IsIssued (latest_rows trail) issue.moment issue.wide changes next → KeepsTrail (trail ++ next ∷ []) new
keeps_next trail kept new changes issue next own may plain is issues keys lines keeps issued =
    let step = follows (latest_or_nothing trail) issue.moment issue.wide changes next (latest_stands trail keeps.sound) is own
    (may_widen kept.issues trail issue.wide keeps.issues_are may) plain issued in
    record {
      sound = follow_push nothing_published trail next keeps.sound (subst (λ before. IsNextPublication before next) (sym (latest_is trail)) step.1);
      issues_are = subst (λ l. AreIssuesOf l (trail ++ next ∷ [])) (sym issues)
          (issues_push kept.issues trail issue next keeps.issues_are
          (record {
            moment_is = sym issued.moment_is;
            wide_is = sym issued.wide_is;
            touched_are = λ sheet. issued.touched_are sheet ∙ touched_keys sheet changes ∙ ap (λ l. map key_texts (filter (is_key_of sheet) l)) (sym keys);
          }));
      lines_are = λ sheet. lines sheet ∙ ap (λ l. with_lines l (map to_line (pairs_of sheet changes))) (keeps.lines_are sheet)
          ∙ (step.0 sheet).lines_are ∙ ap (λ o. map keyed_line ((unwrap_or o nothing_published).rows sheet)) (sym (latest_push trail next));
    }

-- ---- what is read from a shelf

pub kept_lines : (issues : List Issue) (sides : Sides) (sheet : Sheet) → (side_of sides sheet).lines ≡ lines_of (kept_parts issues sides) sheet
kept_lines issues sides Sheet.Lei = refl
kept_lines issues sides Sheet.Rr = refl
kept_lines issues sides Sheet.Repex = refl

pub texts_of_rows : (rows : List SheetRow) → map (λ (line : KeyedLine). line.1) (map keyed_line rows) ≡ map row_renderings rows
texts_of_rows [] = refl
texts_of_rows (x ∷ rows) = ap (λ l. row_renderings x ∷ l) (texts_of_rows rows)

pub rows_kept : (issues : List Issue) (sides : Sides) (now : Kept) (trail : Trail) (last : Publication) (sheet : Sheet) (texts : List RowTexts)
    → kept_parts issues sides ≡ now → KeepsTrail trail now → latest trail ≡ Some last → texts ≡ map (λ (line : KeyedLine). line.1) (side_of sides sheet).lines
    → texts ≡ map row_renderings (last.rows sheet)
rows_kept issues sides now trail last sheet texts view keeps is are =
    are ∙ ap (map (λ (line : KeyedLine). line.1)) (kept_lines issues sides sheet ∙ ap (λ k. lines_of k sheet) view ∙ keeps.lines_are sheet)
    ∙ texts_of_rows (latest_rows trail sheet) ∙ ap (λ o. map row_renderings ((unwrap_or o nothing_published).rows sheet)) is

-- the files of the latest publication are wide if and only if its issue says so
pub wide_told : (issues : List Issue) (now : List Issue) (trail : Trail) (last : Publication) (sheet : Sheet) (form : Form) (issue : Issue)
    → issues ≡ now → AreIssuesOf now trail → latest trail ≡ Some last → Some issue ≡ slice_get issues (length issues - 1)
    → (issue.wide && may_be_wide sheet form) ≡ is_wide_in last sheet form
wide_told issues now trail last sheet form issue same are is at =
    ap (λ o. unwrap_or o issue.wide && may_be_wide sheet form)
    (ap (option_map (λ (i : Issue). i.wide)) (at ∙ ap (λ l. slice_get l (length l - 1)) same) ∙ latest_width now trail are
    ∙ ap (option_map (λ (p : Publication). p.wide)) is)

-- without an issue there is no publication
pub none_told : (issues now : List Issue) (trail : Trail) (last : Publication) → issues ≡ now → AreIssuesOf now trail → latest trail ≡ Some last
    → None ≡ slice_get issues (length issues - 1) → ⊥
none_told issues now trail last same are is at =
    false≢true (ap is_some (ap (option_map (λ (i : Issue). i.wide)) (at ∙ ap (λ l. slice_get l (length l - 1)) same) ∙ latest_width now trail are
    ∙ ap (option_map (λ (p : Publication). p.wide)) is))

pub copied : (trail : Trail) (last : Publication) (sheet : Sheet) (form : Form) (wide : Bool) (text : Text) (publication : ℕ) (moment : ℤ)
    → latest trail ≡ Some last
    → ◌≡◌ {A = Option (ℕ × ℤ)} (Some (publication, moment)) (option_map (λ (p : Publication). (length trail, p.moment)) (latest trail))
    → wide ≡ is_wide_in last sheet form
    → text ≡ copy sheet form wide (record { moment = moment; publication = publication; from = 0 }) (last.rows sheet)
    → text ≡ copy_of (length trail) last sheet form
copied trail last sheet form wide text publication moment is told width text_is =
    let first : publication ≡ length trail = ap (λ (o : Option (ℕ × ℤ)). (unwrap_or {T = ℕ × ℤ} o (publication, moment)).0) (told ∙ ap (option_map (λ (p : Publication). (length trail, p.moment))) is) in
    let second : moment ≡ last.moment = ap (λ (o : Option (ℕ × ℤ)). (unwrap_or {T = ℕ × ℤ} o (publication, moment)).1) (told ∙ ap (option_map (λ (p : Publication). (length trail, p.moment))) is) in
    text_is ∙ ap (λ w. copy sheet form w (record { moment = moment; publication = publication; from = 0 }) (last.rows sheet)) width
    ∙ ap (λ n. copy sheet form (is_wide_in last sheet form) (record { moment = moment; publication = n; from = 0 }) (last.rows sheet)) first
    ∙ ap (λ m. copy sheet form (is_wide_in last sheet form) (record { moment = m; publication = length trail; from = 0 }) (last.rows sheet)) second

-- ---- what is rendered

pub if_ok : {V E : Type 0} (r : Result V E) (P Q : V → Type 0) → IfOk r P → ((v : V) → P v → Q v) → IfOk r Q
if_ok (Ok v) P Q h f = f v h
if_ok (Err e) P Q h f = tt

pub all_noted : {F E : Type 0} (g : Shared F (Bor (RowKey × Option SheetRow) × Unit {0}) (Result Note E)) (f : F)
    → ((z : Bor (RowKey × Option SheetRow)) (note : Note) → g.post f (z, tt) (Ok note) → NotesChange z.now note)
    → (changes : KeyChanges) (notes : List Note) → AllZip (λ x u. FnReturnsAt g f x (Ok u)) changes notes → AllZip NotesChange changes notes
all_noted g f says [] [] h = tt
all_noted g f says [] (n ∷ notes) h = absurd h
all_noted g f says (c ∷ changes) [] h = absurd h
all_noted g f says (c ∷ changes) (n ∷ notes) h =
    (subst (λ x. NotesChange x n) h.0.shows (says h.0.shown n h.0.says.met), all_noted g f says changes notes h.1)

pub by_sheet : (P : Sheet → Type 0) → P Sheet.Lei → P Sheet.Rr → P Sheet.Repex → (sheet : Sheet) → P sheet
by_sheet P a b c Sheet.Lei = a
by_sheet P a b c Sheet.Rr = b
by_sheet P a b c Sheet.Repex = c

pub lines_next : (sheet : Sheet) (changes : KeyChanges) (notes items : List Note) (old mid new : SideState) → AllZip NotesChange changes notes
    → items ≡ filter (λ note. is_key_of sheet note.key) notes → IsSameSide old mid → IsChanged mid new items
    → new.lines ≡ with_lines old.lines (map to_line (pairs_of sheet changes))
lines_next sheet changes notes items old mid new are is same changed =
    changed.lines_are ∙ ap (λ l. with_lines l (notes_of items)) same.lines_are
    ∙ ap (λ l. with_lines old.lines l) (ap notes_of is ∙ noted sheet changes notes are)
