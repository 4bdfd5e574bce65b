-- A delta of a sound trail leads from each publication that it covers to the one that it leads to.
use Rattle.std.proofs.Common.{◌≡◌, ℕ, zero, suc, ◌+◌, ◌-◌, ◌<◌, ◌≤◌, Bool, true, false, ◌&&◌, None, Some, List, [], ◌∷◌, ◌++◌, length, take, drop, refl, sym, ap, subst, ◌∙◌, arith}
use Rattle.std.specs.Prelude.{flat_map, unwrap_or}
use Rattle.std.specs.List.{All, slice_get}
use Rattle.std.specs.Ordering.{eq_by_cmp}
use Rattle.std.proofs.lemmas.Bool.{and_from, and_parts, or_parts}
use Rattle.std.proofs.lemmas.Grind.{flat_map-append}
use Rattle.std.proofs.lemmas.List.{drop-drop, drop-take, take-append-drop}
use Rattle.std.proofs.lemmas.List.Elements.{All-append, All-cons, All-head, All-nil, All-tail}
use Rattle.std.proofs.lemmas.List.Folds.{list_any-append}
use Rattle.std.proofs.lemmas.Option.{slice_get_within}
use Rattle.lei_records.specs.Tables.{KeyTexts, key_cmp}
use Rattle.register_words.specs.declared.sheets.Form.{Form}
use Rattle.register_words.specs.declared.sheets.Sheet.{Sheet}
use Rattle.copy_csv.specs.Rows.{AreRows, IsRowOfSheet}
use Rattle.copy_csv.specs.Sheets.{SheetRow, column_count, width}
use Rattle.copy_csv.proofs.WidthLemmas.{fits-all}
use Rattle.copy_forms.specs.Files.{FitsIn, IsCopy, IsDelta, copy, may_be_wide}
use Rattle.copy_forms.specs.Patching.{IsPatched, patched}
use Rattle.copy_forms.specs.Trails.{DeltasLeadOn, DeltasLeadOnFromBetween, FollowOn, IsKeyOf, IsNextPublication, IsSoundTrail, Publication, Trail, between, changes_between, copy_head, copy_of, delta_between, delta_head, is_key_among, is_wide_in, nothing_published, publication_at, row_under, touched_in}
use Rattle.copy_forms.proofs.CopyLemmas.{always}
use Rattle.copy_forms.proofs.TrailLemmas.{are_changes, leads_over, ordered-fit}

-- ---- what holds up to a place of a trail

-- a key that is in neither of two lists
unseen : (k : KeyTexts) (xs ys : List KeyTexts) → is_key_among k (xs ++ ys) ≡ false → (is_key_among k xs ≡ false) × (is_key_among k ys ≡ false)
unseen k xs ys un = or_parts (is_key_among k xs) (is_key_among k ys) (sym (list_any-append (eq_by_cmp key_cmp k) xs ys) ∙ un)

-- a key that wasn't touched up to a publication has the same row there as before
kept_to : (before : Publication) (later : List Publication) → FollowOn before later → (n : ℕ) (latest : Publication)
    → slice_get (before ∷ later) n ≡ Some latest → (sheet : Sheet) (k : KeyTexts) → is_key_among k (touched_in sheet (take n later)) ≡ false
    → row_under (latest.rows sheet) k ≡ row_under (before.rows sheet) k
kept_to before later on zero latest e sheet k un =
    ap (λ (p : Publication). row_under (p.rows sheet) k) (sym (ap (λ r. unwrap_or r before) e))
kept_to before [] on (suc n) latest e sheet k un = cc
kept_to before (next ∷ later) on (suc n) latest e sheet k un =
    let parts = unseen k (next.touched sheet) (touched_in sheet (take n later)) un in
    kept_to next later on.1 n latest e sheet k parts.1 ∙ on.0.kept sheet k parts.0

-- all touched keys are keys
keys_to : (before : Publication) (later : List Publication) → FollowOn before later → (n : ℕ) (sheet : Sheet)
    → All (IsKeyOf sheet) (touched_in sheet (take n later))
keys_to before later on zero sheet = All-nil (IsKeyOf sheet)
keys_to before [] on (suc n) sheet = All-nil (IsKeyOf sheet)
keys_to before (next ∷ later) on (suc n) sheet =
    All-append (IsKeyOf sheet) (next.touched sheet) (touched_in sheet (take n later)) (on.0.keys_are sheet) (keys_to next later on.1 n sheet)

-- and so are those touched after any place
keys_part : (before : Publication) (later : List Publication) → FollowOn before later → (m n : ℕ) (sheet : Sheet)
    → All (IsKeyOf sheet) (touched_in sheet (take n (drop m later)))
keys_part before later on zero n sheet = keys_to before later on n sheet
keys_part before [] on (suc m) zero sheet = All-nil (IsKeyOf sheet)
keys_part before [] on (suc m) (suc n) sheet = All-nil (IsKeyOf sheet)
keys_part before (next ∷ later) on (suc m) n sheet = keys_part next later on.1 m n sheet

-- all publications after a wide one are wide
widens_to : (before : Publication) (later : List Publication) → FollowOn before later → (n : ℕ) (latest : Publication)
    → slice_get (before ∷ later) n ≡ Some latest → before.wide ≡ true → latest.wide ≡ true
widens_to before later on zero latest e wide = ap (λ (p : Publication). p.wide) (sym (ap (λ r. unwrap_or r before) e)) ∙ wide
widens_to before [] on (suc n) latest e wide = cc
widens_to before (next ∷ later) on (suc n) latest e wide = widens_to next later on.1 n latest e (on.0.widens wide)

-- a publication that follows some other one
record Follows (publication : Publication) : Type 0 where
  before : Publication
  is_next : IsNextPublication before publication

-- each publication of a trail follows another one
follows_at : (before : Publication) (trail : Trail) (n : ℕ) (publication : Publication) → FollowOn before trail
    → slice_get trail n ≡ Some publication → Follows publication
follows_at before [] n publication on e = cc
follows_at before (next ∷ later) zero publication on e =
    subst Follows (ap (λ r. unwrap_or r next) e) (record { before = before; is_next = on.0 })
follows_at before (next ∷ later) (suc n) publication on e = follows_at next later n publication on.1 e

-- the publications after one of a trail follow on from it
follow_on : (before : Publication) (trail : Trail) (n : ℕ) (base : Publication) → FollowOn before trail
    → slice_get trail n ≡ Some base → FollowOn base (drop (suc n) trail)
follow_on before [] n base on e = cc
follow_on before (next ∷ later) zero base on e =
    let is : next ≡ base = ap (λ r. unwrap_or r next) e in
    subst (λ (b : Publication). FollowOn b later) is on.1
follow_on before (next ∷ later) (suc n) base on e = follow_on next later n base on.1 e

-- ---- places of a trail

-- a publication, followed by those after it
from_here : (trail : Trail) (n : ℕ) (publication : Publication) → slice_get trail n ≡ Some publication
    → publication ∷ drop (suc n) trail ≡ drop n trail
from_here [] n publication e = cc
from_here (x ∷ trail) zero publication e = ap (λ (p : Publication). p ∷ trail) (sym (ap (λ r. unwrap_or r x) e))
from_here (x ∷ trail) (suc n) publication e = from_here trail n publication e

-- a place counted from another place
at_behind : (trail : Trail) (n m : ℕ) → slice_get (drop n trail) m ≡ slice_get trail (n + m)
at_behind [] n m = ap (λ (l : Trail). slice_get l m) (drop-none n) ∙ none m ∙ sym (none (n + m))
  where
    none : (k : ℕ) → slice_get {X = Publication} [] k ≡ None
    none k = refl

    drop-none : (k : ℕ) → drop {A = Publication} k [] ≡ []
    drop-none zero = refl
    drop-none (suc k) = refl
at_behind (x ∷ trail) zero m = ap (slice_get (x ∷ trail)) place
  where
    place : m ≡ 0 + m
    place = omega arith
at_behind (x ∷ trail) (suc n) m = at_behind trail n m ∙ ap (slice_get (x ∷ trail)) next
  where
    next : suc (n + m) ≡ suc n + m
    next = omega arith

-- if a key wasn't touched between two publications, it wasn't touched between any later one and the second
later_unseen : (trail : Trail) (p q r : ℕ) → p ≤ q → q ≤ r → (sheet : Sheet) (k : KeyTexts)
    → is_key_among k (touched_in sheet (between trail p r)) ≡ false → is_key_among k (touched_in sheet (between trail q r)) ≡ false
later_unseen trail p q r first second sheet k un =
    let a : ℕ = q - p in
    let b : ℕ = r - q in
    let all : r - p ≡ (q - p) + (r - q) = omega arith in
    let place : p + (q - p) ≡ q = omega arith in
    let part : List Publication = take (a + b) (drop p trail) in
    let touched : Publication → List KeyTexts = λ publication. publication.touched sheet in
    let split : flat_map touched part ≡ flat_map touched (take a part) ++ flat_map touched (drop a part) =
    ap (flat_map touched) (sym (take-append-drop a part)) ∙ flat_map-append touched (take a part) (drop a part) in
    let rest : drop a part ≡ take b (drop q trail) =
    drop-take a b (drop p trail) ∙ ap (take b) (drop-drop a p trail ∙ ap (λ n. drop n trail) place) in
    let none : is_key_among k (flat_map touched (take a part) ++ flat_map touched (drop a part)) ≡ false =
    ap (is_key_among k) (sym split) ∙ ap (λ n. is_key_among k (touched_in sheet (take n (drop p trail)))) (sym all) ∙ un in
    ap (λ (l : List Publication). is_key_among k (flat_map touched l)) (sym rest)
    ∙ (unseen k (flat_map touched (take a part)) (flat_map touched (drop a part)) none).1

-- ---- what files of each width have

-- rows for which a file of this width has all columns
all-fit : (sheet : Sheet) (wide : Bool) → column_count wide sheet ≡ width sheet → (rows : List SheetRow) → All (IsRowOfSheet sheet) rows
    → All (FitsIn Form.Csv wide) rows
all-fit sheet wide full [] are = All-nil (FitsIn Form.Csv wide)
all-fit sheet wide full (row ∷ rows) are =
    All-cons (FitsIn Form.Csv wide) row rows (fits-all sheet wide row (All-head (IsRowOfSheet sheet) row rows are) full)
    (all-fit sheet wide full rows (All-tail (IsRowOfSheet sheet) row rows are))

-- a file of a publication loses nothing of its rows
rows-show : (publication : Publication) → Follows publication → (sheet : Sheet) (form : Form)
    → All (FitsIn form (is_wide_in publication sheet form)) (publication.rows sheet)
rows-show publication is sheet Form.Json = always (publication.rows sheet)
rows-show publication is Sheet.Lei Form.Csv = by publication.wide refl
  where
    by : (wide : Bool) → publication.wide ≡ wide → All (FitsIn Form.Csv (wide && true)) (publication.rows Sheet.Lei)
    by true e = let are : AreRows Sheet.Lei (publication.rows Sheet.Lei) = is.is_next.rows_are Sheet.Lei in
        all-fit Sheet.Lei true refl (publication.rows Sheet.Lei) are.each
    by false e = is.is_next.plain e
rows-show publication is Sheet.Rr Form.Csv = let are : AreRows Sheet.Rr (publication.rows Sheet.Rr) = is.is_next.rows_are Sheet.Rr in
    all-fit Sheet.Rr (publication.wide && false) refl (publication.rows Sheet.Rr) are.each
rows-show publication is Sheet.Repex Form.Csv = let are : AreRows Sheet.Repex (publication.rows Sheet.Repex) = is.is_next.rows_are Sheet.Repex in
    all-fit Sheet.Repex (publication.wide && false) refl (publication.rows Sheet.Repex) are.each

-- ---- the law

module _ (trail : Trail) (on : IsSoundTrail trail) (few : length trail ≤ 1_000_000) where
  -- the copy of a publication
  pub copy_stands : (q : ℕ) (copied : Publication) → 1 ≤ q → publication_at trail q ≡ Some copied → (sheet : Sheet) (form : Form)
      → IsCopy (copy_of q copied sheet form) sheet form (copy_head q copied) (is_wide_in copied sheet form) (copied.rows sheet)
  copy_stands q copied from_one e sheet form =
      let is : Follows copied = follows_at nothing_published trail (q - 1) copied on e in
      let within : q - 1 < length trail = slice_get_within trail (q - 1) copied e in
      record {
        text = refl;
        head_is = record { moment = is.is_next.moment_is; publication = (from_one, omega arith); from = refl };
        wide_is = λ wide. (and_parts copied.wide (may_be_wide sheet form) wide).1;
        rows_are = is.is_next.rows_are sheet;
        fit = rows-show copied is sheet form;
      }

  -- the delta between two publications
  pub delta_stands : (p r : ℕ) (latest : Publication) → 1 ≤ p → p ≤ r → publication_at trail r ≡ Some latest → (sheet : Sheet) (form : Form)
      → IsDelta (delta_between trail p r latest sheet form) sheet form (delta_head p r latest) (is_wide_in latest sheet form)
      (changes_between trail p r latest sheet)
  delta_stands p r latest from_one ordered e sheet form =
      let is : Follows latest = follows_at nothing_published trail (r - 1) latest on e in
      let within : r - 1 < length trail = slice_get_within trail (r - 1) latest e in
      let rows : AreRows sheet (latest.rows sheet) = is.is_next.rows_are sheet in
      let keys : All (IsKeyOf sheet) (touched_in sheet (between trail p r)) = keys_part nothing_published trail on p (r - p) sheet in
      record {
        text = refl;
        head_is = record { moment = is.is_next.moment_is; publication = (omega arith, omega arith); from = (from_one, omega arith) };
        wide_is = λ wide. (and_parts latest.wide (may_be_wide sheet form) wide).1;
        changes_are = are_changes sheet (latest.rows sheet) (touched_in sheet (between trail p r)) rows.each keys;
        fit = ordered-fit sheet form (is_wide_in latest sheet form) (latest.rows sheet) (touched_in sheet (between trail p r))
            (rows-show latest is sheet form) keys;
      }

  -- the rows of a publication, patched by the changes since it or since an earlier one
  module _ (p q r : ℕ) (copied latest : Publication) (from_one : 1 ≤ p) (first : p ≤ q) (second : q ≤ r)
      (e_q : publication_at trail q ≡ Some copied) (e_r : publication_at trail r ≡ Some latest) where
    behind_copied : FollowOn copied (drop q trail)
    behind_copied =
        let next : suc (q - 1) ≡ q = omega arith in
        subst (λ (n : ℕ). FollowOn copied (drop n trail)) next (follow_on nothing_published trail (q - 1) copied on e_q)

    there : slice_get (copied ∷ drop q trail) (r - q) ≡ Some latest
    there =
        let next : suc (q - 1) ≡ q = omega arith in
        let place : q - 1 + (r - q) ≡ r - 1 = omega arith in
        ap (λ n. slice_get (copied ∷ drop n trail) (r - q)) (sym next)
        ∙ ap (λ (l : Trail). slice_get l (r - q)) (from_here trail (q - 1) copied e_q)
        ∙ at_behind trail (q - 1) (r - q) ∙ ap (slice_get trail) place ∙ e_r

    pub rows_lead : (sheet : Sheet) → patched (copied.rows sheet) (changes_between trail p r latest sheet) ≡ latest.rows sheet
    rows_lead sheet =
        let is : Follows latest = follows_at nothing_published trail (r - 1) latest on e_r in
        let rows : AreRows sheet (latest.rows sheet) = is.is_next.rows_are sheet in
        leads_over sheet (copied.rows sheet) (latest.rows sheet) (touched_in sheet (between trail p r)) rows.rising
        (keys_part nothing_published trail on p (r - p) sheet)
        (λ k un. kept_to copied (drop q trail) behind_copied (r - q) latest there sheet k (later_unseen trail p q r first second sheet k un))

    widths_lead : copied.wide ≡ true → latest.wide ≡ true
    widths_lead = widens_to copied (drop q trail) behind_copied (r - q) latest there

-- the law, with the heads and the widths of the copy and of the delta
pub leads_with_heads : (trail : Trail) → IsSoundTrail trail → length trail ≤ 1_000_000
    → (p q r : ℕ) (copied latest : Publication) → 1 ≤ p → p ≤ q → q ≤ r
    → publication_at trail q ≡ Some copied → publication_at trail r ≡ Some latest → (sheet : Sheet) (form : Form)
    → (is : IsPatched (copy_of q copied sheet form) (delta_between trail p r latest sheet form) (copy_of r latest sheet form) sheet form)
    × (is.base_head ≡ copy_head q copied) × (is.head ≡ delta_head p r latest)
    × (is.base_wide ≡ is_wide_in copied sheet form) × (is.wide ≡ is_wide_in latest sheet form)
leads_with_heads trail on few p q r copied latest from_one first second e_q e_r sheet form = (
  record {
    base_head = copy_head q copied;
    base_wide = is_wide_in copied sheet form;
    rows = copied.rows sheet;
    base_is = copy_stands trail on few q copied (omega arith) e_q sheet form;
    head = delta_head p r latest;
    wide = is_wide_in latest sheet form;
    changes = changes_between trail p r latest sheet;
    delta_is = delta_stands trail on few p r latest from_one (omega arith) e_r sheet form;
    newer = λ wide. let parts = and_parts copied.wide (may_be_wide sheet form) wide in
        and_from latest.wide (may_be_wide sheet form)
        (widths_lead trail on few p q r copied latest from_one first second e_q e_r parts.0) parts.1;
    bytes_are = ap (copy sheet form (is_wide_in latest sheet form) (copy_head r latest))
        (sym (rows_lead trail on few p q r copied latest from_one first second e_q e_r sheet));
  },
  refl,
  refl,
  refl,
  refl,
)

-- the law
pub deltas_lead_between : (trail : Trail) → IsSoundTrail trail → length trail ≤ 1_000_000 → DeltasLeadOnFromBetween trail
deltas_lead_between trail on few p q r copied latest from_one first second e_q e_r sheet form =
    let is = leads_with_heads trail on few p q r copied latest from_one first second e_q e_r sheet form in is.0

-- and the case of a delta that starts from the publication of the copy
pub deltas_lead : (trail : Trail) → IsSoundTrail trail → length trail ≤ 1_000_000 → DeltasLeadOn trail
deltas_lead trail on few p q base latest from_one ordered e_p e_q =
    deltas_lead_between trail on few p p q base latest from_one (omega arith) ordered e_p e_q
