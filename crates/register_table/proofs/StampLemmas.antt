-- Stamps of keys that were touched, and the cells that are found by them.
use Rattle.std.specs.Prelude.{◌≡◌, ℕ, ◌+◌, ◌-◌, ◌<◌, ◌≤◌, Bool, true, false, ◌&&◌, cond, List, [], ◌∷◌, ◌++◌, Option, Some, None, length, filter}
use Rattle.std.specs.FinMap.{empty, entries, entries_sorted, get, get-empty, get-entries, get-insert, insert}
use Rattle.std.specs.FinMap.Entries.{below_all, find, is_sorted, same_entries}
use Rattle.std.specs.List.{All}
use Rattle.std.specs.List.Sorted.{IsPartitionPoint}
use Rattle.std.specs.Ordering.{eq_by_cmp, is_eq, is_lt}
use Rattle.std.specs.declared.cmp.Ordering.{Ordering}
use Rattle.std.specs.declared.cmp.Ordering.TheVariants.{Less, Equal, Greater}
use Rattle.std.proofs.Common.{arith, drop, get_or, leb, leb-true, leb-false, ltb, ltb-true, ltb-false, refl, subst, sym, take, ap, ◌∙◌, T}
use Rattle.std.proofs.lemmas.List.{get_or_default, get_or-drop, get_or-take, get_or_append_left, get_or_push, length-drop, length-take-le, length_push}
use Rattle.std.proofs.lemmas.List.Elements.{All-tail}
use Rattle.std.proofs.lemmas.List.Sorted.{IsNonDecreasingBy-short}
use mathlib.Core.Bool.{true≢false}
use Rattle.lei_records.specs.declared.item.Item.{Item}
use Rattle.lei_records.specs.declared.view.RowKey.{RowKey}
use Rattle.lei_records.specs.Tables.{KeyTexts, key_cmp}
use Rattle.authority_rules.proofs.HolderLemmas.{keys_total, same_key, some_apart}
use Rattle.authority_rules.proofs.KeyLemmas.{key_itself, keys_antisymmetric}
use Rattle.register_table.specs.declared.stamps.Stamp.{Stamp}
use Rattle.register_table.specs.Held.{Cell, Held, cell_key}
use Rattle.register_table.specs.Stamps.{AreStamped, HasStamp, IsStampOf, NoneFrom, StampsDontFall}
use Rattle.register_table.specs.Touched.{is_touched, touched}
use Rattle.register_table.specs.Undos.{IsLater, WriteList, cell_with, touch, touch_all}

pub by_order : (a b : ℕ) (P : Type 0) → (a < b → P) → (b ≤ a → P) → P
by_order a b P less more = elim (ltb a b) as (λ t. ltb a b ≡ t → P) [
  | true ↦ λ t. less (ltb-true a b t)
  | false ↦ λ t. more (ltb-false a b t)
] refl

-- ---- which stamps are looked at

-- a stamp with a number greater than `after` and at most `upto` is between their partition points
pub whole : (stamps : List Stamp) (after upto low high : ℕ) → high ≤ length stamps
    → IsPartitionPoint (λ s. leb s.entry upto ≡ true) (λ s. leb s.entry upto ≡ false) stamps high
    → IsPartitionPoint (λ s. leb s.entry after ≡ true) (λ s. leb s.entry after ≡ false) (take high stamps) low
    → (entry : ℕ) (key : KeyTexts) → after < entry → entry ≤ upto
    → NoneFrom 0 (take (length (take high stamps) - low) (drop low (take high stamps))) entry key → NoneFrom 0 stamps entry key
whole stamps after upto low high fits ends begins entry key more most none k d start less is =
    let first = take high stamps in
    let rest = drop low first in
    let n = length first - low in
    let len = length-take-le high stamps fits in
    by_order k high ⊥
    (λ before.
    let same : get_or first k d ≡ get_or stamps k d = get_or-take high stamps k d before in
    by_order k low ⊥
    (λ below.
    let small = leb-true (get_or first k d).entry after (begins.0 k d (omega arith) below) in
    let own = (subst (IsStampOf entry key) (sym same) is).0 in
    absurd (omega (arith, small, own, more)))
    (λ from.
    let size = length-take-le n rest (subst (λ m. n ≤ m) (sym (length-drop low first)) (omega arith)) in
    let at : low + (k - low) ≡ k = omega (arith, from) in
    let there : get_or (take n rest) (k - low) d ≡ get_or stamps k d =
    get_or-take n rest (k - low) d (omega (arith, len, before, from)) ∙ (get_or-drop low first (k - low) d ∙ (ap (λ i. get_or first i d) at ∙ same)) in
    none (k - low) d (omega arith) (omega (arith, size, len, before, from)) (subst (IsStampOf entry key) (sym there) is)))
    (λ behind.
    let big = leb-false (get_or stamps k d).entry upto (ends.1 k d behind less) in
    let own = is.0 in
    absurd (omega (arith, big, own, most)))

-- and no other stamp is there
pub ranged : (stamps : List Stamp) (after upto low high : ℕ) → high ≤ length stamps
    → IsPartitionPoint (λ s. leb s.entry upto ≡ true) (λ s. leb s.entry upto ≡ false) stamps high
    → IsPartitionPoint (λ s. leb s.entry after ≡ true) (λ s. leb s.entry after ≡ false) (take high stamps) low
    → All (λ (s : Stamp). (after < s.entry) × (s.entry ≤ upto)) (take (length (take high stamps) - low) (drop low (take high stamps)))
ranged stamps after upto low high fits ends begins k d less =
    let first = take high stamps in
    let rest = drop low first in
    let n = length first - low in
    let len = length-take-le high stamps fits in
    let size = length-take-le n rest (subst (λ m. n ≤ m) (sym (length-drop low first)) (omega arith)) in
    let same : get_or first (low + k) d ≡ get_or stamps (low + k) d = get_or-take high stamps (low + k) d (omega (arith, less, size, len)) in
    let there : get_or (take n rest) k d ≡ get_or stamps (low + k) d =
    get_or-take n rest k d (omega (arith, less, size)) ∙ (get_or-drop low first k d ∙ same) in
    let more = leb-false (get_or first (low + k) d).entry after (begins.1 (low + k) d (omega arith) (omega (arith, less, size))) in
    let most = leb-true (get_or stamps (low + k) d).entry upto (ends.0 (low + k) d (omega arith) (omega (arith, less, size, len))) in
    subst (λ (s : Stamp). (after < s.entry) × (s.entry ≤ upto)) (sym there) (subst (λ (s : Stamp). after < s.entry) same more, most)

-- ---- stamps that are appended

-- cells with lower numbers have their stamps before the partition point of a number
pub stamped_below : (stamps : List Stamp) (entry below : ℕ) → below ≤ length stamps
    → IsPartitionPoint (λ s. ltb s.entry entry ≡ true) (λ s. ltb s.entry entry ≡ false) stamps below
    → (held : Held) → IsLater entry held → AreStamped stamps held → AreStamped (take below stamps) held
stamped_below stamps entry below fits point held later stamped key cell at none =
    stamped key cell at (λ k d start less is.
    let own = is.0 in
    by_order k below ⊥
    (λ before.
    let len = length-take-le below stamps fits in
    none k d (omega arith) (omega (arith, len, before)) (subst (IsStampOf cell.entry key) (sym (get_or-take below stamps k d before)) is))
    (λ behind.
    let big = ltb-false (get_or stamps k d).entry entry (point.1 k d behind less) in
    let small = later key cell at in
    absurd (omega (arith, big, small, own))))

-- the stamps before it have lower numbers
pub lower : (stamps : List Stamp) (entry below : ℕ) → below ≤ length stamps
    → IsPartitionPoint (λ s. ltb s.entry entry ≡ true) (λ s. ltb s.entry entry ≡ false) stamps below
    → All (λ (s : Stamp). s.entry < entry) (take below stamps)
lower stamps entry below fits point k d less =
    let len = length-take-le below stamps fits in
    let before : k < below = omega (arith, len, less) in
    subst (λ (s : Stamp). s.entry < entry) (sym (get_or-take below stamps k d before)) (ltb-true (get_or stamps k d).entry entry (point.0 k d (omega arith) before))

-- if there is no such stamp after one more is appended, there was none before
fewer : (stamps : List Stamp) (stamp : Stamp) (entry : ℕ) (key : KeyTexts) → NoneFrom 0 (stamps ++ stamp ∷ []) entry key → NoneFrom 0 stamps entry key
fewer stamps stamp entry key none k d start less is =
    let len = length_push stamps stamp in
    none k d start (omega (arith, len, less)) (subst (IsStampOf entry key) (sym (get_or_append_left stamps (stamp ∷ []) d k less)) is)

pub has_more : (stamps : List Stamp) (stamp : Stamp) (entry : ℕ) (key : KeyTexts) → HasStamp stamps entry key → HasStamp (stamps ++ stamp ∷ []) entry key
has_more stamps stamp entry key has none = has (fewer stamps stamp entry key none)

pub stamped_more : (stamps : List Stamp) (stamp : Stamp) (held : Held) → AreStamped stamps held → AreStamped (stamps ++ stamp ∷ []) held
stamped_more stamps stamp held stamped key cell at = has_more stamps stamp cell.entry key (stamped key cell at)

-- the stamp that is appended is there
pub has_pushed : (stamps : List Stamp) (stamp : Stamp) → HasStamp (stamps ++ stamp ∷ []) stamp.entry (cell_key stamp.key)
has_pushed stamps stamp none =
    let len = length_push stamps stamp in
    none (length stamps) stamp (omega arith) (omega (arith, len)) (subst (IsStampOf stamp.entry (cell_key stamp.key)) (sym (get_or_push stamps stamp stamp (length stamps) refl)) (refl, refl))

-- the keys of the writes so far have stamps, and so does that of the next
pub each_more : (writes : WriteList) (stamps : List Stamp) (entry place : ℕ) (write : RowKey × Option Item) → place < length writes → write ≡ get_or writes place write
    → ((k : ℕ) (d : RowKey × Option Item) → k < place → HasStamp stamps entry (cell_key (get_or writes k d).0))
    → (k : ℕ) (d : RowKey × Option Item) → k < place + 1 → HasStamp (stamps ++ record { entry = entry; key = write.0 } ∷ []) entry (cell_key (get_or writes k d).0)
each_more writes stamps entry place write inside is each k d less =
    let stamp : Stamp = record { entry = entry; key = write.0 } in
    by_order k place (HasStamp (stamps ++ stamp ∷ []) entry (cell_key (get_or writes k d).0))
    (λ before. has_more stamps stamp entry (cell_key (get_or writes k d).0) (each k d before))
    (λ from.
    let now : k ≡ place = omega (arith, from, less) in
    let at : get_or writes k d ≡ write = ap (λ i. get_or writes i d) now ∙ (get_or_default writes place d write inside ∙ sym is) in
    subst (λ (w : RowKey × Option Item). HasStamp (stamps ++ stamp ∷ []) entry (cell_key w.0)) (sym at) (has_pushed stamps stamp))

at_touch : (b : Bool) (entry : ℕ) (new : Cell) (old : Option Cell) (cell : Cell) (P : Cell → Type 0) → cond b (Some new) old ≡ Some cell → (b ≡ true → P new) → (old ≡ Some cell → P cell) → P cell
at_touch true entry new old cell P at here there =
    let is : new ≡ cell = cc in
    subst P is (here refl)
at_touch false entry new old cell P at here there = there at

-- the cells after writes are stamped, if each key that is written is
pub stamped_all : (stamps : List Stamp) (entry : ℕ) (writes : WriteList) (held : Held) → AreStamped stamps held
    → All (λ write. HasStamp stamps entry (cell_key write.0)) writes → AreStamped stamps (touch_all entry writes held)
stamped_all stamps entry [] held stamped each = stamped
stamped_all stamps entry (write ∷ writes) held stamped each =
    stamped_all stamps entry writes (touch entry held write)
    (λ key cell at.
    at_touch (eq_by_cmp key_cmp key (cell_key write.0)) entry (cell_with entry write.1) (get held key) cell (λ c. HasStamp stamps c.entry key)
    (sym (get-insert keys_total held (cell_key write.0) (cell_with entry write.1) key) ∙ at)
    (λ same. subst (HasStamp stamps entry) (sym (same_key key (cell_key write.0) same)) (each 0 write (omega arith)))
    (λ there. stamped key cell there))
    (All-tail (λ w. HasStamp stamps entry (cell_key w.0)) write writes each)

-- ---- cells that are found

-- the cells in `found` are among those in `held`
abbrev pub AreAmong : Held → Held → Type 0
AreAmong held found = (key : KeyTexts) (cell : Cell) → get found key ≡ Some cell → get held key ≡ Some cell

by_cell : (o : Option Cell) (P : Type 0) → ((cell : Cell) → o ≡ Some cell → P) → (o ≡ None → P) → P
by_cell (Some cell) P some none = some cell refl
by_cell None P some none = none refl

-- each cell in `found` is touched
abbrev pub AreWithin : ℕ → ℕ → Held → Type 0
AreWithin after upto found = (key : KeyTexts) (cell : Cell) → get found key ≡ Some cell → is_touched after upto cell ≡ true

-- with one more cell that is held, the cells that were found are still among those that are held
pub among_more : (held found : Held) (key : KeyTexts) (cell : Cell) → get held key ≡ Some cell → AreAmong held found → AreAmong held (insert found key cell)
among_more held found key cell at among q other is =
    at_touch (eq_by_cmp key_cmp q key) 0 cell (get found q) other (λ c. get held q ≡ Some c)
    (sym (get-insert keys_total found key cell q) ∙ is) (λ same. ap (get held) (same_key q key same) ∙ at) (λ there. among q other there)

pub within_more : (after upto : ℕ) (found : Held) (key : KeyTexts) (cell : Cell) → is_touched after upto cell ≡ true → AreWithin after upto found
    → AreWithin after upto (insert found key cell)
within_more after upto found key cell passes within q other is =
    at_touch (eq_by_cmp key_cmp q key) 0 cell (get found q) other (λ c. is_touched after upto c ≡ true)
    (sym (get-insert keys_total found key cell q) ∙ is) (λ _. passes) (λ there. within q other there)

-- the cells that were found before are still found
pub found_still : (held found : Held) (key : KeyTexts) (cell : Cell) → get held key ≡ Some cell → AreAmong held found → AreAmong (insert found key cell) found
found_still held found key cell at among q other is =
    elim (eq_by_cmp key_cmp q key) as (λ b. eq_by_cmp key_cmp q key ≡ b → get (insert found key cell) q ≡ Some other) [
      | true ↦ λ same. get-insert keys_total found key cell q ∙ (ap (λ b. cond b (Some cell) (get found q)) same ∙ (sym (ap (get held) (same_key q key same) ∙ at) ∙ among q other is))
      | false ↦ λ apart. get-insert keys_total found key cell q ∙ (ap (λ b. cond b (Some cell) (get found q)) apart ∙ is)
    ] refl

pub found_now : (found : Held) (key : KeyTexts) (cell : Cell) → get (insert found key cell) key ≡ Some cell
found_now found key cell = get-insert keys_total found key cell key ∙ ap (λ b. cond b (Some cell) (get found key)) (key_itself key)

-- each touched cell whose stamps are all before a position was found
abbrev pub AreFound : ℕ → ℕ → Held → List Stamp → ℕ → Held → Type 0
AreFound after upto held stamps place found = (key : KeyTexts) (cell : Cell) → get held key ≡ Some cell → is_touched after upto cell ≡ true
    → HasStamp stamps cell.entry key → NoneFrom place stamps cell.entry key → get found key ≡ Some cell

pub none_found : (after upto : ℕ) (held : Held) (stamps : List Stamp) (found : Held) → AreFound after upto held stamps 0 found
none_found after upto held stamps found key cell at passes has none = absurd (has none)

pub all_found : (after upto : ℕ) (held : Held) (stamps : List Stamp) (place : ℕ) (found : Held) → length stamps ≤ place → AreFound after upto held stamps place found
    → (key : KeyTexts) (cell : Cell) → get held key ≡ Some cell → is_touched after upto cell ≡ true → HasStamp stamps cell.entry key → get found key ≡ Some cell
all_found after upto held stamps place found end each key cell at passes has =
    each key cell at passes has (λ k d from less is. absurd (omega (arith, end, from, less)))

-- what was found before a key was looked up, and after
pub record Asked (after upto : ℕ) (held : Held) (key : KeyTexts) (found more : Held) : Type 0 where
  pub still : AreAmong more found
  pub among : AreAmong held more
  pub within : AreWithin after upto more
  pub here : (cell : Cell) → get held key ≡ Some cell → is_touched after upto cell ≡ true → get more key ≡ Some cell

pub asked_in : (after upto : ℕ) (held : Held) (key : KeyTexts) (found more : Held) (cell : Cell) → get held key ≡ Some cell → is_touched after upto cell ≡ true → more ≡ insert found key cell
    → AreAmong held found → AreWithin after upto found → Asked after upto held key found more
asked_in after upto held key found more cell at passes put among within = record {
  still = subst (λ m. AreAmong m found) (sym put) (found_still held found key cell at among);
  among = subst (AreAmong held) (sym put) (among_more held found key cell at among);
  within = subst (AreWithin after upto) (sym put) (within_more after upto found key cell passes within);
  here = λ other is _. ap (λ m. get m key) put ∙ (found_now found key cell ∙ (sym at ∙ is));
}

pub asked_out : (after upto : ℕ) (held : Held) (key : KeyTexts) (found more : Held) → more ≡ found → AreAmong held found → AreWithin after upto found
    → ((cell : Cell) → get held key ≡ Some cell → is_touched after upto cell ≡ true → ⊥) → Asked after upto held key found more
asked_out after upto held key found more same among within none = record {
  still = λ q cell at. ap (λ m. get m q) same ∙ at;
  among = λ q cell at. among q cell (sym (ap (λ m. get m q) same) ∙ at);
  within = λ q cell at. within q cell (sym (ap (λ m. get m q) same) ∙ at);
  here = λ cell at passes. absurd (none cell at passes);
}

-- no touched cell is held under the key
pub missed : (after upto : ℕ) (held : Held) (key : KeyTexts) → get held key ≡ None → (cell : Cell) → get held key ≡ Some cell → is_touched after upto cell ≡ true → ⊥
missed after upto held key none cell at passes = some_apart cell (sym at ∙ none)

pub passed_over : (after upto : ℕ) (held : Held) (key : KeyTexts) (other : Cell) → get held key ≡ Some other → is_touched after upto other ≡ false
    → (cell : Cell) → get held key ≡ Some cell → is_touched after upto cell ≡ true → ⊥
passed_over after upto held key other at fails cell is passes =
    let both_some : Some other ≡ Some cell = sym at ∙ is in
    let same : other ≡ cell = cc in
    true≢false (sym passes ∙ (ap (is_touched after upto) (sym same) ∙ fails))

-- one stamp further
pub found_more : (after upto : ℕ) (held : Held) (stamps : List Stamp) (place : ℕ) (stamp : Stamp) (found more : Held)
    → place < length stamps → stamp ≡ get_or stamps place stamp → Asked after upto held (cell_key stamp.key) found more
    → AreFound after upto held stamps place found → AreFound after upto held stamps (place + 1) more
found_more after upto held stamps place stamp found more inside here asked each key cell at passes has none =
    by_cell (get more key) (get more key ≡ Some cell)
    (λ other is. is ∙ (sym (asked.among key other is) ∙ at))
    (λ missing. asked.still key cell (each key cell at passes has (λ k d from less is.
    by_order k (place + 1) ⊥
    (λ before.
    let now : k ≡ place = omega (arith, from, before) in
    let own = subst (IsStampOf cell.entry key) (ap (λ i. get_or stamps i d) now ∙ (get_or_default stamps place d stamp inside ∙ sym here)) is in
    some_apart cell (sym (ap (get more) (sym own.1) ∙ asked.here cell (ap (get held) own.1 ∙ at) passes) ∙ missing))
    (λ behind. none k d behind less is))))

-- ---- the cells that are touched

first : (a b : Bool) → T (a && b) → T a
first true b t = tt
first false b t = t

second : (a b : Bool) → T (a && b) → T b
second true b t = t
second false b t = absurd t

both : (a b : Bool) → T a → T b → T (a && b)
both true b p q = q
both false b p q = p

-- a cell that passes a test, if there is one
abbrev pub only : (Cell → Bool) → Option Cell → Option Cell
only p None = None
only p (Some cell) = cond (p cell) (Some cell) None

module _ (p : Cell → Bool) where
  passing : List (KeyTexts × Cell) → List (KeyTexts × Cell)
  passing = filter (λ e. p e.1)

  below_passing : (key : KeyTexts) (cells : List (KeyTexts × Cell)) → T (below_all key_cmp key cells) → T (below_all key_cmp key (filter (λ e. p e.1) cells))
  below_passing key [] t = tt
  below_passing key (e ∷ cells) t = elim (p e.1) as (λ b. T (below_all key_cmp key (cond b (e ∷ filter (λ e. p e.1) cells) (filter (λ e. p e.1) cells)))) [
    | true ↦ both _ _ (first _ _ t) (below_passing key cells (second _ _ t))
    | false ↦ below_passing key cells (second _ _ t)
  ]

  sorted_passing : (cells : List (KeyTexts × Cell)) → T (is_sorted key_cmp cells) → T (is_sorted key_cmp (filter (λ e. p e.1) cells))
  sorted_passing [] t = tt
  sorted_passing (e ∷ cells) t = elim (p e.1) as (λ b. T (is_sorted key_cmp (cond b (e ∷ filter (λ e. p e.1) cells) (filter (λ e. p e.1) cells)))) [
    | true ↦ both _ _ (below_passing e.0 cells (first _ _ t)) (sorted_passing cells (second _ _ t))
    | false ↦ sorted_passing cells (second _ _ t)
  ]

  lower_apart : (o : Ordering) → T (is_lt o) → is_eq o ≡ false
  lower_apart Less t = refl
  lower_apart Equal t = absurd t
  lower_apart Greater t = absurd t

  pub find_below : (key : KeyTexts) (cells : List (KeyTexts × Cell)) → T (below_all key_cmp key cells) → find key_cmp key cells ≡ None
  find_below key [] t = refl
  find_below key (e ∷ cells) t = ap (λ b. cond b (Some e.1) (find key_cmp key cells)) (lower_apart (key_cmp key e.0) (first _ _ t)) ∙ find_below key cells (second _ _ t)

  find_passing : (key : KeyTexts) (cells : List (KeyTexts × Cell)) → T (is_sorted key_cmp cells) → find key_cmp key (filter (λ e. p e.1) cells) ≡ only p (find key_cmp key cells)
  find_passing key [] t = refl
  find_passing key (e ∷ cells) t =
      let rest = filter (λ e. p e.1) cells in
      let more = find_passing key cells (second _ _ t) in
      elim (eq_by_cmp key_cmp key e.0) as (λ b. eq_by_cmp key_cmp key e.0 ≡ b → find key_cmp key (cond (p e.1) (e ∷ rest) rest) ≡ only p (cond b (Some e.1) (find key_cmp key cells))) [
        | true ↦ λ same.
            let none : find key_cmp key cells ≡ None = find_below key cells (subst (λ k. T (below_all key_cmp k cells)) (sym (same_key key e.0 same)) (first _ _ t)) in
            elim (p e.1) as (λ b. find key_cmp key (cond b (e ∷ rest) rest) ≡ cond b (Some e.1) None) [
              | true ↦ ap (λ b. cond b (Some e.1) (find key_cmp key rest)) same
              | false ↦ more ∙ ap (only p) none
            ]
        | false ↦ λ apart.
            elim (p e.1) as (λ b. find key_cmp key (cond b (e ∷ rest) rest) ≡ only p (find key_cmp key cells)) [
              | true ↦ ap (λ b. cond b (Some e.1) (find key_cmp key rest)) apart ∙ more
              | false ↦ more
            ]
      ] refl

  none_passes : (o found : Option Cell) → found ≡ None → ((cell : Cell) → o ≡ Some cell → p cell ≡ true → found ≡ Some cell) → found ≡ only p o
  none_passes None found none each = none
  none_passes (Some cell) found none each =
      elim (p cell) as (λ b. p cell ≡ b → found ≡ cond b (Some cell) None) [
        | true ↦ λ passes. each cell refl passes
        | false ↦ λ fails. none
      ] refl

  all_passing : (held found : Held) → AreAmong held found → ((key : KeyTexts) (cell : Cell) → get found key ≡ Some cell → p cell ≡ true)
      → ((key : KeyTexts) (cell : Cell) → get held key ≡ Some cell → p cell ≡ true → get found key ≡ Some cell)
      → entries found ≡ filter (λ e. p e.1) (entries held)
  all_passing held found among within each =
      same_entries key_cmp keys_total keys_antisymmetric (entries found) (filter (λ e. p e.1) (entries held))
      (entries_sorted found) (sorted_passing (entries held) (entries_sorted held))
      (λ key. sym (get-entries found key)
      ∙ (by_cell (get found key) (get found key ≡ only p (get held key))
      (λ cell is. is ∙ sym (ap (only p) (among key cell is) ∙ ap (λ b. cond b (Some cell) None) (within key cell is)))
      (λ missing. none_passes (get held key) (get found key) missing (λ cell at passes. each key cell at passes))
      ∙ (ap (only p) (get-entries held key) ∙ sym (find_passing key (entries held) (entries_sorted held)))))

-- cells that are held and touched, with none of these left out, are all touched cells
pub all_touched : (after upto : ℕ) (held found : Held) → AreAmong held found → AreWithin after upto found
    → ((key : KeyTexts) (cell : Cell) → get held key ≡ Some cell → is_touched after upto cell ≡ true → get found key ≡ Some cell)
    → entries found ≡ touched after upto held
all_touched after upto held found among within each = all_passing (is_touched after upto) held found among within each

-- what was touched is in the order of keys
pub touched-sorted : (after upto : ℕ) (held : Held) → T (is_sorted key_cmp (touched after upto held))
touched-sorted after upto held = sorted_passing (is_touched after upto) (entries held) (entries_sorted held)

-- what is found under a key is its cell, if that was touched
pub touched-find : (after upto : ℕ) (held : Held) (key : KeyTexts) → find key_cmp key (touched after upto held) ≡ only (is_touched after upto) (get held key)
touched-find after upto held key =
    find_passing (is_touched after upto) key (entries held) (entries_sorted held) ∙ ap (only (is_touched after upto)) (sym (get-entries held key))

-- ---- no stamps

pub none_held : (held : Held) (key : KeyTexts) (cell : Cell) → held ≡ empty → get held key ≡ Some cell → ⊥
none_held held key cell none at = some_apart cell (sym at ∙ (ap (λ h. get h key) none ∙ get-empty key_cmp key))

pub none_stamped : (stamps : List Stamp) (held : Held) → held ≡ empty → AreStamped stamps held
none_stamped stamps held none key cell at = absurd (none_held held key cell none at)

pub none_in_order : (stamps : List Stamp) → stamps ≡ [] → StampsDontFall stamps
none_in_order stamps none = IsNonDecreasingBy-short (λ stamp. stamp.entry) stamps (subst (λ l. length l ≤ 1) (sym none) (omega arith))
