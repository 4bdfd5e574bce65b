-- What is noted under the words of names.
use Rattle.std.proofs.Common.{◌≡◌, ℕ, ◌+◌, ◌<◌, T, Bool, true, false, ◌&&◌, ◌||◌, cond, Option, Some, List, [], ◌∷◌, ◌++◌, zero, suc, get_or, take, map, length, refl, sym, ap, subst, ◌∙◌, arith}
use Rattle.std.specs.Prelude.{flat_map}
use Rattle.std.specs.BTreeMap.{BTreeMap, Updates}
use Rattle.std.specs.BTreeSet.{BTreeSet}
use Rattle.std.specs.Cmp.Lexicographic.{bytes_decides}
use Rattle.std.specs.Cmp.{tied_itself}
use Rattle.std.specs.FinMap.Entries.{below_all, by_order, find, is_sorted}
use Rattle.std.specs.Option.{option_map}
use Rattle.std.specs.List.{All, AllByRecursion, list_all}
use Rattle.std.specs.List.Sorted.{IsStrictlySortedBy}
use Rattle.std.specs.Ordering.{eq_by_cmp, is_eq, is_lt}
use Rattle.std.specs.Str.{bytes_eq}
use Rattle.std.specs.declared.cmp.Ordering.{Ordering}
use Rattle.std.proofs.lemmas.Bool.{false≢true}
use Rattle.std.proofs.lemmas.Cmp.{nat_list_cmp_total}
use Rattle.std.proofs.lemmas.List.{map-append, take_more}
use Rattle.std.proofs.lemmas.List.Elements.{All-head, All-tail}
use Rattle.std.proofs.lemmas.List.Folds.{list_all-append}
use Rattle.std.proofs.lemmas.Map.Text.{is_eq-slice_cmp}
use Rattle.lei_code.specs.Texts.{Text}
use Rattle.lei_records.specs.Tables.{key_cmp}
use Rattle.register_words.specs.declared.sheets.Sheet.{Sheet}
use Rattle.copy_csv.specs.declared.rows.Change.{Change}
use Rattle.copy_csv.specs.Rows.{AreChanges, AreRows, IsRowOfSheet, changed_key}
use Rattle.copy_csv.specs.Sheets.{SheetRow, key}
use Rattle.copy_forms.specs.Patching.{patched}
use Rattle.copy_forms.specs.Merging.{put_by, row_among_changes, rows_with_changes}
use Rattle.copy_forms.proofs.Merged.{merged_is, rows_stay}
use Rattle.name_search.specs.declared.postings.Postings.{Postings}
use Rattle.name_search.specs.NameTables.{Name, key_and_name}
use Rattle.name_search.specs.Puts.{put_name, put_names}
use Rattle.name_search.specs.Searching.{has_each, is_match, is_word_among}
use Rattle.name_search.specs.Keys.{AreKeysOf, get_by_word, is_one_of_keys, text_cmp}
use Rattle.name_search.specs.Walks.{Covers, FirstStays, LaterStays, NamesAreIndexed, NotesStay, StaysFor, TakesFrom, has_word, is_noted, keys_in, keys_under, rising_in}
use Rattle.name_search.specs.Words.{words}
use Rattle.name_search.proofs.KeyLemmas.{key_is, then_nothing}
use Rattle.name_search.proofs.PlaceLemmas.{turned}
use Rattle.name_search.proofs.RisingLemmas.{in_both, in_first, in_second}
use Rattle.name_search.proofs.WalkLemmas.{first_true, less, second_true, tied}

both : (a b : Bool) → (a && b) ≡ true → (a ≡ true) × (b ≡ true)
both true b e = (refl, e)
both false b e = absurd (cc)

joined : (a b : Bool) → a ≡ true → b ≡ true → (a && b) ≡ true
joined true b p q = q
joined false b p q = absurd (cc)

-- ---- a test that all pass

all_weaker : {X : Type 0} (p q : X → Bool) → ((x : X) → p x ≡ true → q x ≡ true) → (xs : List X) → list_all p xs ≡ true → list_all q xs ≡ true
all_weaker p q weaker [] all = refl
all_weaker p q weaker (x ∷ xs) all =
    let parts : (p x ≡ true) × (list_all p xs ≡ true) = both (p x) (list_all p xs) all in
    joined (q x) (list_all q xs) (weaker x parts.0) (all_weaker p q weaker xs parts.1)

pub all_more : {X : Type 0} (p : X → Bool) (xs : List X) (i : ℕ) (x : X) → i < length xs → x ≡ get_or xs i x → list_all p (take i xs) ≡ true
    → p x ≡ true → list_all p (take (i + 1) xs) ≡ true
all_more p xs i x within here all is =
    ap (list_all p) (take_more xs i x within ∙ ap (λ y. take i xs ++ y ∷ []) (sym here))
    ∙ list_all-append p (take i xs) (x ∷ []) ∙ joined (list_all p (take i xs)) (p x && true) all (joined (p x) true is refl)

-- ---- what was noted stays noted

pub stays_then : (old mid new : Postings) → NotesStay old mid → NotesStay mid new → NotesStay old new
stays_then old mid new first second word key is = second word key (first word key is)

pub key_stays : (old new : Postings) → NotesStay old new → (key : Text) (these : List Text) → list_all (λ word. is_one_of_keys key (keys_under old word)) these ≡ true
    → list_all (λ word. is_one_of_keys key (keys_under new word)) these ≡ true
key_stays old new stays key these =
    all_weaker (λ word. is_one_of_keys key (keys_under old word)) (λ word. is_one_of_keys key (keys_under new word)) (λ word. stays word key) these

pub noted_stays : (old new : Postings) → NotesStay old new → (names : List Name) → list_all (is_noted old) names ≡ true → list_all (is_noted new) names ≡ true
noted_stays old new stays = all_weaker (is_noted old) (is_noted new) (λ (name : Name). key_stays old new stays name.0 (words name.1))

-- the names of the rows so far and of one more row
pub named_more : (rows : List SheetRow) (i : ℕ) (row : SheetRow) (made : List Name) (name : Name) → i < length rows → row ≡ get_or rows i row
    → made ≡ map key_and_name (take i rows) → name ≡ key_and_name row → made ++ name ∷ [] ≡ map key_and_name (take (i + 1) rows)
named_more rows i row made name within here before value =
    ap (λ l. l ++ name ∷ []) before ∙ ap (λ y. map key_and_name (take i rows) ++ y ∷ []) value
    ∙ sym (ap (map key_and_name) (take_more rows i row within ∙ ap (λ y. take i rows ++ y ∷ []) (sym here)) ∙ map-append key_and_name (take i rows) (row ∷ []))

-- one more name is noted after the others
pub noted_more : (old new : Postings) → NotesStay old new → (names : List Name) (name : Name) → list_all (is_noted old) names ≡ true → is_noted new name ≡ true
    → list_all (is_noted new) (names ++ name ∷ []) ≡ true
noted_more old new stays names name before here =
    list_all-append (is_noted new) names (name ∷ [])
    ∙ joined (list_all (is_noted new) names) (list_all (is_noted new) (name ∷ [])) (noted_stays old new stays names before)
    (joined (is_noted new name) true here refl)

-- ---- a name that has a word is noted under it

under_word : (test : Text → Bool) (word : Text) (these : List Text) → list_all test these ≡ true → is_word_among these word ≡ true → test word ≡ true
under_word test word [] all among = absurd (cc)
under_word test word (x ∷ these) all among =
    let parts : (test x ≡ true) × (list_all test these ≡ true) = both (test x) (list_all test these) all in
    by (under_word test word these parts.1) (bytes_eq word x) refl parts.0 among
  where
    by : (is_word_among these word ≡ true → test word ≡ true) → (b : Bool) → bytes_eq word x ≡ b → test x ≡ true → (b || is_word_among these word) ≡ true
        → test word ≡ true
    by others true same is among = ap test ((bytes_decides word x).0 same) ∙ is
    by others false differs is among = others among

under_key : (test : Name → Bool) (q name : Text) (names : List Name) → list_all test names ≡ true → find text_cmp q names ≡ Some name → test (q, name) ≡ true
under_key test q name [] all found = absurd (cc)
under_key test q name (e ∷ es) all found =
    let parts : (test e ≡ true) × (list_all test es ≡ true) = both (test e) (list_all test es) all in
    by (under_key test q name es parts.1) (eq_by_cmp text_cmp q e.0) refl parts.0 found
  where
    by : (find text_cmp q es ≡ Some name → test (q, name) ≡ true) → (b : Bool) → eq_by_cmp text_cmp q e.0 ≡ b → test e ≡ true
        → cond b (Some e.1) (find text_cmp q es) ≡ Some name → test (q, name) ≡ true
    by others true same holds is =
        let value : e.1 ≡ name = cc in
        ap (λ k. test (k, name)) (tied q e.0 same) ∙ ap (λ n. test (e.0, n)) (sym value) ∙ holds
    by others false differs holds is = others is

wanted_word : (wanted these : List Text) (i : ℕ) (word : Text) → i < length wanted → word ≡ get_or wanted i word → has_each wanted these ≡ true
    → is_word_among these word ≡ true
wanted_word [] these i word within here all = absurd (omega arith)
wanted_word (x ∷ wanted) these zero word within here all =
    ap (is_word_among these) here ∙ (both (is_word_among these x) (has_each wanted these) all).0
wanted_word (x ∷ wanted) these (suc i) word within here all =
    wanted_word wanted these i word (omega arith) here (both (is_word_among these x) (has_each wanted these) all).1

-- so the keys under a wanted word are those of all names that match
pub covers_is : (postings : Postings) (names : List Name) (wanted : List Text) (i : ℕ) (word : Text) → list_all (is_noted postings) names ≡ true
    → i < length wanted → word ≡ get_or wanted i word → Covers (is_match wanted) names (keys_under postings word)
covers_is postings names wanted i word noted within here q name found matches =
    under_word (λ w. is_one_of_keys q (keys_under postings w)) word (words name)
    (under_key (is_noted postings) q name names noted found) (wanted_word wanted (words name) i word within here matches)

pub covers_at : (postings : Postings) (names names' : List Name) (wanted : List Text) (i : ℕ) (word word' : Text) (keys : List Text)
    → list_all (is_noted postings) names ≡ true → i < length wanted → word ≡ get_or wanted i word → names' ≡ names → keys ≡ keys_under postings word'
    → word' ≡ word → Covers (is_match wanted) names' keys
covers_at postings names names' wanted i word word' keys noted within here same are is q name found matches =
    ap (is_one_of_keys q) (are ∙ ap (keys_under postings) is)
    ∙ covers_is postings names wanted i word noted within here q name (ap (find text_cmp q) (sym same) ∙ found) matches

-- ---- names of rows whose keys rise are sorted

name_order : (row other : SheetRow) → IsRowOfSheet Sheet.Lei row → IsRowOfSheet Sheet.Lei other → text_cmp (key_and_name row).0 (key_and_name other).0 ≡ key_cmp (key row) (key other)
name_order row other is other_is =
    sym (then_nothing (text_cmp (key_and_name row).0 (key_and_name other).0))
    ∙ sym (ap (λ k. key_cmp k (key other)) (key_is row is.0 is.1) ∙ ap (key_cmp ((key_and_name row).0 ∷ [])) (key_is other other_is.0 other_is.1))

below_names : (row : SheetRow) (rows : List SheetRow) → IsRowOfSheet Sheet.Lei row → All (IsRowOfSheet Sheet.Lei) rows
    → AllByRecursion (λ k. key_cmp (key row) k ≡ Ordering.Less) (map key rows) → below_all text_cmp (key_and_name row).0 (map key_and_name rows) ≡ true
below_names row [] is all above = refl
below_names row (x ∷ rows) is all above =
    joined (is_lt (text_cmp (key_and_name row).0 (key_and_name x).0)) (below_all text_cmp (key_and_name row).0 (map key_and_name rows))
    (ap is_lt (name_order row x is (All-head (IsRowOfSheet Sheet.Lei) x rows all) ∙ above.0)) (below_names row rows is (All-tail (IsRowOfSheet Sheet.Lei) x rows all) above.1)

sorted_names : (rows : List SheetRow) → All (IsRowOfSheet Sheet.Lei) rows → IsStrictlySortedBy key_cmp (map key rows) → is_sorted text_cmp (map key_and_name rows) ≡ true
unfolding IsStrictlySortedBy
sorted_names [] all rising = refl
sorted_names (row ∷ rows) all rising =
    joined (below_all text_cmp (key_and_name row).0 (map key_and_name rows)) (is_sorted text_cmp (map key_and_name rows))
    (below_names row rows (All-head (IsRowOfSheet Sheet.Lei) row rows all) (All-tail (IsRowOfSheet Sheet.Lei) row rows all) rising.0)
    (sorted_names rows (All-tail (IsRowOfSheet Sheet.Lei) row rows all) rising.1)

pub indexed-sorted : (names : List Name) (postings : Postings) → NamesAreIndexed names postings → is_sorted text_cmp names ≡ true
indexed-sorted names postings is =
    ap (is_sorted text_cmp) is.names_are ∙ sorted_names is.copy is.copy_is.each is.copy_is.rising

-- ---- a test that the names of a copy and those that changes put pass is passed by all names after the changes

put_first : (test : Name → Bool) (change : Change) (rows : List SheetRow) → list_all test (put_name change) ≡ true → list_all test (map key_and_name rows) ≡ true
    → list_all test (map key_and_name (put_by change ++ rows)) ≡ true
put_first test (Change.Put row) rows put others = joined (test (key_and_name row)) (list_all test (map key_and_name rows)) (both (test (key_and_name row)) true put).0 others
put_first test (Change.Drop row) rows put others = others

puts_all : (test : Name → Bool) (changes : List Change) → list_all test (put_names changes) ≡ true → list_all test (map key_and_name (flat_map put_by changes)) ≡ true
puts_all test [] all = refl
puts_all test (change ∷ changes) all =
    let parts : (list_all test (put_name change) ≡ true) × (list_all test (put_names changes) ≡ true) =
    both (list_all test (put_name change)) (list_all test (put_names changes)) (sym (list_all-append test (put_name change) (put_names changes)) ∙ all) in
    put_first test change (flat_map put_by changes) parts.0 (puts_all test changes parts.1)

placed_all : (test : Name → Bool) (row : SheetRow) (others : List Change → List SheetRow) → test (key_and_name row) ≡ true
    → ((changes : List Change) → list_all test (put_names changes) ≡ true → list_all test (map key_and_name (others changes)) ≡ true)
    → (changes : List Change) → list_all test (put_names changes) ≡ true → list_all test (map key_and_name (row_among_changes row others changes)) ≡ true
placed_all test row others is later [] all = joined (test (key_and_name row)) (list_all test (map key_and_name (others []))) is (later [] refl)
placed_all test row others is later (change ∷ changes) all =
    let parts : (list_all test (put_name change) ≡ true) × (list_all test (put_names changes) ≡ true) =
    both (list_all test (put_name change)) (list_all test (put_names changes)) (sym (list_all-append test (put_name change) (put_names changes)) ∙ all) in
    by (placed_all test row others is later changes parts.1) parts (key_cmp (changed_key change) (key row))
  where
    by : list_all test (map key_and_name (row_among_changes row others changes)) ≡ true
        → (list_all test (put_name change) ≡ true) × (list_all test (put_names changes) ≡ true) → (o : Ordering)
        → list_all test (map key_and_name (by_order o (put_by change ++ row_among_changes row others changes) (put_by change ++ others changes) (row ∷ others (change ∷ changes)))) ≡ true
    by inner parts Ordering.Less = put_first test change (row_among_changes row others changes) parts.0 inner
    by inner parts Ordering.Equal = put_first test change (others changes) parts.0 (later changes parts.1)
    by inner parts Ordering.Greater = joined (test (key_and_name row)) (list_all test (map key_and_name (others (change ∷ changes)))) is (later (change ∷ changes) all)

merged_all : (test : Name → Bool) (rows : List SheetRow) → list_all test (map key_and_name rows) ≡ true → (changes : List Change)
    → list_all test (put_names changes) ≡ true → list_all test (map key_and_name (rows_with_changes rows changes)) ≡ true
merged_all test [] all changes puts = puts_all test changes puts
merged_all test (row ∷ rows) all changes puts =
    let parts : (test (key_and_name row) ≡ true) × (list_all test (map key_and_name rows) ≡ true) = both (test (key_and_name row)) (list_all test (map key_and_name rows)) all in
    placed_all test row (rows_with_changes rows) parts.0 (merged_all test rows parts.1) changes puts

-- ---- what an index keeps

pub indexed-made : (rows : List SheetRow) (names : List Name) (postings : Postings) → AreRows Sheet.Lei rows → names ≡ map key_and_name rows
    → list_all (is_noted postings) names ≡ true → NamesAreIndexed names postings
indexed-made rows names postings are is noted = record { copy = rows; copy_is = are; names_are = is; noted = noted }

pub indexed-more : (names : List Name) (old new : Postings) → NamesAreIndexed names old → NotesStay old new → NamesAreIndexed names new
indexed-more names old new is stays = record {
  copy = is.copy;
  copy_is = is.copy_is;
  names_are = is.names_are;
  noted = noted_stays old new stays names is.noted;
}

pub indexed-after : (names out : List Name) (puts : List Name) (changes changes' : List Change) (old new : Postings) → NamesAreIndexed names old → NotesStay old new
    → list_all (is_noted new) puts ≡ true → puts ≡ put_names changes' → changes' ≡ changes → AreChanges Sheet.Lei changes
    → ((copy : List SheetRow) → AreRows Sheet.Lei copy → names ≡ map key_and_name copy → out ≡ map key_and_name (patched copy changes')) → NamesAreIndexed out new
indexed-after names out puts changes changes' old new is stays noted puts_are same are merges =
    let after : out ≡ map key_and_name (patched is.copy changes) = merges is.copy is.copy_is is.names_are ∙ ap (λ l. map key_and_name (patched is.copy l)) same in
    let before : list_all (is_noted new) (map key_and_name is.copy) ≡ true =
    ap (list_all (is_noted new)) (sym is.names_are) ∙ noted_stays old new stays names is.noted in
    let put : list_all (is_noted new) (put_names changes) ≡ true = ap (list_all (is_noted new)) (ap put_names (sym same) ∙ sym puts_are) ∙ noted in
    record {
      copy = patched is.copy changes;
      copy_is = rows_stay Sheet.Lei is.copy changes is.copy_is are;
      names_are = after;
      noted = ap (list_all (is_noted new)) (after ∙ ap (map key_and_name) (sym (merged_is is.copy changes is.copy_is.rising are.rising)))
          ∙ merged_all (is_noted new) is.copy before changes put;
    }

-- ---- one word of an index

-- what a map has under the words after one word got another value
pub word-updated : {V : Type 0} (old new : BTreeMap Text V) (word : Text) (value : Option V) → Updates text_cmp old new word value
    → (other : Text) → get_by_word new other ≡ cond (bytes_eq word other) value (get_by_word old other)
word-updated old new word value updates other = updates.0 other ∙ ap (λ b. cond b value (get_by_word old other)) (is_eq-slice_cmp word other)

module _ {V : Type 0} (read : Option V → List Text) (old new : BTreeMap Text V) (word : Text) (value : Option V) where
  pub stays_updated : Updates text_cmp old new word value
      → AreKeysOf (read (get_by_word old word)) (read value)
      → (other : Text) → AreKeysOf (read (get_by_word old other)) (read (get_by_word new other))
  stays_updated updates stay other key had =
      ap (λ o. is_one_of_keys key (read o)) (word-updated old new word value updates other) ∙ by (bytes_eq word other) refl
    where
      by : (b : Bool) → bytes_eq word other ≡ b → is_one_of_keys key (read (cond b value (get_by_word old other))) ≡ true
      by true same = stay key (ap (λ w. is_one_of_keys key (read (get_by_word old w))) ((bytes_decides word other).0 same) ∙ had)
      by false differs = had

-- there is no key under a word that has none
pub no_key : {P : Type 0} (key : Text) (keys : List Text) → keys ≡ [] → is_one_of_keys key keys ≡ true → P
no_key key keys none had = absurd (false≢true (sym (ap (is_one_of_keys key) none) ∙ had))

-- what stays in both maps stays noted
pub stays_both : (old new : Postings) → FirstStays old.first new.first → LaterStays old.later new.later → NotesStay old new
stays_both old new first later word key =
    in_both key (rising_in (get_by_word old.first word)) (keys_in (get_by_word old.later word))
    (rising_in (get_by_word new.first word)) (keys_in (get_by_word new.later word)) (first word key) (later word key)

pub noted_first : (postings : Postings) (word key : Text) → is_one_of_keys key (rising_in (get_by_word postings.first word)) ≡ true
    → is_one_of_keys key (keys_under postings word) ≡ true
noted_first postings word key =
    in_first key (rising_in (get_by_word postings.first word)) (keys_in (get_by_word postings.later word))

pub noted_later : (postings : Postings) (word key : Text) → is_one_of_keys key (keys_in (get_by_word postings.later word)) ≡ true
    → is_one_of_keys key (keys_under postings word) ≡ true
noted_later postings word key =
    in_second key (rising_in (get_by_word postings.first word)) (keys_in (get_by_word postings.later word))

-- ---- one more word of a row

pub note_more : (old new : Postings) (key key' : Text) (these : List Text) (i : ℕ) (word word' : Text) → NotesStay old new → i < length these
    → word ≡ get_or these i word → list_all (λ w. is_one_of_keys key (keys_under old w)) (take i these) ≡ true → key' ≡ key → word' ≡ word
    → is_one_of_keys key' (keys_under new word') ≡ true → list_all (λ w. is_one_of_keys key (keys_under new w)) (take (i + 1) these) ≡ true
note_more old new key key' these i word word' stays within here before same is noted =
    all_more (λ w. is_one_of_keys key (keys_under new w)) these i word within here (key_stays old new stays key (take i these) before)
    (sym (ap (λ k. is_one_of_keys k (keys_under new word')) same ∙ ap (λ w. is_one_of_keys key (keys_under new w)) is) ∙ noted)

-- ---- a key that is removed from under a word

among_itself : (word : Text) (these : List Text) → is_word_among (word ∷ these) word ≡ true
among_itself word these = ap (λ b. b || is_word_among these word) ((bytes_decides word word).1 refl)

among_more : (other word : Text) (these : List Text) → is_word_among these word ≡ true → is_word_among (other ∷ these) word ≡ true
among_more other word these among = by (bytes_eq word other)
  where
    by : (b : Bool) → (b || is_word_among these word) ≡ true
    by true = refl
    by false = among

each_of : (p q : Text → Bool) (these : List Text) → ((word : Text) → is_word_among these word ≡ true → p word ≡ true → q word ≡ true)
    → list_all p these ≡ true → list_all q these ≡ true
each_of p q [] weaker all = refl
each_of p q (word ∷ these) weaker all =
    let parts : (p word ≡ true) × (list_all p these ≡ true) = both (p word) (list_all p these) all in
    joined (q word) (list_all q these) (weaker word (among_itself word these) parts.0)
    (each_of p q these (λ other among. weaker other (among_more word other these among)) parts.1)

-- what is found under the key of each name is this name
later_found : (e : Name) (all names : List Name) → T (below_all text_cmp e.0 names)
    → AllByRecursion (λ (n : Name). find text_cmp n.0 all ≡ Some n.1) names → AllByRecursion (λ (n : Name). find text_cmp n.0 (e ∷ all) ≡ Some n.1) names
later_found e all [] below found = tt
later_found e all (n ∷ names) below found =
    let above : text_cmp n.0 e.0 ≡ Ordering.Greater = turned e.0 n.0 (less (text_cmp e.0 n.0) (first_true (is_lt (text_cmp e.0 n.0)) (below_all text_cmp e.0 names) below)) in (
      ap (λ o. cond (is_eq o) (Some e.1) (find text_cmp n.0 all)) above ∙ found.0,
      later_found e all names (second_true (is_lt (text_cmp e.0 n.0)) (below_all text_cmp e.0 names) below) found.1,
    )

each_found : (names : List Name) → T (is_sorted text_cmp names) → AllByRecursion (λ (n : Name). find text_cmp n.0 names ≡ Some n.1) names
each_found [] sorted = tt
each_found (e ∷ es) sorted = (
  ap (λ o. cond (is_eq o) (Some e.1) (find text_cmp e.0 es)) (tied_itself nat_list_cmp_total e.0),
  later_found e es es (first_true (below_all text_cmp e.0 es) (is_sorted text_cmp es) sorted) (each_found es (second_true (below_all text_cmp e.0 es) (is_sorted text_cmp es) sorted)),
)

-- no key was removed from under any word, except possibly this key from under this word
abbrev TakesOne : Text → Text → Postings → Postings → Type 0
TakesOne word key old new =
    (other k : Text) → (bytes_eq word other && bytes_eq key k) ≡ false → is_one_of_keys k (keys_under old other) ≡ true
    → is_one_of_keys k (keys_under new other) ≡ true

-- a name keeps its key under each of its words
keeps_word : (old new : Postings) (rows : List Name) (word key : Text) (n : Name) → TakesOne word key old new
    → has_word (option_map (λ name. (key, name)) (find text_cmp key rows)) word ≡ false → find text_cmp n.0 rows ≡ Some n.1
    → (other : Text) → is_word_among (words n.1) other ≡ true → is_one_of_keys n.0 (keys_under old other) ≡ true → is_one_of_keys n.0 (keys_under new other) ≡ true
keeps_word old new rows word key n takes lacks found other among had = by (bytes_eq word other && bytes_eq key n.0) refl
  where
    by : (b : Bool) → (bytes_eq word other && bytes_eq key n.0) ≡ b → is_one_of_keys n.0 (keys_under new other) ≡ true
    by true same =
        let parts : (bytes_eq word other ≡ true) × (bytes_eq key n.0 ≡ true) = both (bytes_eq word other) (bytes_eq key n.0) same in
        let at : find text_cmp key rows ≡ Some n.1 = ap (λ k. find text_cmp k rows) ((bytes_decides key n.0).0 parts.1) ∙ found in
        let has : has_word (option_map (λ name. (key, name)) (find text_cmp key rows)) word ≡ true =
        ap (λ o. has_word (option_map (λ name. (key, name)) o) word) at ∙ ap (is_word_among (words n.1)) ((bytes_decides word other).0 parts.0) ∙ among in
        absurd (false≢true (sym lacks ∙ has))
    by false differs = takes other n.0 differs had

keeps_each : (old new : Postings) (rows : List Name) (word key : Text) → TakesOne word key old new
    → has_word (option_map (λ name. (key, name)) (find text_cmp key rows)) word ≡ false → (names : List Name)
    → AllByRecursion (λ (n : Name). find text_cmp n.0 rows ≡ Some n.1) names → list_all (is_noted old) names ≡ true → list_all (is_noted new) names ≡ true
keeps_each old new rows word key takes lacks [] found all = refl
keeps_each old new rows word key takes lacks (n ∷ names) found all =
    let parts : (is_noted old n ≡ true) × (list_all (is_noted old) names ≡ true) = both (is_noted old n) (list_all (is_noted old) names) all in
    joined (is_noted new n) (list_all (is_noted new) names)
    (each_of (λ w. is_one_of_keys n.0 (keys_under old w)) (λ w. is_one_of_keys n.0 (keys_under new w)) (words n.1) (keeps_word old new rows word key n takes lacks found.0) parts.0)
    (keeps_each old new rows word key takes lacks names found.1 parts.1)

-- so no key that the rows need is removed
pub forgets_one : (first old new : Postings) (rows : List Name) (word key : Text) (row : Option Name) → is_sorted text_cmp rows ≡ true
    → row ≡ option_map (λ name. (key, name)) (find text_cmp key rows) → has_word row word ≡ false → TakesFrom word key old.later new.later
    → new.first ≡ old.first → StaysFor rows first old → StaysFor rows first new
forgets_one first old new rows word key row sorted is lacks takes same before all =
    keeps_each old new rows word key takes_one (ap (λ o. has_word o word) (sym is) ∙ lacks) rows (each_found rows (subst T (sym sorted) tt)) (before all)
  where
    takes_one : TakesOne word key old new
    takes_one other k apart =
        in_both k (rising_in (get_by_word old.first other)) (keys_in (get_by_word old.later other))
        (rising_in (get_by_word new.first other)) (keys_in (get_by_word new.later other))
        (λ had. ap (λ m. is_one_of_keys k (rising_in (get_by_word m other))) same ∙ had) (takes other k apart)

pub indexed-forgot : (names : List Name) (old new : Postings) → NamesAreIndexed names old → StaysFor names old new → NamesAreIndexed names new
indexed-forgot names old new is stays = record {
  copy = is.copy;
  copy_is = is.copy_is;
  names_are = is.names_are;
  noted = stays is.noted;
}

-- a key is removed from under a word of a map
module _ (old new : BTreeMap Text (BTreeSet Text)) (word key : Text) (keys before : BTreeSet Text) where
  pub takes_updated : Updates text_cmp old new word (Some keys)
      → get_by_word old word ≡ Some before
      → ((k : Text) → is_one_of_keys k keys.keys ≡ cond (is_eq (text_cmp key k)) false (is_one_of_keys k before.keys))
      → (other k : Text) → (bytes_eq word other && bytes_eq key k) ≡ false → is_one_of_keys k (keys_in (get_by_word old other)) ≡ true
      → is_one_of_keys k (keys_in (get_by_word new other)) ≡ true
  takes_updated updates was removes other k apart had =
      ap (λ o. is_one_of_keys k (keys_in o)) (word-updated old new word (Some keys) updates other) ∙ by (bytes_eq word other) refl
    where
      by : (b : Bool) → bytes_eq word other ≡ b → is_one_of_keys k (keys_in (cond b (Some keys) (get_by_word old other))) ≡ true
      by true same =
          let there : get_by_word old other ≡ Some before = ap (get_by_word old) (sym ((bytes_decides word other).0 same)) ∙ was in
          let differs : bytes_eq key k ≡ false = sym (ap (λ b. b && bytes_eq key k) same) ∙ apart in
          removes k ∙ ap (λ b. cond b false (is_one_of_keys k before.keys)) (is_eq-slice_cmp key k ∙ differs)
          ∙ sym (ap (λ o. is_one_of_keys k (keys_in o)) there) ∙ had
      by false differs = had
