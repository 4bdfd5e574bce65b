-- For each word, the keys of the rows whose names have it, and a walk over the keys of one word instead of all names.
use Rattle.std.specs.Prelude.{◌≡◌, ◌++◌, ◌&&◌, Bool, true, false, Option, None, Some, List, [], ◌∷◌, flat_map, map, if◌then◌else◌}
use Rattle.std.specs.BTreeMap.{BTreeMap}
use Rattle.std.specs.BTreeSet.{BTreeSet}
use Rattle.std.specs.FinMap.Entries.{find}
use Rattle.std.specs.List.{list_all}
use Rattle.std.specs.Str.{bytes_eq}
use Rattle.lei_code.specs.Texts.{Text}
use Rattle.register_words.specs.declared.sheets.Sheet.{Sheet}
use Rattle.copy_csv.specs.Rows.{AreRows}
use Rattle.copy_csv.specs.Sheets.{SheetRow}
use Rattle.name_search.specs.declared.postings.Postings.{Postings}
use Rattle.name_search.specs.Keys.{AreKeysOf, get_by_word, is_one_of_keys, text_cmp}
use Rattle.name_search.specs.NameTables.{Name, key_and_name}
use Rattle.name_search.specs.Searching.{is_word_among}
use Rattle.name_search.specs.Words.{words}

-- ---- what is noted

-- The keys of a list, if there is one.
abbrev pub rising_in : Option (List Text) → List Text
rising_in None = []
rising_in (Some keys) = keys

-- The keys of a set, if there is one.
abbrev pub keys_in : Option (BTreeSet Text) → List Text
keys_in None = []
keys_in (Some keys) = keys.keys

-- The keys that are noted under a word: those of its list, and those of its set.
abbrev pub keys_under : Postings → Text → List Text
keys_under postings word = rising_in (get_by_word postings.first word) ++ keys_in (get_by_word postings.later word)

-- The keys that a map of lists has under a word stay there.
abbrev pub FirstStays : BTreeMap Text (List Text) → BTreeMap Text (List Text) → Type 0
FirstStays old new = (word : Text) → AreKeysOf (rising_in (get_by_word old word)) (rising_in (get_by_word new word))

-- The keys that a map of sets has under a word stay there.
abbrev pub LaterStays : BTreeMap Text (BTreeSet Text) → BTreeMap Text (BTreeSet Text) → Type 0
LaterStays old new = (word : Text) → AreKeysOf (keys_in (get_by_word old word)) (keys_in (get_by_word new word))

-- The key of a name is noted under each of its words.
abbrev pub is_noted : Postings → Name → Bool
is_noted postings name = list_all (λ word. is_one_of_keys name.0 (keys_under postings word)) (words name.1)

-- There is a name, and it has a word.
abbrev pub has_word : Option Name → Text → Bool
has_word None word = false
has_word (Some name) word = is_word_among (words name.1) word

-- What is noted in the old postings is noted in the new ones.
abbrev pub NotesStay : Postings → Postings → Type 0
NotesStay old new = (word key : Text) → is_one_of_keys key (keys_under old word) ≡ true
    → is_one_of_keys key (keys_under new word) ≡ true

-- If all of these names are noted in the old postings, they are noted in the new ones.
abbrev pub StaysFor : List Name → Postings → Postings → Type 0
StaysFor names old new = list_all (is_noted old) names ≡ true → list_all (is_noted new) names ≡ true

-- No key was removed from any set, except possibly this key from this word's set.
abbrev pub TakesFrom : Text → Text → BTreeMap Text (BTreeSet Text)
    → BTreeMap Text (BTreeSet Text) → Type 0
TakesFrom word key old new =
    (other k : Text) → (bytes_eq word other && bytes_eq key k) ≡ false
    → is_one_of_keys k (keys_in (get_by_word old other)) ≡ true
    → is_one_of_keys k (keys_in (get_by_word new other)) ≡ true

-- The names are those of a copy's rows, and each is noted.
pub record NamesAreIndexed (names : List Name) (postings : Postings) : Type 0 where
  pub copy : List SheetRow
  pub copy_is : AreRows Sheet.Lei copy
  pub names_are : names ≡ map key_and_name copy
  pub noted : list_all (is_noted postings) names ≡ true

-- ---- a walk

-- The name under a key, if there is one and it passes a test.
abbrev pub hits : (Name → Bool) → Text → Option Text → List Name
hits test key None = []
hits test key (Some name) = if test (key, name) then (key, name) ∷ [] else []

-- The names under these keys that pass a test.
abbrev pub walk_keys : (Name → Bool) → List Name → List Text → List Name
walk_keys test names keys = flat_map (λ key. hits test key (find text_cmp key names)) keys

-- The keys are those of all names that pass a test, and maybe others.
abbrev pub Covers : (Name → Bool) → List Name → List Text → Type 0
Covers test names keys =
    (key name : Text) → find text_cmp key names ≡ Some name → test (key, name) ≡ true → is_one_of_keys key keys ≡ true
