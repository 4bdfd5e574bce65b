-- Keys of rows, in byte order.
use Rattle.std.specs.Prelude.{◌≡◌, Bool, List, Option, true}
use Rattle.std.specs.BTreeMap.{BTreeMap, get}
use Rattle.std.specs.Cmp.Lexicographic.{slice_cmp}
use Rattle.std.specs.List.{list_any}
use Rattle.std.specs.Ordering.{eq_by_cmp, nat_cmp}
use Rattle.std.specs.declared.cmp.Ordering.{Ordering}
use Rattle.lei_code.specs.Texts.{Text}

-- Byte order of texts.
abbrev pub text_cmp : Text → Text → Ordering
text_cmp = slice_cmp nat_cmp

-- What a map has under a word.
abbrev pub get_by_word : {X : Type 0} → BTreeMap Text X → Text → Option X
get_by_word map word = get text_cmp map word

-- A key is one of these.
abbrev pub is_one_of_keys : Text → List Text → Bool
is_one_of_keys key keys = list_any (eq_by_cmp text_cmp key) keys

-- Each of these keys is one of those.
abbrev pub AreKeysOf : List Text → List Text → Type 0
AreKeysOf these those = (key : Text) → is_one_of_keys key these ≡ true → is_one_of_keys key those ≡ true
