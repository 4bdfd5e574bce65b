-- Names in a list of fields.
use Rattle.std.specs.Prelude.{◌≡◌, ◌+◌, List, [], ◌∷◌, length, map, if◌then◌else◌, Option, Some, None}
use Rattle.std.specs.Ordering.{is_lt, nat_cmp}
use Rattle.std.specs.Cmp.Lexicographic.{slice_cmp}
use Rattle.std.specs.List.Sorted.{IsStrictlySortedBy}
use Rattle.lei_code.specs.Texts.{Text}

-- The names of fields, each of which is a name and a text.
abbrev pub names_of_fields : List (Text × Text) → List Text
names_of_fields fields = map (λ field. field.0) fields

-- The names rise strictly in byte order, so no name occurs twice.
abbrev pub NamesRise : List (Text × Text) → Type 0
NamesRise fields = IsStrictlySortedBy (slice_cmp nat_cmp) (names_of_fields fields)

-- The lesser of two names in byte order, or the first if there is no other.
abbrev pub lesser : Text → Option Text → Text
lesser name None = name
lesser name (Some other) = if is_lt (slice_cmp nat_cmp other name) then other else name

-- The least of the names in byte order, if there are any.
abbrev pub least : List Text → Option Text
least [] = None
least (name ∷ names) = Some (lesser name (least names))

-- Texts in pairs: each a name with its text. A text that is left over is in no pair.
abbrev pub in_pairs : List Text → List (Text × Text)
in_pairs [] = []
in_pairs (name ∷ []) = []
in_pairs (name ∷ text ∷ texts) = (name, text) ∷ in_pairs texts

-- The texts are names with their texts, and none is left over. The names rise.
pub record ArePaired (texts : List Text) : Type 0 where
  pub even : length (in_pairs texts) + length (in_pairs texts) ≡ length texts
  pub rising : NamesRise (in_pairs texts)
