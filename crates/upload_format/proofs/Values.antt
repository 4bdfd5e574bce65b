-- The value of a body's bytes.
use Rattle.std.proofs.Common.{◌≡◌, ℕ, List, Bool, true, false, Option, Some, None, Ok, Err, refl, cond}
use Rattle.std.specs.Str.{IsUtf8, is_utf8}
use Rattle.std.proofs.lemmas.Str.{is_utf8-from_IsUtf8, IsUtf8-from_is_utf8}
use Rattle.serde_json.specs.Data.{Data}
use Rattle.serde_json.specs.Read.{read}
use Rattle.register_words.specs.declared.malformed.Malformed.TheVariants.{NotJson}
use Rattle.upload_format.specs.Bodies.{value_of, or_no_json}

pub value_of-read : (body : List ℕ) (value : Data) → IsUtf8 body → read body ≡ Some value → or_no_json (value_of body) ≡ Ok value
unfolding value_of
value_of-read body value utf8 is = rw (is_utf8-from_IsUtf8 body utf8, is) refl

none_if : (b : Bool) (found : Option Data) → (b ≡ true → found ≡ None) → or_no_json (cond b found None) ≡ Err NotJson
none_if true found h = rw (h refl) refl
none_if false found h = refl

pub value_of-refused : (body : List ℕ) → (IsUtf8 body → read body ≡ None) → or_no_json (value_of body) ≡ Err NotJson
unfolding value_of
value_of-refused body h = none_if (is_utf8 body) (read body) (λ e. h (IsUtf8-from_is_utf8 body e))
