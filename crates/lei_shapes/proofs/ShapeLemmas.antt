-- Free texts of ASCII.
use Rattle.std.proofs.Common.{◌≡◌, ℕ, List, [], ◌∷◌, Bool, true, false, ◌||◌, length, refl, ◌∙◌}
use Rattle.std.specs.Prelude.{◌&&◌, IsAscii, not}
use Rattle.std.specs.Char.{is_control}
use Rattle.std.specs.Int.{is_in_range}
use Rattle.std.specs.List.{fold, list_any}
use Rattle.std.proofs.lemmas.Str.{chars-IsAscii}
use Rattle.lei_shapes.specs.Shape.{is_free}

-- the bytes of an ASCII text are its characters
pub is_free-ascii : (text : List ℕ) → IsAscii text → is_free text ≡ (is_in_range 1 500 (length text) && not (list_any is_control text))
is_free-ascii text h = rw (chars-IsAscii text h) refl

pub ruleset free_ascii = (is_free-ascii)

or_right : (a : Bool) → a ≡ a || false
or_right true = refl
or_right false = refl

or_assoc : (a b c : Bool) → (a || b) || c ≡ a || (b || c)
or_assoc true b c = refl
or_assoc false b c = refl

-- whether one was found before, or is among the rest
pub fold_any : {X : Type 0} (p : X → Bool) (found : Bool) (xs : List X) → fold (λ a x. a || p x) found xs ≡ (found || list_any p xs)
fold_any p found [] = or_right found
fold_any p found (x ∷ xs) = fold_any p (found || p x) xs ∙ or_assoc found (p x) (list_any p xs)
