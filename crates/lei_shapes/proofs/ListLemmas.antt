-- What holds for every table of values and their texts.
use Rattle.std.proofs.Common.{◌≡◌, ◌≢◌, ℕ, Bool, true, false, List, [], ◌∷◌, Option, None, Some, Decides, refl, sym, ap, ◌∙◌}
use Rattle.std.specs.Prelude.{bytes_eq}
use Rattle.std.proofs.lemmas.Slice.Eq.{bytes_eq-Decides}
use Rattle.lei_shapes.specs.Lists.{value_named}

fails : (b : Bool) (P : Type 0) → Decides b P → (P → ⊥) → b ≡ false
fails true P decides never = absurd (never (decides.0 refl))
fails false P decides never = refl

-- if no value has the text, none is named
pub value_named-none : {V : Type 0} (text_of : V → List ℕ) (values : List V) (text : List ℕ) → ((v : V) → text_of v ≢ text) → None ≡ value_named text_of values text
value_named-none text_of [] text apart = refl
value_named-none text_of (v ∷ values) text apart =
    rw (fails (bytes_eq (text_of v) text) (text_of v ≡ text) (bytes_eq-Decides (text_of v) text) (apart v)) (value_named-none text_of values text apart)

-- if each value's text names it, two values have different texts
pub texts_apart : {V : Type 0} (text_of : V → List ℕ) (named_by : List ℕ → Option V) → ((v : V) → named_by (text_of v) ≡ Some v) → (a b : V) → text_of a ≡ text_of b → a ≡ b
texts_apart text_of named_by back a b same =
    let both : Some a ≡ Some b = sym (back a) ∙ ap named_by same ∙ back b in
    cc
