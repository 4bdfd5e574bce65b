use Rattle.std.proofs.Common.{◌≡◌, ℕ, List, Bool, true, false, cond, Option, Some, None, refl, sym, ap, ◌∙◌}
use Rattle.std.specs.Str.{IsUtf8, is_utf8}
use Rattle.std.proofs.lemmas.Str.{IsUtf8-from_is_utf8, is_utf8-from_IsUtf8}
use Rattle.search_queries.specs.Grammar.{utf8_in}
use Rattle.search_queries.proofs.grammar.text_of.Goals as goal

is_text : (bytes : List ℕ) → IsUtf8 bytes → Some bytes ≡ utf8_in bytes
is_text bytes is = let test : Bool → Option (List ℕ) = λ b. cond b (Some bytes) None in
    sym (ap test (is_utf8-from_IsUtf8 bytes is))

no_text : (bytes : List ℕ) → (IsUtf8 bytes → ⊥) → None ≡ utf8_in bytes
no_text bytes none = (by (is_utf8 bytes) (λ is. IsUtf8-from_is_utf8 bytes is)) where
  by : (test : Bool) → (test ≡ true → IsUtf8 bytes) → None ≡ cond test (Some bytes) None
  by true is = absurd (none (is refl))
  by false is = refl

pub returns-in-Ok : goal.returns-in-Ok
returns-in-Ok c = ap Some c.in-Ok.ensures.cases.0 ∙ is_text c.args.bytes.now c.in-Ok.ensures.cases.1

pub returns-in-Err : goal.returns-in-Err
returns-in-Err c = no_text c.args.bytes.now c.in-Err.ensures.cases.0
