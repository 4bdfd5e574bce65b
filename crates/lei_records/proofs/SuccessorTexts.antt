-- The LEIs in the text of a record's successors, read one after another.
use Rattle.std.proofs.Common.{◌≡◌, ◌<◌, ℕ, List, [], ◌∷◌, ◌++◌, length, get_or, sym, ap, subst, ◌∙◌, arith}
use Rattle.std.proofs.Math.Seq.{get_or-append_seam}
use Rattle.std.proofs.lemmas.List.{length-append}
use Rattle.lei_code.specs.Code.{IsValid}
use Rattle.lei_shapes.specs.Shape.{between_spaces}
use Rattle.lei_records.specs.Spelled.{AreCodes}

-- the next one is an LEI
pub next_valid : (text code : List ℕ) (codes behind : List (List ℕ)) → AreCodes text → codes ++ code ∷ behind ≡ between_spaces text → IsValid code
next_valid text code codes behind are is =
    subst IsValid (ap (λ texts. get_or texts (length codes) []) (sym is) ∙ get_or-append_seam codes code behind [])
    (are.valid (length codes) [] (subst (λ (texts : List (List ℕ)). length codes < length texts) is (omega (arith, length-append codes (code ∷ behind)))))

-- there is room for it
pub next_fits : (text code : List ℕ) (codes behind : List (List ℕ)) → AreCodes text → codes ++ code ∷ behind ≡ between_spaces text → length codes < 5
next_fits text code codes behind are is = omega (arith, are.few, ap length is, length-append codes (code ∷ behind))
