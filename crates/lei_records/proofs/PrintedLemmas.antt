-- Moments that were read while a row was built.
use Rattle.std.proofs.Common.{◌≡◌, ℕ, ℤ, ◌-◌, ◌<◌, ◌≤◌, zero, suc, List, [], ◌∷◌, false, length, get_or, Option, None, Some, refl, ap, subst, ◌∙◌, arith}
use Rattle.std.specs.Prelude.{◌==◌, IfSome}
use Rattle.std.proofs.lemmas.Bool.Decides.{nat_tests}
use Rattle.lei_shapes.specs.Moment.{read_moment}
use Rattle.lei_records.specs.Parts.{MomentsAreRead}
use Rattle.lei_records.specs.Rows.{Row, text_at}
use Rattle.lei_records.specs.Spelled.{moment_in}

get_or-any : {X : Type 0} (xs : List X) (i : ℕ) (d e : X) → i < length xs → get_or xs i d ≡ get_or xs i e
get_or-any [] i d e within = absurd (omega arith)
get_or-any (x ∷ xs) zero d e within = refl
get_or-any (x ∷ xs) (suc i) d e within = get_or-any xs i d e (omega arith)

found_by : (text : List ℕ) (found : Option ℤ) → ((moment : ℤ) → found ≡ Some moment → read_moment text ≡ Some moment) → IfSome found (λ moment. read_moment text ≡ Some moment)
found_by text None reads = tt
found_by text (Some moment) reads = reads moment refl

text_at-inside : (row : Row) (place : ℕ) → 1 ≤ place → text_at row place ≡ get_or row (place - 1) []
text_at-inside row place first =
    let other : (place == 0) ≡ false = grind (arith, nat_tests) in
    rw other refl

-- the moment that is kept for a place is what the text there reads as
pub read_at-place : (row : Row) (seen : Row) (moments : List (Option ℤ)) (place : ℕ) (d : Option ℤ) → seen ≡ row → MomentsAreRead row moments → 1 ≤ place → place ≤ length seen → place - 1 < length moments
    → IfSome (get_or moments (place - 1) d) (λ moment. read_moment (text_at seen place) ≡ Some moment)
read_at-place row seen moments place d same read first last within =
    found_by (text_at seen place) (get_or moments (place - 1) d)
    (λ moment is. ap read_moment (ap (λ r. text_at r place) same ∙ text_at-inside row place first)
    ∙ read (place - 1) moment (omega (arith, first, subst (λ r. place ≤ length r) same last)) (get_or-any moments (place - 1) None d within ∙ is))

pub moment_in-read : (row : Row) (place : ℕ) (moment : ℤ) → read_moment (text_at row place) ≡ Some moment → moment ≡ moment_in row place
unfolding moment_in
moment_in-read row place moment is = rw is refl
