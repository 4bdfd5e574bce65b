-- Pages of cells that are compared, with a keeper that may tell its tables.
use Rattle.std.proofs.Common.{◌≡◌, ℕ, ◌≤◌, ◌+◌, ◌*◌, Bool, true, false, nat_lt, List, Option, Some, None, refl, sym, subst, ◌∙◌, arith}
use Rattle.std.proofs.lemmas.Bool.{ltb-false, ltb-true}
use Rattle.std.specs.Prelude.{IfSome}
use Rattle.lei_values.specs.KeptTables.{AreKept, KeptTables, cells_between}
use Rattle.lei_keeper.specs.Keeping.{LeavesNoMore, TablesStay}
use Rattle.lei_values.specs.declared.cell.KeptCell.{KeptCell}
use Rattle.register_table.specs.Held.{Held}
use Rattle.register_history.specs.declared.damage.Damage.{Damage}
use Rattle.register_history.specs.Damage.{IsCellDamage, kept_page, made_page, page_bounds}
use Rattle.register_history.specs.Kept.{AreCellsOf}
use Rattle.lei_office.specs.Opening.{Compares}
use Rattle.register_history.specs.Standing.{AreRowCells}
use Rattle.register_history.proofs.Pages.{PagesAgree, pages-cells}

compares_so : (kept kept' made made' : List KeptCell) (found : Option Damage) → kept ≡ kept' → made ≡ made' → Compares kept made found → Compares kept' made' found
compares_so kept kept' made made' found of_kept of_made is = subst (λ l. Compares l made' found) of_kept (subst (λ l. Compares kept l found) of_made is)

-- what was found in a page
pub page-compares : (told : Option KeptTables) (held : Held) (bounds : ℕ × ℕ) (kept made : List KeptCell) (found : Option Damage) → IfSome told (λ t. kept ≡ cells_between bounds.0 bounds.1 t)
    → made ≡ made_page held bounds → Compares kept made found → IfSome told (λ t. Compares (kept_page t bounds) (made_page held bounds) found)
page-compares None held bounds kept made found of_kept of_made is = tt
page-compares (Some tables) held bounds kept made found of_kept of_made is = compares_so kept (kept_page tables bounds) made (made_page held bounds) found of_kept of_made is

-- ---- one more call of a keeper

pub stays-join : (a b c : Option KeptTables) → TablesStay a b → TablesStay b c → TablesStay a c
stays-join None None None first second = tt
stays-join None None (Some c) first second = absurd second
stays-join None (Some b) c first second = absurd first
stays-join (Some a) None None first second = tt
stays-join (Some a) None (Some c) first second = absurd second
stays-join (Some a) (Some b) None first second = tt
stays-join (Some a) (Some b) (Some c) first second = second ∙ first

pub stays-itself : (a : Option KeptTables) → TablesStay a a
stays-itself None = tt
stays-itself (Some a) = refl

pub leaves-join : (a b c : Option KeptTables → Type 0) → LeavesNoMore a b → LeavesNoMore b c → LeavesNoMore a c
leaves-join a b c first second left is = first left (second left is)

pub stays-told : (P : KeptTables → Type 0) (old new : Option KeptTables) → TablesStay old new → IfSome old P → IfSome new P
stays-told P None None stays is = tt
stays-told P None (Some new) stays is = absurd stays
stays-told P (Some old) None stays is = tt
stays-told P (Some old) (Some new) stays is = subst P (sym stays) is

pub both-told : (P Q R : KeptTables → Type 0) (told : Option KeptTables) → ((tables : KeptTables) → P tables → Q tables → R tables) → IfSome told P → IfSome told Q → IfSome told R
both-told P Q R None join p q = tt
both-told P Q R (Some tables) join p q = join tables p q

-- ---- page after page

-- one more page is the same
more-agree : (last n : ℕ) (held : Held) (tables : KeptTables) → PagesAgree last held tables n → kept_page tables (page_bounds last n) ≡ made_page held (page_bounds last n)
    → PagesAgree last held tables (n + 1)
more-agree last n held tables agree is k below = by_order (nat_lt k n) refl
  where
    by_order : (b : Bool) → nat_lt k n ≡ b → kept_page tables (page_bounds last k) ≡ made_page held (page_bounds last k)
    by_order true less = agree k (ltb-true k n less)
    by_order false more =
        let from = ltb-false k n more in
        let same : k ≡ n = omega (arith, from, below) in
        subst (λ m. kept_page tables (page_bounds last m) ≡ made_page held (page_bounds last m)) (sym same) is

pub page-agrees : (last n : ℕ) (held : Held) (old new : Option KeptTables) → TablesStay old new → IfSome old (λ t. PagesAgree last held t n)
    → IfSome new (λ t. Compares (kept_page t (page_bounds last n)) (made_page held (page_bounds last n)) None) → IfSome new (λ t. PagesAgree last held t (n + 1))
page-agrees last n held old new stays agree is =
    both-told (λ t. PagesAgree last held t n) (λ t. Compares (kept_page t (page_bounds last n)) (made_page held (page_bounds last n)) None) (λ t. PagesAgree last held t (n + 1)) new
    (λ t earlier same. more-agree last n held t earlier same) (stays-told (λ t. PagesAgree last held t n) old new stays agree) is

pub page-differs : (last n : ℕ) (held : Held) (old new : Option KeptTables) (damage : Damage) → TablesStay old new → IfSome old (λ t. PagesAgree last held t n)
    → IfSome new (λ t. Compares (kept_page t (page_bounds last n)) (made_page held (page_bounds last n)) (Some damage)) → IfSome new (λ t. IsCellDamage last held t damage)
page-differs last n held old new damage stays agree is =
    both-told (λ t. PagesAgree last held t n) (λ t. Compares (kept_page t (page_bounds last n)) (made_page held (page_bounds last n)) (Some damage)) (λ t. IsCellDamage last held t damage) new
    (λ t earlier differs. record { page = n; earlier = earlier; differs = differs }) (stays-told (λ t. PagesAgree last held t n) old new stays agree) is

-- all pages are the same
pub all-agree : (last n : ℕ) (held : Held) (told : Option KeptTables) → last ≤ 10000000 → last ≤ 16 * n → AreRowCells last held → IfSome told AreKept → IfSome told (λ t. PagesAgree last held t (n + 1))
    → IfSome told (λ t. AreCellsOf held t.cells)
all-agree last n held told few all stand kept agree =
    both-told AreKept (λ t. PagesAgree last held t (n + 1)) (λ t. AreCellsOf held t.cells) told
    (λ t is same. pages-cells last n held t stand is.cells all (omega (arith, few)) same) kept agree
