-- What has damage isn't what a history leaves.
use Rattle.std.proofs.Common.{◌≡◌, List, [], ◌∷◌, ◌++◌, length, sym, subst, ◌∙◌, inl, inr}
use Rattle.lei_values.specs.KeptTables.{KeptTables}
use Rattle.lei_values.specs.declared.cell.KeptCell.{KeptCell}
use Rattle.upload_ledger.specs.History.{History}
use Rattle.register_history.specs.declared.damage.Damage.{Damage}
use Rattle.register_words.specs.declared.limits.Limits.{Limits}
use Rattle.register_history.specs.Damage.{CellDiffers, DamageExcludes, DifferFirst, IsEntryDamage, kept_page, made_page, page_bounds}
use Rattle.register_history.specs.Legal.{Legal, LegalAfter}
use Rattle.register_history.specs.Register.{held_after}
use Rattle.register_history.specs.State.{office_of}
use Rattle.register_history.proofs.AskedFor.{next-seq}
use Rattle.register_history.proofs.Orders.{next_at}
use Rattle.register_history.proofs.Pages.{cells-pages}
use Rattle.register_history.proofs.Stored.{held-stands}

pub entry-excludes : (limits : Limits) (entries : History) (damage : Damage) → IsEntryDamage limits entries damage → Legal (office_of limits entries) → ⊥
unfolding Legal
entry-excludes limits entries damage is legal =
    let next = next_at limits [] is.before is.rest is.next (subst (λ h. LegalAfter limits [] h) is.are legal) in
    elim is.differs [
      | inl differs ↦ differs.1 next
      | inr other ↦ other.0 (next-seq limits is.before is.next next)
    ]

tail_same : (c d : KeptCell) (a b : List KeptCell) → c ∷ a ≡ d ∷ b → a ≡ b
tail_same c d a b is = cc

head_same : (c d : KeptCell) (a b : List KeptCell) → c ∷ a ≡ d ∷ b → c ≡ d
head_same c d a b is = cc

behind : (front a b : List KeptCell) → front ++ a ≡ front ++ b → a ≡ b
behind [] a b is = is
behind (cell ∷ front) a b is = behind front a b (tail_same cell cell (front ++ a) (front ++ b) is)

same-differs : (kept made : List KeptCell) (damage : Damage) → CellDiffers kept made damage → kept ≡ made → ⊥
same-differs [] [] damage differs is = differs
same-differs [] (m ∷ made) damage differs is = cc
same-differs (k ∷ kept) [] damage differs is = cc
same-differs (k ∷ kept) (m ∷ made) damage differs is = differs.0 (head_same k m kept made is)

pub first-excludes : (kept made : List KeptCell) (damage : Damage) → DifferFirst kept made damage → kept ≡ made → ⊥
first-excludes kept made damage is same =
    same-differs is.kept_rest is.made_rest damage is.differs (behind is.front is.kept_rest is.made_rest (sym is.kept_is ∙ (same ∙ is.made_is)))

pub damage-excludes : (limits : Limits) (tables : KeptTables) → DamageExcludes limits tables
damage-excludes limits tables damage (inl is) of = entry-excludes limits tables.entries damage is of.0
damage-excludes limits tables damage (inr (legal, is)) of =
    let last = length tables.entries in
    let held = held_after limits tables.entries in
    first-excludes (kept_page tables (page_bounds last is.page)) (made_page held (page_bounds last is.page)) damage is.differs
    (cells-pages last held tables (page_bounds last is.page) (held-stands limits tables.entries legal) of.1.cells)
