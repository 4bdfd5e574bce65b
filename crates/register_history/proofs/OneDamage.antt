-- There is one first difference.
use Rattle.std.proofs.Common.{◌≡◌, ◌⊎◌, ℕ, ◌+◌, ◌<◌, List, [], ◌∷◌, ◌++◌, length, drop, inl, inr, refl, sym, ap, subst, append_assoc, ◌∙◌, arith}
use Rattle.std.proofs.Math.Seq.{drop-append_seam}
use Rattle.std.proofs.lemmas.Bool.Decides.{eqb_tells, leb_tells}
use Rattle.lei_values.specs.KeptTables.{KeptTables}
use Rattle.lei_values.specs.declared.entry.KeptEntry.{KeptEntry}
use Rattle.lei_values.specs.declared.cell.KeptCell.{KeptCell}
use Rattle.register_table.specs.Held.{Held}
use Rattle.upload_ledger.specs.History.{History}
use Rattle.register_history.specs.declared.damage.Damage.{Damage}
use Rattle.register_words.specs.declared.limits.Limits.{Limits}
use Rattle.register_history.specs.Damage.{CellDiffers, DamageIsOne, DifferFirst, EntryDiffers, IsCellDamage, IsEntryDamage, kept_page, made_page, page_bounds}
use Rattle.register_history.specs.Legal.{Legal}
use Rattle.register_history.specs.Register.{held_after}
use Rattle.register_history.specs.State.{OfficeState, office_of}
use Rattle.register_history.proofs.Excluding.{entry-excludes, first-excludes}

-- ---- fronts of one list

head_same : {X : Type 0} (x y : X) (xs ys : List X) → x ∷ xs ≡ y ∷ ys → x ≡ y
head_same x y xs ys is = cc

tail_same : {X : Type 0} (x y : X) (xs ys : List X) → x ∷ xs ≡ y ∷ ys → xs ≡ ys
tail_same x y xs ys is = cc

-- lists with the same front differ after it
behind : {X : Type 0} (front a b : List X) → front ++ a ≡ front ++ b → a ≡ b
behind front a b is = sym (drop-append_seam front a) ∙ ap (drop (length front)) is ∙ drop-append_seam front b

-- the second list continues the first
record GoesOn {X : Type 0} (front longer : List X) : Type 0 where
  next : X
  others : List X
  are : longer ≡ front ++ next ∷ others

on-cons : {X : Type 0} (x y : X) (front longer : List X) → x ≡ y → GoesOn front longer → GoesOn (x ∷ front) (y ∷ longer)
on-cons x y front longer same on = record { next = on.next; others = on.others; are = λ i. sym same i ∷ on.are i }

-- two fronts of one list are equal, or one continues the other
fronts : {X : Type 0} (f g a b : List X) → f ++ a ≡ g ++ b → (f ≡ g) ⊎ GoesOn f g ⊎ GoesOn g f
fronts [] [] a b is = inl refl
fronts [] (y ∷ g) a b is = inr (inl (record { next = y; others = g; are = refl }))
fronts (x ∷ f) [] a b is = inr (inr (record { next = x; others = f; are = refl }))
fronts (x ∷ f) (y ∷ g) a b is =
    let one = head_same x y (f ++ a) (g ++ b) is in
    elim (fronts f g a b (tail_same x y (f ++ a) (g ++ b) is)) [
      | inl same ↦ inl (λ i. one i ∷ same i)
      | inr (inl on) ↦ inr (inl (on-cons x y f g one on))
      | inr (inr on) ↦ inr (inr (on-cons y x g f (sym one) on))
    ]

-- what follows a front, if another list with that front continues it
goes-on : {X : Type 0} (f g a b : List X) (on : GoesOn f g) → f ++ a ≡ g ++ b → a ≡ on.next ∷ on.others ++ b
goes-on f g a b on is = behind f a (on.next ∷ on.others ++ b) (is ∙ ap (λ l. l ++ b) on.are ∙ append_assoc f (on.next ∷ on.others) b)

-- ---- entries

-- a legal history has no first entry that differs
no-longer : (limits : Limits) (entries other : History) (damage : Damage) (is : IsEntryDamage limits entries damage) (rest : History) → other ++ rest ≡ entries → GoesOn is.before other
    → Legal (office_of limits other) → ⊥
no-longer limits entries other damage is rest are on legal =
    let behind_it = goes-on is.before other (is.next ∷ is.rest) rest on (sym is.are ∙ sym are) in
    let first : on.next ≡ is.next = sym (head_same is.next on.next is.rest (on.others ++ rest) behind_it) in
    let within : IsEntryDamage limits other damage = record {
      before = is.before;
      next = is.next;
      rest = on.others;
      are = on.are ∙ ap (λ e. is.before ++ e ∷ on.others) first;
      legal = is.legal;
      differs = is.differs;
    } in
    entry-excludes limits other damage within legal

differs-one : (office : OfficeState) (number : ℕ) (e : KeptEntry) (one other : Damage) → EntryDiffers office number e one → EntryDiffers office number e other → one ≡ other
differs-one office number e one other (inl a) (inl b) = a.2 ∙ sym b.2
differs-one office number e one other (inl a) (inr b) = absurd (b.0 a.0)
differs-one office number e one other (inr a) (inl b) = absurd (a.0 b.0)
differs-one office number e one other (inr a) (inr b) = a.1 ∙ sym b.1

entry-one : (limits : Limits) (entries : History) (one other : Damage) → IsEntryDamage limits entries one → IsEntryDamage limits entries other → one ≡ other
entry-one limits entries one other is of = elim (fronts is.before of.before (is.next ∷ is.rest) (of.next ∷ of.rest) (sym is.are ∙ of.are)) [
  | inl same ↦
      let rest : is.next ∷ is.rest ≡ of.next ∷ of.rest = behind is.before (is.next ∷ is.rest) (of.next ∷ of.rest) (sym is.are ∙ of.are ∙ ap (λ h. h ++ of.next ∷ of.rest) (sym same)) in
      let next = head_same is.next of.next is.rest of.rest rest in
      let E : History → KeptEntry → Type 0 = λ h e. EntryDiffers (office_of limits h) (length h + 1) e other in
      let moved : E is.before is.next = subst (E is.before) (sym next) (subst (λ h. E h of.next) (sym same) of.differs) in
      differs-one (office_of limits is.before) (length is.before + 1) is.next one other is.differs moved
  | inr (inl on) ↦ absurd (no-longer limits entries of.before one is (of.next ∷ of.rest) (sym of.are) on of.legal)
  | inr (inr on) ↦ absurd (no-longer limits entries is.before other of (is.next ∷ is.rest) (sym is.are) on is.legal)
]

-- ---- cells

cells-one : (kept made : List KeptCell) (one other : Damage) → CellDiffers kept made one → CellDiffers kept made other → one ≡ other
cells-one [] [] one other is of = absurd is
cells-one [] (m ∷ made) one other is of = is ∙ sym of
cells-one (k ∷ kept) [] one other is of = is ∙ sym of
cells-one (k ∷ kept) (m ∷ made) one other is of = is.1 ∙ sym of.1

-- as long as a cell is the same on both sides, nothing differs yet
same-cell : (cell : KeptCell) (kept made kept_rest made_rest : List KeptCell) (damage : Damage) → kept ≡ cell ∷ kept_rest → made ≡ cell ∷ made_rest → CellDiffers kept made damage → ⊥
same-cell cell kept made kept_rest made_rest damage of_kept of_made differs =
    let D : List KeptCell → List KeptCell → Type 0 = λ k m. CellDiffers k m damage in
    let moved : D (cell ∷ kept_rest) (cell ∷ made_rest) = subst (D (cell ∷ kept_rest)) of_made (subst (λ k. D k made) of_kept differs) in
    moved.0 refl

no-further : (kept made : List KeptCell) (one other : Damage) (is : DifferFirst kept made one) (of : DifferFirst kept made other) → GoesOn is.front of.front → ⊥
no-further kept made one other is of on =
    same-cell on.next is.kept_rest is.made_rest (on.others ++ of.kept_rest) (on.others ++ of.made_rest) one
    (goes-on is.front of.front is.kept_rest of.kept_rest on (sym is.kept_is ∙ of.kept_is)) (goes-on is.front of.front is.made_rest of.made_rest on (sym is.made_is ∙ of.made_is)) is.differs

first-one : (kept made : List KeptCell) (one other : Damage) → DifferFirst kept made one → DifferFirst kept made other → one ≡ other
first-one kept made one other is of = elim (fronts is.front of.front is.kept_rest of.kept_rest (sym is.kept_is ∙ of.kept_is)) [
  | inl same ↦
      let kept_rest : is.kept_rest ≡ of.kept_rest = behind is.front is.kept_rest of.kept_rest (sym is.kept_is ∙ of.kept_is ∙ ap (λ f. f ++ of.kept_rest) (sym same)) in
      let made_rest : is.made_rest ≡ of.made_rest = behind is.front is.made_rest of.made_rest (sym is.made_is ∙ of.made_is ∙ ap (λ f. f ++ of.made_rest) (sym same)) in
      let D : List KeptCell → List KeptCell → Type 0 = λ k m. CellDiffers k m other in
      let moved : D is.kept_rest is.made_rest = subst (D is.kept_rest) (sym made_rest) (subst (λ k. D k of.made_rest) (sym kept_rest) of.differs) in
      cells-one is.kept_rest is.made_rest one other is.differs moved
  | inr (inl on) ↦ absurd (no-further kept made one other is of on)
  | inr (inr on) ↦ absurd (no-further kept made other one of is on)
]

-- no page before that of a difference has a difference
no-earlier : (last : ℕ) (held : Held) (tables : KeptTables) (one other : Damage) (is : IsCellDamage last held tables one) (of : IsCellDamage last held tables other) → is.page < of.page → ⊥
no-earlier last held tables one other is of below =
    first-excludes (kept_page tables (page_bounds last is.page)) (made_page held (page_bounds last is.page)) one is.differs (of.earlier is.page below)

cell-one : (last : ℕ) (held : Held) (tables : KeptTables) (one other : Damage) → IsCellDamage last held tables one → IsCellDamage last held tables other → one ≡ other
cell-one last held tables one other is of = elim (eqb_tells is.page of.page) [
  | inl same ↦
      let D : ℕ → Type 0 = λ page. DifferFirst (kept_page tables (page_bounds last page)) (made_page held (page_bounds last page)) other in
      first-one (kept_page tables (page_bounds last is.page)) (made_page held (page_bounds last is.page)) one other is.differs (subst D (sym same.1) of.differs)
  | inr apart ↦ elim (leb_tells is.page of.page) [
    | inl most ↦ absurd (no-earlier last held tables one other is of (omega (arith, most.1, apart.1)))
    | inr above ↦ absurd (no-earlier last held tables other one of is (omega (arith, above.1)))
  ]
]

pub one-damage : (limits : Limits) (tables : KeptTables) → DamageIsOne limits tables
one-damage limits tables one other (inl is) (inl of) = entry-one limits tables.entries one other is of
one-damage limits tables one other (inl is) (inr (legal, of)) = absurd (entry-excludes limits tables.entries one is legal)
one-damage limits tables one other (inr (legal, is)) (inl of) = absurd (entry-excludes limits tables.entries other of legal)
one-damage limits tables one other (inr (legal, is)) (inr of) = cell-one (length tables.entries) (held_after limits tables.entries) tables one other is of.1
