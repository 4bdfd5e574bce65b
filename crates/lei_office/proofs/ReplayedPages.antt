-- Pages of entries that are replayed, with a keeper that may tell its tables.
use Rattle.std.proofs.Common.{◌≡◌, ℕ, ◌≤◌, ◌&&◌, nat_le, nat_lt, true, false, cond, filter, [], ◌∷◌, ◌++◌, arith, Option, Some, None, refl, sym, ap, subst, ◌∙◌}
use Rattle.std.specs.Prelude.{IfSome}
use Rattle.std.proofs.lemmas.Bool.Decides.{nat_tests}
use Rattle.lei_values.specs.KeptTables.{AreKept, KeptTables, RiseFrom, entries_between, last_number}
use Rattle.upload_ledger.specs.History.{History}
use Rattle.register_history.specs.declared.damage.Damage.{Damage}
use Rattle.register_words.specs.declared.limits.Limits.{Limits}
use Rattle.register_history.specs.Damage.{IsEntryDamage}
use Rattle.lei_office.specs.Opening.{IsPageDamage}
use Rattle.lei_office.proofs.ComparedPages.{both-told}
use Rattle.lei_office.proofs.Leading.{all-entries, page-behind, page-damage}

-- the tables are kept, this is their last number, and this history is their entries up to a number
pub record Reached (last after : ℕ) (history : History) (tables : KeptTables) : Type 0 where
  pub kept : AreKept tables
  pub last_is : last ≡ last_number tables
  pub are : history ≡ entries_between 0 after tables

-- the first difference of a page is the first difference of all entries
pub told-damage : (limits : Limits) (after upto last : ℕ) (before page : History) (damage : Damage) (told : Option KeptTables) → after ≤ upto → upto ≤ last
    → IfSome told (Reached last after before) → IfSome told (λ t. page ≡ entries_between after upto t) → IsPageDamage limits before page upto damage
    → IfSome told (λ t. IsEntryDamage limits t.entries damage)
told-damage limits after upto last before page damage told up most reached is_page is =
    both-told (Reached last after before) (λ t. page ≡ entries_between after upto t) (λ t. IsEntryDamage limits t.entries damage) told
    (λ t r p. page-damage limits after upto last before t damage r.kept r.last_is up most r.are (subst (λ l. IsPageDamage limits before l upto damage) p is)) reached is_page

-- one more page was replayed
pub told-more : (after upto last : ℕ) (before page later : History) (told : Option KeptTables) → after ≤ upto → IfSome told (Reached last after before)
    → IfSome told (λ t. page ≡ entries_between after upto t) → later ≡ before ++ page → IfSome told (Reached last upto later)
told-more after upto last before page later told up reached is_page grown =
    both-told (Reached last after before) (λ t. page ≡ entries_between after upto t) (Reached last upto later) told
    (λ t r p. record {
      kept = r.kept;
      last_is = r.last_is;
      are = grown ∙ (ap (λ h. h ++ page) r.are ∙ (ap (λ l. entries_between 0 after t ++ l) p ∙ sym (page-behind after upto t r.kept up)));
    }) reached is_page

-- all pages were replayed
pub told-all : (last : ℕ) (history : History) (told : Option KeptTables) → IfSome told (Reached last last history) → IfSome told (λ t. t.entries ≡ history)
told-all last history None reached = tt
told-all last history (Some t) reached =
    sym (all-entries t reached.kept) ∙ (ap (λ n. entries_between 0 n t) (sym reached.last_is) ∙ sym reached.are)

-- nothing was replayed yet
none-between : (m : ℕ) (es : History) → RiseFrom m es → filter (λ e. nat_lt 0 e.seq && nat_le e.seq 0) es ≡ []
none-between m [] rise = refl
none-between m (e ∷ es) rise =
    let more = rise.0 in
    let late : nat_le e.seq 0 ≡ false = grind (arith, nat_tests) in
    rw late (elim (nat_lt 0 e.seq) as (λ b. cond (b && false) (e ∷ filter (λ e. nat_lt 0 e.seq && nat_le e.seq 0) es) (filter (λ e. nat_lt 0 e.seq && nat_le e.seq 0) es) ≡ []) [
      | true ↦ none-between e.seq es rise.1
      | false ↦ none-between e.seq es rise.1
    ])

pub told-first : (last : ℕ) (history : History) (told : Option KeptTables) → history ≡ [] → IfSome told AreKept → IfSome told (λ t. last ≡ last_number t) → IfSome told (Reached last 0 history)
told-first last history told empty kept is_last =
    both-told AreKept (λ t. last ≡ last_number t) (Reached last 0 history) told
    (λ t k l. record { kept = k; last_is = l; are = empty ∙ sym (none-between 0 t.entries k.entries) }) kept is_last
