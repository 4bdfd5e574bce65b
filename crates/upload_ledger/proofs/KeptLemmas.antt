-- What is kept alongside the entries, after room was made and after an entry was added.
use Rattle.std.proofs.Common.{◌≡◌, ℕ, ◌+◌, ◌≤◌, List, [], ◌∷◌, ◌++◌, length, filter, Bool, true, false, cond, Option, Some, None, option_map, refl, sym, ap, ◌∙◌, subst, arith, length-append}
use Rattle.std.specs.Vec.{vec_len, vec_capacity}
use Rattle.std.proofs.lemmas.List.Elements.{filter-append}
use Rattle.std.proofs.lemmas.List.Sums.{sum_by-append, length-filter, count_by-le-length}
use Rattle.lei_values.specs.declared.entry.KeptEntry.{KeptEntry}
use Rattle.upload_ledger.specs.declared.ledger.Ledger.TheInside.{Inside}
use Rattle.upload_ledger.specs.History.{History, is_accreditation, is_publication, kept_bytes}
use Rattle.upload_ledger.specs.Index.{ArePlaces, IsIndex, IsSameIndex}
use Rattle.upload_ledger.specs.Ledgers.{IsLedger, IsRoomFor}
use Rattle.upload_ledger.specs.Limits.{AreFew}
use Rattle.upload_ledger.specs.State.{LedgerState}
use Rattle.upload_ledger.specs.contracts.ledger.Ledger.{the_view as view_of}
use Rattle.upload_ledger.proofs.IndexLemmas.{index-same}
use Rattle.upload_ledger.proofs.PlaceLemmas.{places-length, places-push}

pub filter-few : (test : KeptEntry → Bool) (history : History) → length (filter test history) ≤ length history
filter-few test history = omega (arith, length-filter test history, count_by-le-length test history)

-- at most as many places as entries
pub places-few : (test : KeptEntry → Bool) (history : History) (places : List ℕ) → ArePlaces test history places → AreFew history → length places ≤ 10000000
places-few test history places are few = omega (arith, places-length test history places are, filter-few test history, few.entries)

-- ---- room

-- what had room still has it
pub room-stays : (old new : Inside) (room : Option (List ℕ)) → vec_len new.entries ≡ vec_len old.entries → vec_capacity old.entries ≤ vec_capacity new.entries
    → vec_len new.publications ≡ vec_len old.publications → vec_capacity old.publications ≤ vec_capacity new.publications → IsSameIndex old.index new.index
    → IsRoomFor old room → IsRoomFor new room
room-stays old new None entries more publications more_publications same has = tt
room-stays old new (Some issuer) entries more publications more_publications same has = record {
  entry = omega (arith, has.entry, entries, more);
  publication = omega (arith, has.publication, publications, more_publications);
  place = λ valid. same.room issuer (has.place valid);
}

-- the same is kept, with other room
pub kept-room : (old new : Inside) → IsLedger old → new.entries.items ≡ old.entries.items → new.publications.items ≡ old.publications.items → IsSameIndex old.index new.index
    → new.accreditations ≡ old.accreditations → new.kept_bytes ≡ old.kept_bytes → IsRoomFor new (option_map (λ s. s.value) new.room) → IsLedger new
kept-room old new kept entries publications same accreditations bytes room = record {
  index = (let P : History → Type 0 = λ h. IsIndex h new.index in subst P (sym entries) (index-same old.entries.items old.index new.index same kept.index));
  publications = (let P : List ℕ → Type 0 = λ l. ArePlaces is_publication new.entries.items l in
      let Q : History → Type 0 = λ h. ArePlaces is_publication h old.publications.items in
      subst P (sym publications) (subst Q (sym entries) kept.publications));
  accreditations = accreditations ∙ (kept.accreditations ∙ ap (λ h. length (filter is_accreditation h)) (sym entries));
  kept_bytes = bytes ∙ (kept.kept_bytes ∙ ap kept_bytes (sym entries));
  few = (let P : History → Type 0 = λ h. AreFew h in subst P (sym entries) kept.few);
  room = room;
}

-- ---- one more entry

counted : (test : KeptEntry → Bool) (history : History) (e : KeptEntry) → length (filter test (history ++ e ∷ [])) ≡ length (filter test history) + cond (test e) 1 0
counted test history e =
    let parts = ap length (filter-append test history (e ∷ [])) ∙ length-append (filter test history) (filter test (e ∷ [])) in
    parts ∙ ap (λ n. length (filter test history) + n) (one (test e))
  where
    one : (b : Bool) → length (cond b (e ∷ []) []) ≡ cond b 1 0
    one true = refl
    one false = refl

pub kept-push : (old new : Inside) (e : KeptEntry) → IsLedger old → new.entries.items ≡ old.entries.items ++ e ∷ [] → IsIndex (old.entries.items ++ e ∷ []) new.index
    → new.publications.items ≡ cond (is_publication e) (old.publications.items ++ length old.entries.items ∷ []) old.publications.items
    → new.accreditations ≡ old.accreditations + cond (is_accreditation e) 1 0 → new.kept_bytes ≡ old.kept_bytes + length e.body
    → AreFew (old.entries.items ++ e ∷ []) → option_map (λ s. s.value) new.room ≡ None → IsLedger new
kept-push old new e kept entries index publications accreditations bytes few room = record {
  index = (let P : History → Type 0 = λ h. IsIndex h new.index in subst P (sym entries) index);
  publications = (let P : List ℕ → Type 0 = λ l. ArePlaces is_publication new.entries.items l in
      let Q : History → Type 0 = λ h. ArePlaces is_publication h (cond (is_publication e) (old.publications.items ++ length old.entries.items ∷ []) old.publications.items) in
      subst P (sym publications) (subst Q (sym entries) (places-push is_publication old.entries.items e old.publications.items kept.publications)));
  accreditations = accreditations ∙ (ap (λ n. n + cond (is_accreditation e) 1 0) kept.accreditations
      ∙ (sym (counted is_accreditation old.entries.items e) ∙ ap (λ h. length (filter is_accreditation h)) (sym entries)));
  kept_bytes = bytes ∙ (ap (λ n. n + length e.body) kept.kept_bytes
      ∙ (total old.entries.items ∙ ap kept_bytes (sym entries)));
  few = (let P : History → Type 0 = λ h. AreFew h in subst P (sym entries) few);
  room = (let P : Option (List ℕ) → Type 0 = λ o. IsRoomFor new o in subst P (sym room) tt);
}
  where
    total : (history : History) → kept_bytes history + length e.body ≡ kept_bytes (history ++ e ∷ [])
    total history = omega (arith, sum_by-append (λ (x : KeptEntry). length x.body) history (e ∷ []))

-- the entries as contracts see them
pub old-entries : (ledger : Inside) (state : LedgerState) (e : KeptEntry) → view_of ledger ≡ state → AreFew (state.entries ++ e ∷ []) → AreFew (ledger.entries.items ++ e ∷ [])
old-entries ledger state e is few = (let P : LedgerState → Type 0 = λ s. AreFew (s.entries ++ e ∷ []) in subst P (sym is) few)

-- one more accreditation, and still at most as many as entries
pub few-accreditations : (ledger : Inside) (e : KeptEntry) → IsLedger ledger → AreFew (ledger.entries.items ++ e ∷ []) → ledger.accreditations + cond (is_accreditation e) 1 0 ≤ 10000000
few-accreditations ledger e kept few =
    omega (arith, kept.accreditations, counted is_accreditation ledger.entries.items e, filter-few is_accreditation (ledger.entries.items ++ e ∷ []), few.entries)
